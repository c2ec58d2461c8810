-- The small charts A to L of 01 answer as it says.
use lib.Dec.{T}
use Rattle.text.specs.Numbers.{run, ended, number}
use Rattle.text.specs.Keys.{begins}
use Rattle.text.specs.Lines.{byte_before, split}
use Rattle.text.specs.Words.{bit_at, word_from}
use Rattle.cond.specs.Meaning.{true_in, undeclared, edged}
use Rattle.cond.specs.Reading.{only, numbered, indexed, edge_at, plain, delay_at, timed, atom_at, negated, closed, joined, more_if, more}
use Rattle.cond.specs.Reading.{begins_factor, factor_by, factor_at, term_at, cond_at, whole, read_cond}
use Rattle.cond.specs.Judging.{judged_as, judged, meant_as, meaning}
use Rattle.line.specs.Shape.{in_front, comma_if, item_then, items, list_at, only_line, alone, one_number, initial_line, move_to, move_line, hold_to, hold_line}
use Rattle.line.specs.Shape.{latch_to, latch_line, head_number, head_shape, shape}
use Rattle.line.specs.Rules.{with_number, extended, rising, beyond, is_held, rules, fault}
use Rattle.chart.specs.Reading.{onward, read_from, read_chart}
use Rattle.evolve.specs.Words.{gather, some}
use Rattle.evolve.specs.Net.{net_of}
use Rattle.evolve.specs.Search.{came_before, search, evolve}
use Rattle.evolve.specs.Evolution.{cleared, stable, fired, latch_acts, switched_on, switched_off, latch, latchable, moment_after, next_view, at, kept, held_outputs}
use Rattle.evolve.specs.Evolution.{compared, alike, same, situations, traced}
use Rattle.engine.specs.State.{ages_accepted, state_accepted, inputs_accepted, event_accepted, zero_state, aged, event_view, start_view}
use Rattle.engine.specs.Answers.{refusing, resting, answered, evolved, start_on, event_on}
use Rattle.engine.specs.Texts.{start_read, event_read, started, evented}
use Rattle.engine.specs.Cases.{chart_text, all_right, small_charts}
use Rattle.engine.specs.Plan.{plan_of}

-- all rows of the table at once, each outcome computed from its text
pub worked : T (all_right small_charts)
unfolding
    small_charts chart_text started evented start_read event_read plan_of net_of read_chart read_from onward extended with_number fault rules is_held word_from bit_at
    beyond rising shape head_shape begins latch_line latch_to hold_line hold_to move_line move_to initial_line head_number one_number alone only_line list_at items item_then
    comma_if in_front split byte_before judged judged_as edged undeclared start_on event_on evolved answered resting refusing latchable ages_accepted state_accepted
    inputs_accepted event_accepted zero_state aged event_view start_view cleared stable fired latch_acts switched_on switched_off latch moment_after next_view at kept held_outputs
    compared alike same evolve situations traced came_before search gather some meaning meant_as true_in read_cond whole cond_at term_at factor_at factor_by
    begins_factor more more_if joined closed negated atom_at timed delay_at plain edge_at indexed numbered only number ended run
worked = tt
