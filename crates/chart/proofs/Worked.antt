-- The worked texts have the answers of their table: computed.
use lib.Dec.{T}
use Rattle.text.specs.Keys.{begins}
use Rattle.text.specs.Lines.{byte_before, split}
use Rattle.text.specs.Numbers.{run, ended, number}
use Rattle.cond.specs.Meaning.{undeclared, edged}
use Rattle.cond.specs.Reading.{only, numbered, indexed, edge_at, plain, delay_at, timed, atom_at, negated, closed, joined, more_if, more, begins_factor, factor_by, factor_at, term_at, cond_at, whole, read_cond}
use Rattle.cond.specs.Judging.{judged_as, judged}
use Rattle.line.specs.Shape.{in_front, comma_if, item_then, items, list_at, only_line, alone, one_number, initial_line, move_to, move_line, hold_to, hold_line, latch_to, latch_line, head_number, head_shape, shape}
use Rattle.line.specs.Rules.{with_number, extended, rising, beyond, is_held, rules, fault}
use Rattle.chart.specs.Reading.{onward, read_from, read_chart, verdict}
use Rattle.chart.specs.Cases.{times, case_head, after, right, table}

pub cases : T (right table)
unfolding
    right table times case_head after run ended number
    undeclared edged only numbered indexed edge_at plain delay_at timed atom_at negated closed joined more_if more begins_factor factor_by factor_at term_at cond_at whole read_cond judged_as judged
    byte_before split in_front comma_if item_then items list_at only_line alone one_number initial_line move_to move_line hold_to hold_line latch_to latch_line head_number begins head_shape shape
    with_number extended rising beyond is_held rules fault onward read_from read_chart verdict
cases = tt
