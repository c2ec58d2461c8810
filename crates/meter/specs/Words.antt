-- The words in which C lends a view: situation and predecessor, the inputs and the old ones, thirty ages; the latched outputs come last.
use Rattle.std.specs.Prelude.{List, ℕ, get_or, take, drop}
use Rattle.cond.specs.declared.Moment.{Moment}
use Rattle.cond.specs.declared.View.{View}

abbrev pub moment_of : List ℕ → Moment
moment_of w = record { situation = get_or w 0 0; previous = get_or w 1 0; latched = get_or w 36 0 }

abbrev pub view_of : List ℕ → View
view_of w = record { moment = moment_of w; inputs = get_or w 2 0; old = get_or w 3 0; ages = take 30 (drop 4 w) }
