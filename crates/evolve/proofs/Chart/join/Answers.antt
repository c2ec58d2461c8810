use mathlib.Core.Path.{sym, ◌∙◌}
use Rattle.evolve.specs.Table.{move_in}
use Rattle.evolve.specs.Parts.{fired_also}
use Rattle.evolve.proofs.Chart.join.Goals as goal

pub returns-then-not-cleared : goal.returns-then-not-cleared
unfolding fired_also
returns-then-not-cleared c = rw (sym c.cleared.ensures ∙ c.if-not-cleared.true)

pub returns-in-Some : goal.returns-in-Some
unfolding fired_also move_in
returns-in-Some c = rw (sym c.cleared.ensures ∙ c.if-not-cleared.false, c.before-before.ensures, c.after-after.ensures, c.in-Some.is)

pub returns-in-None : goal.returns-in-None
unfolding fired_also move_in
returns-in-None c = rw (sym c.cleared.ensures ∙ c.if-not-cleared.false, c.before-before.ensures, c.after-after.ensures, c.in-None.is)
