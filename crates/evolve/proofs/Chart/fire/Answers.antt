use Rattle.evolve.proofs.Stages.Firing.{fire_start, fire_turn, fire_stop}
use Rattle.evolve.specs.Table.{net_in}
use mathlib.Core.Path.{sym, ◌∙◌}
use Rattle.evolve.proofs.Chart.fire.Goals as goal

pub loop-k-init : goal.loop-k-init
loop-k-init c = fire_start _ _ _

pub returns-in_default : goal.returns-in_default
unfolding net_in
returns-in_default c = fire_stop _ _ _ c.loop-k.invariant (sym c.in_default.is ∙ c.look.ensures)

pub loop-k-preserved : goal.loop-k-preserved
unfolding net_in
loop-k-preserved c = fire_turn _ _ _ c.loop-k.invariant c.loop-k-test.true (sym c.in-Some.is ∙ c.look.ensures) c.step_on.ensures
