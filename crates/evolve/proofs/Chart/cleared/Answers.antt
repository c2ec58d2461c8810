use borrow.Author.Tests.{eq-eqb, ne_eqb}
use Rattle.evolve.specs.Evolution.{cleared}
use Rattle.evolve.specs.Table.{move_in, condition_at}
use Rattle.cond.specs.Meaning.{true_in}
use mathlib.Core.Path.{ap, ◌∙◌}
use Prim.Native.Nat.{ℕ}
use Rattle.evolve.proofs.Chart.cleared.Goals as goal

pub returns-then-before-view : goal.returns-then-before-view
unfolding move_in cleared
returns-then-before-view c =
    let z = c.args in
    let named = ap (λ (w : ℕ). true_in z.view.now (condition_at z.self.now.text.now w)) c.condition.ensures in
    rw (← c.before-before.ensures, eq-eqb _ _ c.if-before-view.true) (c.condition_holds.ensures ∙ named)

pub returns-else-before-view : goal.returns-else-before-view
unfolding move_in cleared
returns-else-before-view c = rw (← c.before-before.ensures, ne_eqb _ _ c.if-before-view.false)
