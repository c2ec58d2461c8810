use mathlib.Core.Path.{sym, ◌∙◌}
use borrow.Author.Tests.{eq-eqb, ne_eqb}
use Rattle.line.specs.Shape.{alone}
use Rattle.line.proofs.shapes.alone.Goals as goal

pub returns-in_err-v : goal.returns-in_err-v
unfolding alone
returns-in_err-v c = rw (c.from_residual.ensures, (sym c.number_at.ensures ∙ c.in_err-v.was))

pub returns-then-e-w : goal.returns-then-e-w
unfolding alone
returns-then-e-w c = rw ((sym c.number_at.ensures ∙ c.in_ok-v.was), eq-eqb _ _ c.if-e-w.true)

pub returns-else-e-w : goal.returns-else-e-w
unfolding alone
returns-else-e-w c = rw ((sym c.number_at.ensures ∙ c.in_ok-v.was), ne_eqb _ _ c.if-e-w.false)
