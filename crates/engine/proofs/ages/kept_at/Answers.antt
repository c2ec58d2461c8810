use mathlib.Core.Bool.{Bool, ◌&&◌}
use mathlib.Core.Path.{sym, ◌∙◌, ap₂}
use Rattle.engine.proofs.ages.kept_at.Goals as goal

pub returns-then-was-is : goal.returns-then-was-is
returns-then-was-is c = rw (ap₂ (λ (a b : Bool). a && b) (sym c.has_item-was.ensures) (sym c.has_item-is.ensures) ∙ c.if-was-is.true)

pub returns-else-was-is : goal.returns-else-was-is
returns-else-was-is c = rw (ap₂ (λ (a b : Bool). a && b) (sym c.has_item-was.ensures) (sym c.has_item-is.ensures) ∙ c.if-was-is.false)
