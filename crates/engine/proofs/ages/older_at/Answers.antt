use mathlib.Core.Path.{sym, ◌∙◌}
use Rattle.engine.proofs.ages.older_at.Goals as goal

pub returns-then-has_item : goal.returns-then-has_item
returns-then-has_item c = rw (sym c.has_item.ensures ∙ c.if-has_item.true) c.older.ensures

pub returns-else-has_item : goal.returns-else-has_item
returns-else-has_item c = rw (sym c.has_item.ensures ∙ c.if-has_item.false)
