use borrow.Author.Tests.{le-ltb}
use Rattle.text.proofs.Items.{no_bit}
use mathlib.Core.Path.{sym, ◌∙◌}
use Rattle.text.proofs.has_item.Goals as goal

pub returns-else-j-lt32 : goal.returns-else-j-lt32
returns-else-j-lt32 c = le-ltb _ _ c.if-j-lt32.false ∙ sym (no_bit _ _ c.ranges.w.fits c.if-j-lt32.false)
