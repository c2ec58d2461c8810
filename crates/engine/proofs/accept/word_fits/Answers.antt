use Rattle.engine.proofs.Accepts.Fits.{shifted_fits}
use borrow.Author.Tests.{lt-ltb, le-leb}
use lib.Pow.{pow_mono}
use native.Mathlib.Nat.{lt_of_lt_of_le}
use mathlib.Core.Path.{sym, ◌∙◌}
use Rattle.engine.proofs.accept.word_fits.Goals as goal

pub returns-then-items-ge32 : goal.returns-then-items-ge32
returns-then-items-ge32 c =
    let all = c.if-items-ge32.true in
    le-leb _ _ all ∙ sym (lt-ltb _ _ (lt_of_lt_of_le c.ranges.word.fits (pow_mono all)))

pub returns-else-items-ge32 : goal.returns-else-items-ge32
returns-else-items-ge32 c = shifted_fits c.args.word c.args.items
