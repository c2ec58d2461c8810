use native.Mathlib.Nat.{mod-eq_of_lt, one-mul}
use borrow.Author.Tests.{le-ltb, lt-ltb}
use lib.Pow.{pow-lt}
use Rattle.text.specs.Words.{bit_at}
use Rattle.text.proofs.bit_at.Goals as goal

pub returns-then-j-lt32 : goal.returns-then-j-lt32
unfolding bit_at
returns-then-j-lt32 c = rw (lt-ltb _ _ c.if-j-lt32.true, one-mul) (mod-eq_of_lt (pow-lt c.if-j-lt32.true))

pub returns-else-j-lt32 : goal.returns-else-j-lt32
unfolding bit_at
returns-else-j-lt32 c = rw (le-ltb _ _ c.if-j-lt32.false)
