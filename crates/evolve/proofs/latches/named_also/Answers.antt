use Rattle.evolve.proofs.Looks.Also.{bit_of}
use mathlib.Core.Path.{ap}
use Prim.Native.Nat.{ℕ}
use lib.Bits.{bit_or}
use Rattle.evolve.proofs.latches.named_also.Goals as goal

pub returns : goal.returns
returns c = ap (λ (b : ℕ). bit_or b c.args.all) (bit_of _ c.bit_at.ensures)
