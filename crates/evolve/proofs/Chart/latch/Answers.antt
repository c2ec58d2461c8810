use Rattle.text.specs.Words.{without}
use lib.Bits.{bit_or}
use mathlib.Core.Path.{ap}
use Rattle.evolve.specs.declared.Masks.{Masks}
use Rattle.evolve.specs.Parts.{masks_of}
use Rattle.evolve.specs.Evolution.{latch}
use Rattle.evolve.proofs.Chart.latch.Goals as goal

pub returns : goal.returns
unfolding latch masks_of
returns c = ap (λ (m : Masks). without (bit_or c.args.lit m.on) m.off) c.masks-m.ensures
