use Rattle.outline.specs.Reading.{reading_from, reading_of}
use Prim.Native.Nat.{◌-◌}
use lib.ListN.{length}
use Rattle.tokens.proofs.Scans.{Scanning}
use Rattle.outline.proofs.read.Given as goal

abbrev pub invariant-loop-t : goal.invariant-loop-t
invariant-loop-t l = Scanning (reading_from l.text l.reading) (reading_of l.text) l.text l.t

abbrev pub decreases-loop-t : goal.decreases-loop-t
decreases-loop-t l = length l.text - l.t.place
