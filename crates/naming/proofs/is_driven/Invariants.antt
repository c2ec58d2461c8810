use Prim.Native.Nat.{◌-◌}
use lib.ListN.{length}
use Rattle.tokens.proofs.Scans.{Scanning}
use Rattle.naming.specs.Names.{driven_in, is_driven}
use Rattle.naming.proofs.is_driven.Given as goal

abbrev pub invariant-loop-t : goal.invariant-loop-t
invariant-loop-t l = Scanning (driven_in l.text l.t) (is_driven l.text l.t) l.text l.u

abbrev pub decreases-loop-t : goal.decreases-loop-t
decreases-loop-t l = length l.text - l.u.place
