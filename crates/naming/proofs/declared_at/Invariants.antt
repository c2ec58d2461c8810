use Rattle.naming.specs.Names.{declared_among, declared_at}
use Prim.Native.Nat.{◌-◌}
use lib.ListN.{length}
use Rattle.tokens.proofs.Scans.{Scanning}
use Rattle.naming.proofs.declared_at.Given as goal

abbrev pub invariant-loop-t : goal.invariant-loop-t
invariant-loop-t l = Scanning (declared_among l.text l.t) (declared_at l.text l.t) l.text l.u

abbrev pub decreases-loop-t : goal.decreases-loop-t
decreases-loop-t l = length l.text - l.u.place
