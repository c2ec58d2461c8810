use Prim.Native.Nat.{◌-◌}
use lib.ListN.{length}
use Rattle.tokens.proofs.Scans.{Scanning}
use Rattle.naming.specs.Names.{listed_in, is_listed}
use Rattle.naming.proofs.is_listed.Given as goal

abbrev pub invariant-loop-u : goal.invariant-loop-u
invariant-loop-u l = Scanning (listed_in l.text l.t) (is_listed l.text l.from l.t) l.text l.u

abbrev pub decreases-loop-u : goal.decreases-loop-u
decreases-loop-u l = length l.text - l.u.place
