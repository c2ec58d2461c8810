use Prim.Native.Nat.{◌+◌, ◌-◌}
use lib.ListN.{length}
use Rattle.line.specs.Shape.{items}
use Rattle.line.specs.Steps.{items_of, no_items}
use Rattle.line.proofs.Tallies.{Listing}
use Rattle.line.proofs.list.items_at.Given as goal

abbrev pub invariant-loop-v : goal.invariant-loop-v
invariant-loop-v l = Listing l.w l.n (items_of l.n no_items (items (length l.w + 1) l.w l.from)) l.at l.t

abbrev pub decreases-loop-v : goal.decreases-loop-v
decreases-loop-v l = length l.w - l.at
