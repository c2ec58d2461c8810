use Prim.Native.Nat.{◌-◌, ◌/◌}
use Rattle.cond.specs.Bounds.{longest}
use Rattle.cond.proofs.sight.Sight.+after_at_cond_at.Given as goal

abbrev pub decreases-after_at : goal.decreases-after_at
decreases-after_at l = longest - l.q.0 / 16

abbrev pub decreases-cond_at : goal.decreases-cond_at
decreases-cond_at l = longest - l.at
