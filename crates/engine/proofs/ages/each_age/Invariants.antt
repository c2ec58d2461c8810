use Rattle.std.proofs.Common.{◌≡◌, ℕ, ◌<◌, length, get_or}
use Rattle.engine.proofs.ages.each_age.Given as goal

abbrev pub invariant-loop-j : goal.invariant-loop-j
invariant-loop-j g l =
    goal.F-IsAlwaysCallable g l.f × (length l.next ≡ 30)
    × ((h : ℕ → ℕ → ℕ) → ((j age r : ℕ) → goal.F-post g l.f j age r → r ≡ h j age) → (k : ℕ) → k < l.j → get_or l.next k 0 ≡ h k (get_or l.ages k 0))
