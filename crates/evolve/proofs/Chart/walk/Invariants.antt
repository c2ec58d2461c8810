use Rattle.std.proofs.Common.{◌≡◌, ℕ, ◌-◌}
use Rattle.evolve.specs.Parts.{walked}
use Rattle.evolve.proofs.Chart.walk.Given as goal

abbrev pub invariant-loop-i : goal.invariant-loop-i
invariant-loop-i g l =
    goal.F-IsAlwaysCallable g l.more
    × ((J : ℕ → g.row.T.Denot → g.row.T.Denot) → ((i : ℕ) (found r : g.row.T.Denot) → goal.F-post g l.more found i r → r ≡ J i found)
    → l.found ≡ walked J l.fn.nothing l.i (l.initial.i - l.i))
