-- The promises of an evolution. What they rest on stands in Ending, Sequence and Lines.
use mathlib.Core.Bool.{Bool, true}
use mathlib.Core.Path.{◌≡◌}
use Prim.Native.Nat.{ℕ, suc}
use Rattle.cond.specs.declared.View.{View}
use Rattle.evolve.specs.Net.{Net}
use Rattle.evolve.specs.Evolution.{at, compared, end_number, end_count}
use Rattle.evolve.specs.Search.{search, evolve}
use Rattle.evolve.specs.Demand.{Demand, rests_at, repeats, bound, Demand3, StepsDeclared}
use Rattle.evolve.specs.Orbit.{Orbit, Coded}
use Rattle.evolve.proofs.Ending.Compared.{compared_orbit}
use Rattle.evolve.proofs.Ending.Demands.{end_demand, end_only, pairs_coded}

-- What is compared of s1, s2, .. decides what follows: states that are equal in it go on equally, and are both stable or both not. 01, Evolution: "States s1,
-- s2, ... are pairs (situation, predecessor)." The latched outputs, which are left out, have no part in it: no condition looks at them.
pub evolve_orbit : (c : Net) (v : View) → Orbit (rests_at c v) (repeats c v) (λ i. compared c (at c v (suc i)).moment)
evolve_orbit = compared_orbit

module _ {K : Type 0} (q : ℕ → Bool) (e : ℕ → ℕ → Bool) (g : ℕ → K) (o : Orbit q e g) where
  -- Demand 3 of every such sequence whose states are coded by numbers below a bound: what the search finds is as it demands
  pub orbit_demand : (limit bound : ℕ) → Coded (λ i j. e (suc i) (suc j) ≡ true) bound
      → Demand q e limit bound (end_number (search q e limit 0)) (end_count (search q e limit 0))
  orbit_demand = end_demand o

  -- and it fixes number and count: no others than those that the search finds are as it demands
  pub orbit_only : (limit bound number count : ℕ) → Demand q e limit bound number count
      → (number ≡ end_number (search q e limit 0)) × (count ≡ end_count (search q e limit 0))
  orbit_only = end_only o

-- The states s1, s2, .. of an evolution are coded by numbers below "4 to the power n", where the first situation and the steps after the moves are declared: of states that are
-- not equal, there are at most as many.
pub evolve_coded : (c : Net) (v : View) → StepsDeclared c v → Coded (λ i j. repeats c v (suc i) (suc j) ≡ true) (bound c)
evolve_coded = pairs_coded

-- Demand 3: "when the answer is stable, the reported firings are the least number of simultaneous firings that reaches a stable situation, and never more than 4 to
-- the power n. \"Unstable\" is said only if no number of firings reaches one. \"Cut\" is said exactly if, within the chart's own limit, no stable situation and no
-- repeated state appears; so it is never said where the limit exceeds 4 to the power n."
pub evolve_demand : (c : Net) (v : View) → StepsDeclared c v → Demand3 c v (end_number (evolve c v)) (end_count (evolve c v))
unfolding evolve
evolve_demand c v b =
    orbit_demand (rests_at c v) (repeats c v) (λ i. compared c (at c v (suc i)).moment) (evolve_orbit c v) c.limit (bound c) (evolve_coded c v b)

-- and it fixes number and count: no others than the end's are as it demands
pub demand_only : (c : Net) (v : View) (number count : ℕ) → Demand3 c v number count → (number ≡ end_number (evolve c v)) × (count ≡ end_count (evolve c v))
unfolding evolve
demand_only c v = orbit_only (rests_at c v) (repeats c v) (λ i. compared c (at c v (suc i)).moment) (evolve_orbit c v) c.limit (bound c)
