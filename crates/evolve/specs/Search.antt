-- A way of the code: how an evolution ends, computed, and the view in which it leaves off. `evolve_demand` and `demand_only` (proofs/Promises.antt) fix what
-- `evolve` yields: its number and its count are those that demand 3 (Demand.antt) tells, and no others are.
use Rattle.std.specs.Prelude.{ℕ, zero, suc, Bool, false, cond, ◌||◌}
use Rattle.cond.specs.declared.View.{View}
use Rattle.evolve.specs.Net.{Net}
use Rattle.evolve.specs.Evolution.{at}
use Rattle.evolve.specs.Demand.{rests_at, repeats}
use Rattle.evolve.specs.declared.End.{End}
use Rattle.evolve.specs.declared.End.TheVariants.{Rest, Loops, Cut}

-- The search for stability in a sequence s0, s1, s2, ..: q k says that s_k is stable, e i j that s_i and s_j are equal.
-- It knows nothing else of the sequence. A repeat is looked for before the next state is asked whether it is stable: what equals an unstable
-- state is unstable too, so that 12's "no stable state" holds.
module _ (q : ℕ → Bool) (e : ℕ → ℕ → Bool) where
  -- s_j equals one of s_1 .. s_i. 01, Evolution: "s0 is never compared, since input edges live there."
  unfoldable pub came_before : ℕ → ℕ → Bool
  came_before zero j = false
  came_before (suc i) j = e (suc i) j || came_before i j

  -- 01, Answer numbers, from s_k on with f firings still allowed. 0: "some s_k with k at most L stable", the least such k;
  -- 12: "no stable state; s_j equals an earlier s_i, 1 ≤ i < j ≤ L", the least such j;
  -- 13: "none of s0 to sL stable, s1 to sL all different".
  -- The rest of the search is named by a `let`, so that it is run only where it is asked for.
  unfoldable pub search : ℕ → ℕ → End
  search zero k = cond (q k) (Rest k) (Cut k)
  search (suc f) k =
      let r = search f (suc k) in
      cond (q k) (Rest k) (cond (came_before k (suc k)) (Loops (suc k)) r)

-- how the evolution from a view ends within the chart's limit
unfoldable pub evolve : Net → View → End
evolve c v = search (rests_at c v) (repeats c v) c.limit 0

-- the view in which it leaves off: the stable one, or else the one in which it began
unfoldable pub left_off : Net → View → End → View
left_off c v (Rest k) = at c v k
left_off c v (Loops j) = v
left_off c v (Cut l) = v
