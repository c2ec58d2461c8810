-- A way of the proofs: why a repeat is sound though a part of a state is not compared, and how many states there can be, in any sequence s0, s1, s2, ..
-- Demand 3 (Demand.antt) is told without it.
use Rattle.std.specs.Prelude.{Bool, true, ◌≡◌, ℕ, suc, ◌<◌}

-- A sequence in which what is compared decides what follows: q k says that s_k is stable, e i j that s_i and s_j are equal, and g i is what is compared of
-- s_(i+1). 01, Evolution: "s0 is never compared, since input edges live there."
pub record Orbit {K : Type 0} (q : ℕ → Bool) (e : ℕ → ℕ → Bool) (g : ℕ → K) : Type 0 where
  -- two states are equal exactly if what is compared of them is
  pub equal : (i j : ℕ) → e (suc i) (suc j) ≡ true → g i ≡ g j
  pub alike : (i j : ℕ) → g i ≡ g j → e (suc i) (suc j) ≡ true
  -- then they go on equally, and are both stable or both not: what is left out has no part in it
  pub decides : (i j : ℕ) → g i ≡ g j → g (suc i) ≡ g (suc j)
  pub rests : (i j : ℕ) → g i ≡ g j → q (suc i) ≡ q (suc j)

-- Numbers below a bound for the states of a sequence, such that states with one number are so related: of states that are not, there are at most as many
-- as the bound
pub record Coded (P : ℕ → ℕ → Type 0) (bound : ℕ) : Type 0 where
  pub code : ℕ → ℕ
  pub below : (i : ℕ) → code i < bound
  pub tells : (i j : ℕ) → code i ≡ code j → P i j
