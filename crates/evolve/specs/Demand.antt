-- Demand 3, of one answer: what a number and a count say of a sequence s0, s1, s2, .. of which q k says that s_k is stable and e i j that s_i and s_j are equal,
-- and so of the evolution from a view.
use Rattle.std.specs.Prelude.{Bool, true, false, List, [], ◌∷◌, ◌≡◌, ℕ, ◌^◌, ◌≤◌, ◌<◌}
use Rattle.cond.specs.declared.View.{View}
use Rattle.evolve.specs.Net.{Net}
use Rattle.evolve.specs.Evolution.{stable, at, same}

module _ (q : ℕ → Bool) (e : ℕ → ℕ → Bool) where
  -- "when the answer is stable, the reported firings are the least number of simultaneous firings that reaches a stable situation, and never
  -- more than 4 to the power n": than the bound
  pub record Least (limit bound k : ℕ) : Type 0 where
    pub within : k ≤ limit
    pub rests : q k ≡ true
    pub least : (i : ℕ) → i < k → q i ≡ false
    pub bounded : k ≤ bound

  -- "\"Unstable\" is said only if no number of firings reaches one." Its count is 01's "least such j", at most the limit.
  pub record Unstable (limit j : ℕ) : Type 0 where
    pub never : (m : ℕ) → q m ≡ false
    pub within : j ≤ limit
    pub earlier : ℕ
    pub after-start : 0 < earlier
    pub before : earlier < j
    pub repeated : e earlier j ≡ true
    pub least : (a b : ℕ) → 0 < a → a < b → b < j → e a b ≡ false

  -- "within the chart's own limit, no stable situation and no repeated state appears"
  pub record Neither (limit : ℕ) : Type 0 where
    pub busy : (k : ℕ) → k ≤ limit → q k ≡ false
    pub apart : (i j : ℕ) → 0 < i → i < j → j ≤ limit → e i j ≡ false

  pub record Demand (limit bound number count : ℕ) : Type 0 where
    -- 01, Answer numbers: 0 exactly when "some s_k with k at most L stable"
    pub on-stable : number ≡ 0 → Least limit bound count
    pub stable_if : (k : ℕ) → k ≤ limit → q k ≡ true → number ≡ 0
    -- 12 exactly when "no stable state; s_j equals an earlier s_i, 1 ≤ i < j ≤ L"
    pub on_unstable : number ≡ 12 → Unstable limit count
    pub unstable_if : (i j : ℕ) → 0 < i → i < j → j ≤ limit → e i j ≡ true → ((k : ℕ) → k ≤ limit → q k ≡ false) → number ≡ 12
    -- "\"Cut\" is said exactly if" neither appears, and its count is the limit; "so it is never said where the limit exceeds 4 to the power n"
    pub on_cut : number ≡ 13 → Neither limit × (count ≡ limit)
    pub cut_if : Neither limit → number ≡ 13
    pub never_cut : bound < limit → number ≡ 13 → ⊥

-- s_k of the evolution is stable; s_i and s_j of it are equal
abbrev pub rests_at : Net → View → ℕ → Bool
rests_at c v k = stable c (at c v k)

abbrev pub repeats : Net → View → ℕ → ℕ → Bool
repeats c v i j = same c (at c v i).moment (at c v j).moment

-- "4 to the power n", for a chart of n steps
abbrev pub bound : Net → ℕ
bound c = 4 ^ c.steps

abbrev pub Demand3 : Net → View → ℕ → ℕ → Type 0
Demand3 c v number count = Demand (rests_at c v) (repeats c v) c.limit (bound c) number count

-- every line of a list has a property
abbrev pub All : {A : Type 0} → (A → Type 0) → List A → Type 0
All P [] = Unit {0}
All P (a ∷ l) = P a × All P l

-- what is supposed of a chart and of the view in which an evolution begins: their steps are declared
pub record StepsDeclared (c : Net) (v : View) : Type 0 where
  pub after : All (λ m. m.after < 2 ^ c.steps) c.moves
  pub situation : v.moment.situation < 2 ^ c.steps
