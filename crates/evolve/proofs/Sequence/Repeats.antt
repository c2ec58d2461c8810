-- A sequence in which each value determines the next: where it first repeats, found with no memory of what was passed.
use Prim.Native.Nat.{ℕ, zero, suc, ◌+◌, ◌-◌, ◌*◌, ◌≤◌, ◌<◌}
use mathlib.Core.Path.{◌≡◌, sym, ◌∙◌, subst, ap}
use native.Mathlib.Nat.{add-zero, add-suc, suc-mul, zero-mul, mul-one, lt_of_not-le, le_of_suc-le-suc, mul-le-mul_left}
use native.Mathlib.Omega.{arith}

module _ {A : Type 0} (g : ℕ → A) (det : (i j : ℕ) → g i ≡ g j → g (suc i) ≡ g (suc j)) where
  -- equal values go on equally
  pub shift : (i j m : ℕ) → g i ≡ g j → g (i + m) ≡ g (j + m)
  shift i j zero p = rw (add-zero i, add-zero j) p
  shift i j (suc m) p = rw (add-suc i m, add-suc j m) (det (i + m) (j + m) (shift i j m p))

  -- from a on, a period p carries over any number of turns
  turns : (a p m : ℕ) → g a ≡ g (a + p) → g a ≡ g (a + m * p)
  turns a p zero h = ap g (omega (arith, zero-mul p))
  turns a p (suc m) h =
      let s : g (a + m * p) ≡ g (a + p + m * p) = shift a (a + p) (m * p) h in
      turns a p m h ∙ s ∙ ap g (omega (arith, suc-mul m p))

  -- periods at two places hold at each other's places: a period d at M is one at any a that has a period p
  carried : (a p M d : ℕ) → 0 < p → g a ≡ g (a + p) → g M ≡ g (M + d) → g a ≡ g (a + d)
  carried a p M d pos h k =
      let far : M ≤ M * p = subst (λ (n : ℕ). n ≤ M * p) (mul-one M) (mul-le-mul_left M pos) in
      let t : ℕ = a + M * p - M in
      let e : M + t ≡ a + M * p = omega arith in
      let e' : M + d + t ≡ a + d + M * p = omega arith in
      let s : g (a + d) ≡ g (a + d + M * p) = turns (a + d) p M (shift a (a + p) d h ∙ ap g (omega arith)) in
      turns a p M h ∙ ap g (sym e) ∙ shift M (M + d) t k ∙ ap g e' ∙ sym s

  -- d is the least period at M, u the least place with the period d: before u + d nothing repeats
  pub first : (M d u : ℕ) → 0 < d → g M ≡ g (M + d) → ((t : ℕ) → 0 < t → t < d → g M ≡ g (M + t) → ⊥)
      → ((t : ℕ) → t < u → g t ≡ g (t + d) → ⊥)
      → (a b : ℕ) → a < b → b < u + d → g a ≡ g b → ⊥
  first M d u pos k least before a b l below h =
      let p : ℕ = b - a in
      let q : a + p ≡ b = omega arith in
      let h' : g a ≡ g (a + p) = h ∙ ap g (sym q) in
      let ua : u ≤ a = le_of_suc-le-suc (lt_of_not-le (λ (z : suc a ≤ u). before a z (carried a p M d (omega arith) h' k))) in
      let dp : d ≤ p = le_of_suc-le-suc (lt_of_not-le (λ (z : suc p ≤ d). least p (omega arith) z (carried M d a p pos k h'))) in
      omega arith
