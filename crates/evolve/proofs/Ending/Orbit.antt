-- A sequence in which what is compared decides what follows (specs/Orbit.antt): nothing is stable after a repeat, and how the sequence ends is found with no
-- memory of what was passed.
use Prim.Native.Nat.{ℕ, zero, suc, ◌+◌, ◌-◌, ◌≤◌, ◌<◌}
use mathlib.Core.Path.{◌≡◌, refl, sym, ap, ◌∙◌, subst}
use mathlib.Core.Bool.{Bool, true, false}
use native.Mathlib.Nat.{not-suc-le-zero, suc-add, le_of_suc-le-suc, lt_of_not-le}
use native.Mathlib.Decide.{dec_lt}
use native.Mathlib.Omega.{arith}
use Rattle.evolve.specs.Orbit.{Orbit}
use Rattle.evolve.specs.declared.End.TheVariants.{Rest, Loops, Cut}
use Rattle.evolve.proofs.Ending.Says.{Says, never_both}
use Rattle.evolve.proofs.Sequence.Repeats.{shift, first}

-- a test that cannot pass fails
fails : (b : Bool) → (b ≡ true → ⊥) → b ≡ false
fails true h = absurd (h refl)
fails false h = refl

module _ {K : Type 0} {q : ℕ → Bool} {e : ℕ → ℕ → Bool} {g : ℕ → K} (o : Orbit q e g) where
  -- equal states go on equally
  onward : (i j t : ℕ) → g i ≡ g j → g (i + t) ≡ g (j + t)
  onward = shift g o.decides

  -- and are both stable or both not, however many firings later
  back : (i j t : ℕ) → 0 < i → i < j → e i j ≡ true → q (i + t) ≡ q (j + t)
  back zero j t h l r = absurd (omega arith)
  back (suc i) zero t h l r = absurd (omega arith)
  back (suc i) (suc j) t h l r = ap q (suc-add i t) ∙ o.rests (i + t) (j + t) (onward i j t (o.equal i j r)) ∙ ap q (sym (suc-add j t))

  -- s_j equals an earlier state, and no state before it is stable: none ever is
  module _ (i j : ℕ) (some : 0 < i) (before : i < j) (repeated : e i j ≡ true) (busy : (m : ℕ) → m < j → q m ≡ false) where
    never-below : (n m : ℕ) → m < n → q m ≡ false
    never-below zero m h = absurd (not-suc-le-zero h)
    never-below (suc n) m h =
        elim (dec_lt m j) [
          | yes s ↦ busy m s
          | no s ↦
              let l : j ≤ m = le_of_suc-le-suc (lt_of_not-le s) in
              let u : j + (m - j) ≡ m = omega arith in
              subst (λ (x : ℕ). q x ≡ false) u (sym (back i j (m - j) some before repeated) ∙ never-below n (i + (m - j)) (omega arith))
        ]

    pub never : (m : ℕ) → q m ≡ false
    never m = never-below (suc m) m (omega arith)

  -- what holds of s_1, s_2, .. by what is compared of them
  apart_by : (b : ℕ) → ((i j : ℕ) → i < j → suc j < b → g i ≡ g j → ⊥) → (i j : ℕ) → 0 < i → i < j → j < b → e i j ≡ false
  apart_by b h zero j l m n = absurd (omega arith)
  apart_by b h (suc i) zero l m n = absurd (omega arith)
  apart_by b h (suc i) (suc j) l m n = fails (e (suc i) (suc j)) (λ t. h i j (le_of_suc-le-suc m) n (o.equal i j t))

  -- stable for the first time: a repeat before would have been stable earlier
  pub rest-says : (L k : ℕ) → k ≤ L → q k ≡ true → ((i : ℕ) → i < k → q i ≡ false) → Says q e L (Rest k)
  rest-says L k h r b = (h, r, record { busy = b; apart = λ i j l m n. fails (e i j) (no_repeat i j l m n) })
    where
      no_repeat : (i j : ℕ) → 0 < i → i < j → j < suc k → e i j ≡ true → ⊥
      no_repeat i j l m n z =
          let d : ℕ = k - j in
          let w : j + d ≡ k = omega arith in
          never_both (subst (λ (x : ℕ). q x ≡ true) (sym w) r) (sym (back i j d l m z) ∙ b (i + d) (omega arith))

  module _ (L : ℕ) (busy : (i : ℕ) → i < suc L → q i ≡ false) where
    -- a later state is stable: nothing repeats, for what repeats never rests
    pub later-says : (m : ℕ) → q m ≡ true → Says q e L (Cut L)
    later-says m r =
        (refl, record { busy = busy; apart = λ i j l h n. fails (e i j) (λ z. never_both r (never i j l h z (λ k w. busy k (omega arith)) m)) })

    -- s_(M+1), not before s_L, is not back within L firings: nothing repeats
    pub cut_says : (M : ℕ) → L ≤ suc M → ((t : ℕ) → 0 < t → t < L → e (suc M) (suc (M + t)) ≡ false) → Says q e L (Cut L)
    cut_says M far none = (refl, record { busy = busy; apart = apart_by (suc L) no_repeat })
      where
        no_repeat : (i j : ℕ) → i < j → suc j < suc L → g i ≡ g j → ⊥
        no_repeat i j l n z =
            let d : ℕ = j - i in
            let t : ℕ = M - i in
            let x : i + t ≡ M = omega arith in
            let y : j + t ≡ M + d = omega arith in
            let f : g M ≡ g (M + d) = ap g (sym x) ∙ onward i j t z ∙ ap g y in
            never_both (o.alike M (M + d) f) (none d (omega arith) (omega arith))

    -- d is the least number of firings after which s_(M+1) is back, u the least place after s_1 with the period d
    module _ (M d u : ℕ) (pos : 0 < d) (is-back : e (suc M) (suc (M + d)) ≡ true) (least : (t : ℕ) → 0 < t → t < d → e (suc M) (suc (M + t)) ≡ false)
        (before : (t : ℕ) → t < u → e (suc t) (suc (t + d)) ≡ false) where
      -- before the first state that is back nothing repeats
      none : (a b : ℕ) → a < b → b < u + d → g a ≡ g b → ⊥
      none =
          first g o.decides M d u pos (o.equal M (M + d) is-back) (λ t l m h. never_both (o.alike M (M + t) h) (least t l m))
          (λ t l h. never_both (o.alike t (t + d) h) (before t l))

      -- it is back within the limit
      pub loop_says : u + d < L → e (suc u) (suc (u + d)) ≡ true → Says q e L (Loops (u + d + 1))
      loop_says h here =
          let a : suc (u + d) ≡ u + d + 1 = omega arith in (
            omega arith,
            record { busy = λ i l. busy i (omega arith); apart = apart_by (u + d + 1) (λ i j l m k. none i j l (omega arith) k) },
            (suc u, omega arith, omega arith, subst (λ (n : ℕ). e (suc u) n ≡ true) a here),
          )

      -- it is back after the limit
      pub late_says : L ≤ u + d → Says q e L (Cut L)
      late_says h = (refl, record { busy = busy; apart = apart_by (suc L) (λ i j l m k. none i j l (omega arith) k) })
