-- What an end says of a sequence: the search's end says it, and no other end does.
use Prim.Native.Nat.{ℕ, zero, suc, ◌+◌, ◌≤◌, ◌<◌}
use mathlib.Core.Path.{◌≡◌, refl, sym, ◌∙◌, subst, ap}
use mathlib.Core.Bool.{Bool, true, false, cond, ◌||◌, true≢false, false≢true}
use mathlib.Core.Logic.{◌⊎◌, inl, inr, ⊎_elim}
use native.Mathlib.Nat.{not-suc-le-zero, zero-add, add-zero, add-suc, suc-add, le_of_suc-le-suc, lt_of_not-le, le_antisymm, eq-or-lt_of_le}
use native.Mathlib.Decide.{dec_lt}
use native.Mathlib.Omega.{arith}
use Rattle.evolve.specs.declared.End.{End}
use Rattle.evolve.specs.declared.End.TheVariants.{Rest, Loops, Cut}
use Rattle.evolve.specs.Search.{came_before, search}

-- no test both passes and fails
pub never_both : {b : Bool} → b ≡ true → b ≡ false → ⊥
never_both p r = true≢false (sym p ∙ r)

-- numbers of which neither is less are equal
pub by_order : (k l : ℕ) → (k < l → ⊥) → (l < k → ⊥) → k ≡ l
by_order k l f g = le_antisymm (le_of_suc-le-suc (lt_of_not-le g)) (le_of_suc-le-suc (lt_of_not-le f))

-- neither test passes, or one of them does
neither : (a b : Bool) → a || b ≡ false → (a ≡ false) × (b ≡ false)
neither true b p = absurd (true≢false p)
neither false b p = (refl, p)

one_of : (a b : Bool) → a || b ≡ true → (a ≡ true) ⊎ (b ≡ true)
one_of true b p = inl refl
one_of false b p = inr p

module _ (q : ℕ → Bool) (e : ℕ → ℕ → Bool) where
  -- none of the first a is stable, and of s_1 .. below b no two are equal
  pub record Quiet (a b : ℕ) : Type 0 where
    pub busy : (i : ℕ) → i < a → q i ≡ false
    pub apart : (i j : ℕ) → 0 < i → i < j → j < b → e i j ≡ false

  -- what an end says
  abbrev pub Says : ℕ → End → Type 0
  Says L (Rest k) = (k ≤ L) × (q k ≡ true) × Quiet k (suc k)
  Says L (Loops j) = (j ≤ L) × Quiet j j × ((i : ℕ) × (0 < i) × (i < j) × (e i j ≡ true))
  Says L (Cut k) = (k ≡ L) × Quiet (suc L) (suc L)

  -- s_j equals none of s_1 .. s_i
  came_before_false : (i j : ℕ) → came_before q e i j ≡ false → (a : ℕ) → 0 < a → a ≤ i → e a j ≡ false
  unfolding came_before
  came_before_false zero j p a h l = absurd (omega arith)
  came_before_false (suc i) j p a h l =
      let r = neither (e (suc i) j) (came_before q e i j) p in
      ⊎_elim (λ s. subst (λ (n : ℕ). e n j ≡ false) (sym s) r.0) (λ s. came_before_false i j r.1 a h (omega arith)) (eq-or-lt_of_le l)

  -- it equals one of them
  came_before_true : (i j : ℕ) → came_before q e i j ≡ true → (a : ℕ) × (0 < a) × (a < suc i) × (e a j ≡ true)
  unfolding came_before
  came_before_true zero j p = absurd (false≢true p)
  came_before_true (suc i) j p =
      ⊎_elim (λ s. (suc i, omega arith, omega arith, s)) (λ s. let r = came_before_true i j s in (r.0, r.1, omega (arith, r.2), r.3))
      (one_of (e (suc i) j) (came_before q e i j) p)

  -- One state more

  more-busy : (k : ℕ) → ((i : ℕ) → i < k → q i ≡ false) → q k ≡ false → (i : ℕ) → i < suc k → q i ≡ false
  more-busy k b p i h =
      ⊎_elim (λ s. subst (λ (n : ℕ). q n ≡ false) (sym s) p) (λ s. b i s) (eq-or-lt_of_le (le_of_suc-le-suc h))

  more-apart : (k : ℕ) → ((i j : ℕ) → 0 < i → i < j → j < suc k → e i j ≡ false) → came_before q e k (suc k) ≡ false
      → (i j : ℕ) → 0 < i → i < j → j < suc (suc k) → e i j ≡ false
  more-apart k a p i j h l m =
      ⊎_elim (λ s. subst (λ (n : ℕ). e i n ≡ false) (sym s) (came_before_false k (suc k) p i h (omega arith))) (λ s. a i j h l s)
      (eq-or-lt_of_le (le_of_suc-le-suc m))

  -- from s_k on, if all is quiet up to there
  search-says : (f k : ℕ) → Quiet k (suc k) → Says (k + f) (search q e f k)
  unfolding search
  search-says zero k c = go (q k) refl
    where
      go : (t : Bool) → q k ≡ t → Says (k + zero) (cond t (Rest k) (Cut k))
      go true p = (omega arith, p, c)
      go false p = rw add-zero (refl, record { busy = more-busy k c.busy p; apart = c.apart })
  search-says (suc f) k c = go (search-says f (suc k)) (q k) (came_before q e k (suc k)) refl refl
    where
      go : (Quiet (suc k) (suc (suc k)) → Says (suc k + f) (search q e f (suc k))) → (t u : Bool) → q k ≡ t → came_before q e k (suc k) ≡ u
          → Says (k + suc f) (cond t (Rest k) (cond u (Loops (suc k)) (search q e f (suc k))))
      go more true u p r = (omega arith, p, c)
      go more false true p r = (omega arith, record { busy = more-busy k c.busy p; apart = c.apart }, came_before_true k (suc k) r)
      go more false false p r =
          subst (λ (n : ℕ). Says n (search q e f (suc k))) (suc-add k f ∙ sym (add-suc k f))
          (more (record { busy = more-busy k c.busy p; apart = more-apart k c.apart r }))

  none : Quiet 0 1
  none = record { busy = λ i h. absurd (not-suc-le-zero h); apart = λ i j h l m. absurd (omega arith) }

  -- from s0 on
  pub whole : (L : ℕ) → Says L (search q e L 0)
  whole L = subst (λ (n : ℕ). Says n (search q e L 0)) (zero-add L) (search-says L 0 none)

  -- what an end says, it alone says
  pub only : (L : ℕ) (x y : End) → Says L x → Says L y → x ≡ y
  only L (Rest k) (Rest l) s t = ap Rest (by_order k l (λ h. never_both s.1 (t.2.busy k h)) (λ h. never_both t.1 (s.2.busy l h)))
  only L (Rest k) (Loops l) s t =
      elim (dec_lt k l) [
        | yes h ↦ absurd (never_both s.1 (t.1.busy k h))
        | no h ↦
            let g : l ≤ k = le_of_suc-le-suc (lt_of_not-le h) in
            absurd (never_both t.2.3 (s.2.apart t.2.0 l t.2.1 t.2.2 (omega arith)))
      ]
  only L (Rest k) (Cut l) s t = absurd (never_both s.1 (t.1.busy k (omega (arith, s.0))))
  only L (Loops k) (Rest l) s t =
      elim (dec_lt l k) [
        | yes h ↦ absurd (never_both t.1 (s.1.busy l h))
        | no h ↦
            let g : k ≤ l = le_of_suc-le-suc (lt_of_not-le h) in
            absurd (never_both s.2.3 (t.2.apart s.2.0 k s.2.1 s.2.2 (omega arith)))
      ]
  only L (Loops k) (Loops l) s t =
      ap Loops (by_order k l (λ h. never_both s.2.3 (t.1.apart s.2.0 k s.2.1 s.2.2 h))
      (λ h. never_both t.2.3 (s.1.apart t.2.0 l t.2.1 t.2.2 h)))
  only L (Loops k) (Cut l) s t = absurd (never_both s.2.3 (t.1.apart s.2.0 k s.2.1 s.2.2 (omega (arith, s.0))))
  only L (Cut k) (Rest l) s t = absurd (never_both t.1 (s.1.busy l (omega (arith, t.0))))
  only L (Cut k) (Loops l) s t = absurd (never_both t.2.3 (s.1.apart t.2.0 l t.2.1 t.2.2 (omega (arith, t.0))))
  only L (Cut k) (Cut l) s t = ap Cut (s.0 ∙ sym t.0)
