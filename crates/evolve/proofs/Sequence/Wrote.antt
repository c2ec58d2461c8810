-- What the trace holds, word by word.
use Prim.Native.Nat.{ℕ, zero, suc, ◌+◌, ◌≤◌, ◌<◌}
use mathlib.Core.List.{List, [], ◌∷◌}
use mathlib.Core.Path.{◌≡◌, refl, sym, ap, ◌∙◌}
use native.Mathlib.Nat.{add-zero, add-suc, suc-add, zero-add, not-suc-le-zero, le_of_suc-le-suc}
use native.Mathlib.Omega.{arith}
use lib.ListN.{length, get_or, set, length-set}
use lib.Seq.{sets, length-sets, get_or-set_same, get_or-set_other}
use Rattle.cond.specs.declared.View.{View}
use Rattle.evolve.specs.Net.{Net}
use Rattle.evolve.specs.Evolution.{at, situations, traced}
use Rattle.evolve.specs.Trace.{Wrote}

-- A run of stores, read back: before it, after it, and within

sets_below : (vs l : List ℕ) (p q : ℕ) → q < p → get_or (sets l p vs) q 0 ≡ get_or l q 0
sets_below [] l p q h = refl
sets_below (a ∷ vs) l p q h = sets_below vs (set l p a) (suc p) q (omega arith) ∙ get_or-set_other l p q a 0 (λ (e : q ≡ p). omega arith)

sets_above : (vs l : List ℕ) (p q : ℕ) → p + length vs ≤ q → get_or (sets l p vs) q 0 ≡ get_or l q 0
sets_above [] l p q h = refl
sets_above (a ∷ vs) l p q h = sets_above vs (set l p a) (suc p) q (omega arith) ∙ get_or-set_other l p q a 0 (λ (e : q ≡ p). omega arith)

sets_in : (vs l : List ℕ) (p j : ℕ) → j < length vs → p + j < length l → get_or (sets l p vs) (p + j) 0 ≡ get_or vs j 0
sets_in [] l p j h m = absurd (not-suc-le-zero h)
sets_in (a ∷ vs) l p zero h m =
    let i : p < length l = omega arith in
    ap (λ (n : ℕ). get_or (sets (set l p a) (suc p) vs) n 0) (add-zero p) ∙ sets_below vs (set l p a) (suc p) p (omega arith) ∙ get_or-set_same l p a 0 i
sets_in (a ∷ vs) l p (suc j) h m =
    let e = length-set l p a in
    ap (λ (n : ℕ). get_or (sets (set l p a) (suc p) vs) n 0) (add-suc p j ∙ sym (suc-add p j))
    ∙ sets_in vs (set l p a) (suc p) j (le_of_suc-le-suc h) (omega arith)

module _ (c : Net) (v : View) where
  -- so many situations
  situations_length : (i n : ℕ) → length (situations c v i n) ≡ n
  unfolding situations
  situations_length i zero = refl
  situations_length i (suc n) = ap suc (situations_length (suc i) n)

  -- situation by situation
  situations-at : (i n j : ℕ) → j < n → get_or (situations c v i n) j 0 ≡ (at c v (suc (i + j))).moment.situation
  unfolding situations
  situations-at i zero j h = absurd (not-suc-le-zero h)
  situations-at i (suc n) zero h = ap (λ (k : ℕ). (at c v (suc k)).moment.situation) (sym (add-zero i))
  situations-at i (suc n) (suc j) h =
      situations-at (suc i) n j (le_of_suc-le-suc h) ∙ ap (λ (k : ℕ). (at c v (suc k)).moment.situation) (suc-add i j ∙ sym (add-suc i j))

  -- up to the count or the end the trace holds the situations, and the rest is as it was
  pub traced_wrote : (k : ℕ) (t : List ℕ) → Wrote c v k t (traced c v k 0 t)
  unfolding traced
  traced_wrote k t =
      let n = situations_length 0 k in
      record {
        long = length-sets t 0 (situations c v 0 k);
        firings = λ j h m.
            ap (λ (q : ℕ). get_or (sets t 0 (situations c v 0 k)) q 0) (sym (zero-add j))
            ∙ sets_in (situations c v 0 k) t 0 j (omega arith) (omega arith) ∙ situations-at 0 k j h
            ∙ ap (λ (q : ℕ). (at c v (suc q)).moment.situation) (zero-add j);
        rest = λ j h. sets_above (situations c v 0 k) t 0 j (omega arith);
      }
