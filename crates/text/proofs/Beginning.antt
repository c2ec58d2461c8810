-- What begins with a key.
use mathlib.Core.Bool.{Bool, false, true, ◌&&◌, and-false, false≢true}
use mathlib.Core.List.{List, [], ◌∷◌, ◌++◌}
use mathlib.Core.Path.{◌≡◌, refl, ap}
use Prim.Native.Nat.{ℕ, ◌+◌, ◌<◌, ◌≤◌}
use native.Mathlib.Omega.{arith}
use native.Mathlib.Numerals.{add-one}
use borrow.Author.Tests.{eq-eqb, eqb-true, ne_eqb}
use lib.Dec.{eqb}
use lib.ListN.{length, get_or, drop, drop_of_length-le}
use lib.Seq.{drop-cons}
use Rattle.text.specs.Keys.{begins}

pub begins_longer : (k w : List ℕ) → length w < length k → begins k w ≡ false
unfolding begins
begins_longer [] w h = absurd (omega arith)
begins_longer (a ∷ k) [] h = refl
begins_longer (a ∷ k) (b ∷ w) h = rw (begins_longer k w (omega arith)) (and-false (eqb b a))

module _ (k w : List ℕ) (i : ℕ) where
  pub begins-next : i < length k → i < length w → get_or w i 0 ≡ get_or k i 0 → begins (drop i k) (drop i w) ≡ begins (drop (i + 1) k) (drop (i + 1) w)
  unfolding begins
  begins-next h l e = rw (drop-cons k i 0 h, drop-cons w i 0 l, eq-eqb _ _ e, add-one)

  pub begins-other : i < length k → i < length w → (get_or w i 0 ≡ get_or k i 0 → ⊥) → begins (drop i k) (drop i w) ≡ false
  unfolding begins
  begins-other h l e = rw (drop-cons k i 0 h, drop-cons w i 0 l, ne_eqb _ _ e)

  pub begins-all : length k ≤ i → begins (drop i k) (drop i w) ≡ true
  unfolding begins
  begins-all h = rw (drop_of_length-le k h)

-- what begins with a key is the key and what stands after it
pub begins_sound : (k w : List ℕ) → begins k w ≡ true → w ≡ k ++ drop (length k) w
unfolding begins
begins_sound [] w h = refl
begins_sound (k ∷ ks) [] h = absurd (false≢true h)
begins_sound (k ∷ ks) (b ∷ w) h = go (eqb b k) refl h (begins_sound ks w)
  where
    go : (t : Bool) → eqb b k ≡ t → (t && begins ks w) ≡ true → (begins ks w ≡ true → w ≡ ks ++ drop (length ks) w) → b ∷ w ≡ k ∷ (ks ++ drop (length ks) w)
    go true e h f = rw (eqb-true b k e) (ap (λ (l : List ℕ). k ∷ l) (f h))
    go false e h f = absurd (false≢true h)
