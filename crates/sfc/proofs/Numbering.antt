-- Laws of words and of numbers in order of appearance.
use mathlib.Core.Bool.{Bool, true, false, cond, ◌&&◌, false≢true}
use mathlib.Core.List.{List, [], ◌∷◌, ◌++◌, map}
use mathlib.Core.Path.{◌≡◌, refl, sym, ◌∙◌}
use Prim.Native.Nat.{ℕ, zero, suc, ◌+◌, ◌≤◌, ◌<◌}
use native.Mathlib.Numerals.{add-one}
use native.Mathlib.Omega.{arith}
use borrow.Author.Tests.{eq-eqb, eqb-true, eqb-false, leb-true, leb-false}
use lib.Dec.{eqb, leb}
use lib.ListN.{length, get_or, length-append, get_or-append}
use lib.Seq.{get_or-append_seam}
use Rattle.tokens.specs.declared.Token.{Token}
use Rattle.tokens.specs.Spelling.{upper, same_word}
use Rattle.tokens.specs.Tokens.{token_bytes}
use Rattle.tokens.proofs.Order.{same-itself}
use Rattle.naming.specs.Names.{number_in, joined_to, joined_all}

-- Words: two are the same if they are equal in capitals

-- words that are the same
same-equal : (w v : List ℕ) → same_word w v ≡ true → map upper w ≡ map upper v
unfolding same_word
same-equal [] [] h = refl
same-equal [] (b ∷ v) h = absurd (false≢true h)
same-equal (a ∷ w) [] h = absurd (false≢true h)
same-equal (a ∷ w) (b ∷ v) h = go (eqb (upper a) (upper b)) refl h (λ g. same-equal w v g)
  where
    go : (x : Bool) → eqb (upper a) (upper b) ≡ x → (x && same_word w v) ≡ true → (same_word w v ≡ true → map upper w ≡ map upper v) → map upper (a ∷ w) ≡ map upper (b ∷ v)
    go true q z f = let e : upper a ≡ upper b = eqb-true (upper a) (upper b) q in let g : map upper w ≡ map upper v = f z in cc
    go false q z f = absurd (false≢true z)

-- words that are equal in capitals
equal-same : (w v : List ℕ) → map upper w ≡ map upper v → same_word w v ≡ true
unfolding same_word
equal-same [] [] h = refl
equal-same [] (b ∷ v) h = let z : ◌≡◌ {A = ℕ} 0 1 = cc in absurd (omega arith)
equal-same (a ∷ w) [] h = let z : ◌≡◌ {A = ℕ} 0 1 = cc in absurd (omega arith)
equal-same (a ∷ w) (b ∷ v) h =
    let e : upper a ≡ upper b = cc in
    let g : map upper w ≡ map upper v = cc in
    rw (eq-eqb (upper a) (upper b) e) (equal-same w v g)

-- a word is the same as itself
-- and two words are the same by way of a third
pub same-on : (u v w : List ℕ) → same_word u v ≡ true → same_word v w ≡ true → same_word u w ≡ true
same-on u v w h k = equal-same u w (same-equal u v h ∙ same-equal v w k)

-- Numbers

module _ (s : List ℕ) (t : Token) where
  -- a name's number is at most the count of names
  pub number-at_most : (l : List Token) → number_in s t l ≤ length l
  unfolding number_in
  number-at_most [] = omega arith
  number-at_most (u ∷ l) = go (same_word (token_bytes s u) (token_bytes s t)) (number-at_most l)
    where
      go : (x : Bool) → number_in s t l ≤ length l → cond x 0 (number_in s t l + 1) ≤ length (u ∷ l)
      go true h = omega arith
      go false h = omega arith

  -- the name at a name's number is that name
  pub number-holds : (l : List Token) (d : Token) → number_in s t l < length l → same_word (token_bytes s (get_or l (number_in s t l) d)) (token_bytes s t) ≡ true
  unfolding number_in
  number-holds [] d h = absurd (omega arith)
  number-holds (u ∷ l) d h = go (same_word (token_bytes s u) (token_bytes s t)) refl h (λ k. number-holds l d k)
    where
      go : (x : Bool) → same_word (token_bytes s u) (token_bytes s t) ≡ x → cond x 0 (number_in s t l + 1) < length (u ∷ l)
          → (number_in s t l < length l → same_word (token_bytes s (get_or l (number_in s t l) d)) (token_bytes s t) ≡ true)
          → same_word (token_bytes s (get_or (u ∷ l) (cond x 0 (number_in s t l + 1)) d)) (token_bytes s t) ≡ true
      go true q h f = q
      go false q h f = rw add-one (f (omega arith))

  -- before it stand other names
  pub number-least : (l : List Token) (d : Token) (i : ℕ) → i < number_in s t l → same_word (token_bytes s (get_or l i d)) (token_bytes s t) ≡ false
  unfolding number_in
  number-least [] d i h = absurd (omega arith)
  number-least (u ∷ l) d i h = go (same_word (token_bytes s u) (token_bytes s t)) refl i h (λ j k. number-least l d j k)
    where
      go : (x : Bool) → same_word (token_bytes s u) (token_bytes s t) ≡ x → (i : ℕ) → i < cond x 0 (number_in s t l + 1)
          → ((j : ℕ) → j < number_in s t l → same_word (token_bytes s (get_or l j d)) (token_bytes s t) ≡ false)
          → same_word (token_bytes s (get_or (u ∷ l) i d)) (token_bytes s t) ≡ false
      go true q i h f = absurd (omega arith)
      go false q zero h f = q
      go false q (suc i) h f = f i (omega arith)

  -- a name that stands at a place has no higher number
  pub number-up-to : (l : List Token) (d : Token) (i : ℕ) → same_word (token_bytes s (get_or l i d)) (token_bytes s t) ≡ true → number_in s t l ≤ i
  number-up-to l d i h = go (leb (number_in s t l) i) refl
    where
      go : (x : Bool) → leb (number_in s t l) i ≡ x → number_in s t l ≤ i
      go true q = leb-true (number_in s t l) i q
      go false q = absurd (false≢true (sym (number-least l d i (leb-false (number_in s t l) i q)) ∙ h))

  -- a name that is among others has a number among more
  number-kept : (l r : List Token) → number_in s t l < length l → number_in s t (l ++ r) < length (l ++ r)
  number-kept l r h =
      let e = get_or-append l r t (number_in s t l) h in
      let n = number-up-to (l ++ r) t (number_in s t l) (rw e (number-holds l t h)) in
      let k = length-append l r in
      omega arith

  -- a name that is joined to others is among them
  pub number-joined : (l : List Token) → number_in s t (joined_to s l t) < length (joined_to s l t)
  unfolding joined_to
  number-joined l = go (eqb (number_in s t l) (length l)) refl
    where
      go : (x : Bool) → eqb (number_in s t l) (length l) ≡ x → number_in s t (cond x (l ++ t ∷ []) l) < length (cond x (l ++ t ∷ []) l)
      go true q =
          let e = get_or-append_seam l t [] t in
          let n = number-up-to (l ++ t ∷ []) t (length l) (rw e (same-itself (token_bytes s t))) in
          let k = length-append l (t ∷ []) in
          omega arith
      go false q = let n = number-at_most l in let k = eqb-false (number_in s t l) (length l) q in omega arith

  -- and stays among them when more are joined
  pub kept-joined : (l : List Token) (u : Token) → number_in s t l < length l → number_in s t (joined_to s l u) < length (joined_to s l u)
  unfolding joined_to
  kept-joined l u h = go (eqb (number_in s u l) (length l))
    where
      go : (x : Bool) → number_in s t (cond x (l ++ u ∷ []) l) < length (cond x (l ++ u ∷ []) l)
      go true = number-kept l (u ∷ []) h
      go false = h

  -- or when some are joined
  pub kept-numbered : (ts l : List Token) → number_in s t l < length l → number_in s t (joined_all s l ts) < length (joined_all s l ts)
  unfolding joined_all
  kept-numbered [] l h = h
  kept-numbered (u ∷ ts) l h = kept-numbered ts (joined_to s l u) (kept-joined l u h)
