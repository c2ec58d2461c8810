-- Lists under way: what the tally of a list says of it, and what the code was told.
use mathlib.Core.Bool.{◌&&◌, ◌||◌, and-true, and_assoc, or-false, or_assoc}
use mathlib.Core.List.{List, [], ◌∷◌}
use mathlib.Core.Path.{◌≡◌, refl, sym, ap, ◌∙◌}
use Prim.Native.Nat.{ℕ, zero, suc, ◌+◌, ◌<◌}
use native.Mathlib.Omega.{arith}
use borrow.Author.Tests.{eq-eqb, ne_eqb}
use lib.Dec.{eqb, leb}
use lib.ListN.{length}
use Rattle.text.specs.Bytes.{byte_at}
use Rattle.text.specs.Numbers.{number}
use Rattle.text.specs.Words.{word_from, word_of}
use Rattle.line.specs.declared.Tally.{Tally}
use Rattle.std.specs.Prelude.{Option, Some, None}
use Rattle.line.specs.Write.{comma, colon, arrow}
use Rattle.line.specs.Rules.{rising, beyond, empty}
use Rattle.line.specs.Shape.{Listed, got, none, in_front, comma_if, item_then, items, list_at, only_line, move_to, move_line}
use Rattle.line.specs.Steps.{one_more, tally, no_items, items_of, MoveRead}
use Rattle.line.proofs.Lists.{went}
use Rattle.line.proofs.Parts.{Past}

-- What a tally says

module _ (n : ℕ) where
  tally-rising : (t : Tally) (l : List ℕ) → (tally n t l).rising ≡ (t.rising && rising t.low l)
  unfolding tally rising
  tally-rising t [] = rw (and-true t.rising)
  tally-rising t (v ∷ l) = rw (tally-rising (one_more n t v) l) (and_assoc t.rising (leb t.low v) (rising (v + 1) l))

  tally-undeclared : (t : Tally) (l : List ℕ) → (tally n t l).undeclared ≡ (t.undeclared || beyond n l)
  unfolding tally beyond
  tally-undeclared t [] = rw (or-false t.undeclared)
  tally-undeclared t (v ∷ l) = rw (tally-undeclared (one_more n t v) l) (or_assoc t.undeclared (leb n v) (beyond n l))

  tally-word : (t : Tally) (l : List ℕ) → (tally n t l).word ≡ word_from t.word l
  unfolding tally word_from
  tally-word t [] = refl
  tally-word t (v ∷ l) = tally-word (one_more n t v) l

  low-more : (t : Tally) (l : List ℕ) → 0 < t.low → 0 < (tally n t l).low
  unfolding tally
  low-more t [] p = p
  low-more t (v ∷ l) p = low-more (one_more n t v) l (omega arith)

  tally-empty : (l : List ℕ) → eqb (tally n no_items l).low 0 ≡ empty l
  unfolding tally
  tally-empty [] = refl
  tally-empty (v ∷ l) = let p = low-more (one_more n no_items v) l (omega arith) in ne_eqb (tally n (one_more n no_items v) l).low 0 (λ e. omega arith)

module _ (n : ℕ) (x : Tally) (l : List ℕ) (p : x ≡ tally n no_items l) where
  pub told_empty : empty l ≡ eqb x.low 0
  told_empty = sym (ap (λ (y : Tally). eqb y.low 0) p ∙ tally-empty n l)

  pub told_rising : rising 0 l ≡ x.rising
  told_rising = sym (ap (λ (y : Tally). y.rising) p ∙ tally-rising n no_items l)

  pub told_undeclared : beyond n l ≡ x.undeclared
  told_undeclared = sym (ap (λ (y : Tally). y.undeclared) p ∙ tally-undeclared n no_items l)

  pub told_word : word_of l ≡ x.word
  told_word = sym (ap (λ (y : Tally). y.word) p ∙ tally-word n no_items l)

-- what the code was told of a list
pub record Told (n e : ℕ) (x : Tally) (o : Listed) : Type 0 where
  pub list : List ℕ
  pub is : o ≡ got list e
  pub tallied : x ≡ tally n no_items list

pub told : (n e : ℕ) (x : Tally) (o : Listed) → Some (x, e) ≡ items_of n no_items o → Told n e x o
told n e x (got l k) h =
    let p : ◌≡◌ {A = Tally × ℕ} (x, e) (tally n no_items l, k) = cc in
    let y : e ≡ k = ap (λ z. z.1) p in
    record { list = l; is = rw y; tallied = ap (λ z. z.0) p }
told n e x none h = let y : ◌≡◌ {A = ℕ} 0 1 = cc in absurd (omega arith)

pub told_bad : (n : ℕ) (o : Listed) → None ≡ items_of n no_items o → o ≡ none
told_bad n (got l k) h = let y : ◌≡◌ {A = ℕ} 0 1 = cc in absurd (omega arith)
told_bad n none h = refl

-- A list under way

items_more : (n : ℕ) (t : Tally) (v : ℕ) (o : Listed) → items_of n t (in_front v o) ≡ items_of n (one_more n t v) o
unfolding in_front tally
items_more n t v (got l e) = refl
items_more n t v none = refl

-- the numbers from a place on, with the tally of those before, give the whole
pub record Listing (w : List ℕ) (n : ℕ) (whole : Option (Tally × ℕ)) (at : ℕ) (t : Tally) : Type 0 where
  pub left : ℕ
  pub room : length w < at + left
  pub same : whole ≡ items_of n t (items left w at)

module _ (w : List ℕ) (n : ℕ) (whole : Option (Tally × ℕ)) (at : ℕ) (t : Tally) (r : Listing w n whole at t) where
  pub listing-next : (v e : ℕ) → number 7 (byte_at w) at ≡ Some (v, e) → byte_at w e ≡ comma → Listing w n whole (e + 1) (one_more n t v)
  unfolding items item_then comma_if
  listing-next v e h b = go r.left r.room r.same
    where
      go : (k : ℕ) → length w < at + k → whole ≡ items_of n t (items k w at) → Listing w n whole (e + 1) (one_more n t v)
      go zero p q = let z = (went w at e v h).past in let y = (went w at e v h).within in absurd (omega arith)
      go (suc k) p q =
          let z = (went w at e v h).past in
          record { left = k; room = omega arith; same = q ∙ rw (h, eq-eqb (byte_at w e) comma b) (items_more n t v (items k w (e + 1))) }

  pub listing_end : (v e : ℕ) → number 7 (byte_at w) at ≡ Some (v, e) → (byte_at w e ≡ comma → ⊥) → Some (one_more n t v, e) ≡ whole
  unfolding items item_then comma_if tally
  listing_end v e h b = go r.left r.room r.same
    where
      go : (k : ℕ) → length w < at + k → whole ≡ items_of n t (items k w at) → Some (one_more n t v, e) ≡ whole
      go zero p q = let z = (went w at e v h).past in let y = (went w at e v h).within in absurd (omega arith)
      go (suc k) p q = sym (q ∙ rw (h, ne_eqb (byte_at w e) comma b))

  pub listing-bad : number 7 (byte_at w) at ≡ None → None ≡ whole
  unfolding items item_then
  listing-bad h = go r.left r.same
    where
      go : (k : ℕ) → whole ≡ items_of n t (items k w at) → None ≡ whole
      go zero q = sym q
      go (suc k) q = sym (q ∙ rw h)

-- a move that was read whole
pub move_read : (w : List ℕ) (n a d f x : ℕ) {b : ℕ} {s t : Tally} → Told n d s (list_at w a) → Past w d arrow f → Told n x t (list_at w f) → Past w x colon b
    → MoveRead n w (move_line w (list_at w a)) (record { before = s; after = t; rest = b })
unfolding move_line move_to only_line
move_read w n a d f x o p q r =
    record {
      before = o.list;
      after = q.list;
      tallied-before = o.tallied;
      tallied-after = q.tallied;
      within = r.within;
      is = rw (o.is, p.stands, p.is, q.is, r.stands, r.is);
    }
