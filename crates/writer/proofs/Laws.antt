-- Laws of lists that are written item by item.
use mathlib.Core.Bool.{Bool, true, false, cond, not, ◌&&◌, and-true}
use mathlib.Core.List.{List, [], ◌∷◌, ◌++◌, append_assoc, append-nil}
use mathlib.Core.Path.{◌≡◌, refl, sym, ap, ◌∙◌}
use Prim.Native.Nat.{ℕ, suc, ◌+◌, ◌-◌, ◌*◌, ◌<◌, ◌≤◌}
use native.Mathlib.Omega.{arith}
use borrow.Author.Tests.{eq-eqb, ne_eqb, ltb-true, ltb-false}
use lib.Dec.{eqb, ltb}
use lib.ListN.{length}
use Rattle.text.specs.Decimal.{decimal}
use Rattle.text.specs.Words.{has}
use Rattle.text.specs.Writing.{Put}
use Rattle.text.proofs.Decimal.{decimal-one}
use Rattle.text.proofs.Putting.{put_then, put-none, decimal_length, tenth_length}
use Rattle.line.specs.Write.{list, others, comma}
use Rattle.writer.specs.Lines.{items_from, word_items}
use Rattle.writer.specs.Writing.{item_bytes, rest_of, ItemPut, ListPut}

-- Lists

pub items-on : (n j w : ℕ) (first : Bool) → rest_of first (items_from (suc n) j w) ≡ item_bytes first w j ++ rest_of (first && not (has w j)) (items_from n (j + 1) w)
unfolding items_from list others
items-on n j w first = go first (has w j)
  where
    go : (f h : Bool) → rest_of f (cond h (j ∷ items_from n (j + 1) w) (items_from n (j + 1) w)) ≡ cond h (cond f (decimal j) (comma ∷ decimal j)) [] ++ rest_of (f && not h) (items_from n (j + 1) w)
    go true true = refl
    go true false = refl
    go false true = refl
    go false false = refl

pub items_end : (first : Bool) (n j w : ℕ) → n ≡ 0 → rest_of first (items_from n j w) ≡ []
unfolding items_from list others
items_end true n j w e = rw e
items_end false n j w e = rw e

-- a number has a digit
some_digit : (v : ℕ) → 1 ≤ length (decimal v)
some_digit v = go (ltb v 10) refl
  where
    go : (t : Bool) → ltb v 10 ≡ t → 1 ≤ length (decimal v)
    go true h = rw (decimal-one v (ltb-true v 10 h)) (omega arith)
    go false h = let l = tenth_length v (ltb-false v 10 h) in omega arith

-- what is written of an item, by whether the word has it and whether it is the first
module _ (from at w j r : ℕ) (before after : List ℕ) where
  pub item_none : has w j ≡ false → ItemPut from at w j before before at
  item_none h = record { put = rw h (put-none at before); first = λ _. rw h (sym (and-true (eqb at from))); near = omega arith }

  pub item_first : has w j ≡ true → at ≡ from → j < 32 → Put at (decimal j) before after r → ItemPut from at w j before after r
  item_first h e l p =
      let n = p.next in
      let s = some_digit j in
      let d = decimal_length 2 j (omega arith) (omega arith) in
      record { put = rw (h, eq-eqb at from e) p; first = λ _. rw (h, eq-eqb at from e) (ne_eqb r from (λ z. omega arith)); near = omega arith }

  pub item_more : has w j ≡ true → (at ≡ from → ⊥) → j < 32 → (mid : List ℕ) (e : ℕ) → Put at (comma ∷ []) before mid e → Put e (decimal j) mid after r → ItemPut from at w j before after r
  item_more h i l mid e p q =
      let m = p.next in
      let n = q.next in
      let d = decimal_length 2 j (omega arith) (omega arith) in
      record { put = rw (h, ne_eqb at from i) (put_then _ _ _ _ _ _ _ _ p q); first = λ k. rw (h, ne_eqb at from i) (ne_eqb r from (λ z. omega arith)); near = omega arith }

-- j items of a word were looked at
pub record Itemizing (from w at : ℕ) (before after : List ℕ) (j : ℕ) : Type 0 where
  pub done : List ℕ
  pub put : Put from done before after at
  pub is : list (word_items w) ≡ done ++ rest_of (eqb at from) (items_from (32 - j) j w)
  pub near : at ≤ from + 3 * j
  pub within : j ≤ 32

pub itemizing_start : (from w : ℕ) (before : List ℕ) → Itemizing from w from before before 0
itemizing_start from w before = record { done = []; put = put-none from before; is = rw (eq-eqb from from refl) refl; near = omega arith; within = omega arith }

module _ (from w at r : ℕ) (before mid after : List ℕ) (j : ℕ) (g : Itemizing from w at before mid j) where
  pub itemizing_on : j < 32 → ItemPut from at w j mid after r → Itemizing from w r before after (j + 1)
  itemizing_on h p =
      let first = eqb at from in
      let a = p.near in
      let b = g.near in
      let d = g.put.next in
      let k : 32 - j ≡ suc (32 - (j + 1)) = omega arith in
      record {
        done = g.done ++ item_bytes first w j;
        put = put_then from at r g.done (item_bytes first w j) before mid after g.put p.put;
        is = g.is ∙ ap (λ (n : ℕ). g.done ++ rest_of first (items_from n j w)) k
            ∙ ap (λ (x : List ℕ). g.done ++ x) (items-on (32 - (j + 1)) j w first)
            ∙ sym (append_assoc g.done (item_bytes first w j) (rest_of (first && not (has w j)) (items_from (32 - (j + 1)) (j + 1) w)))
            ∙ ap (λ (f : Bool). (g.done ++ item_bytes first w j) ++ rest_of f (items_from (32 - (j + 1)) (j + 1) w)) (sym (p.first (omega arith)));
        near = omega arith;
        within = omega arith;
      }

pub itemizing_end : (from w at : ℕ) (before after : List ℕ) (j : ℕ) → Itemizing from w at before after j → 32 ≤ j → ListPut from w (list (word_items w)) before after at
itemizing_end from w at before after j g h =
    let n = g.near in
    let k = g.within in
    record {
      put = rw (g.is, items_end (eqb at from) (32 - j) j w (omega arith), append-nil g.done) g.put;
      near = omega arith;
    }
