-- Lists: what is read as a list is what is written, and only so.
use mathlib.Core.Bool.{Bool, true, false, cond}
use mathlib.Core.List.{List, [], ◌∷◌, ◌++◌, append-nil, append_assoc}
use mathlib.Core.Path.{◌≡◌, refl, sym, ap, ◌∙◌}
use Prim.Native.Nat.{ℕ, zero, suc, ◌+◌, ◌-◌, ◌<◌, ◌≤◌}
use native.Mathlib.Omega.{arith}
use borrow.Author.Tests.{ne_eqb, eqb-true, leb-false, lt-leb}
use lib.Dec.{eqb, leb}
use lib.ListN.{length, get_or, drop, length-append, length-drop}
use Rattle.std.specs.Prelude.{Some, None}
use Rattle.text.specs.Bytes.{byte_at}
use Rattle.text.specs.Numbers.{Found, is_digit, number}
use Rattle.text.specs.Decimal.{decimal}
use Rattle.text.proofs.Laws.{number-none}
use Rattle.text.proofs.Numbers.{number-within}
use Rattle.text.proofs.Decimal.{byte_head, drop_past, cut, decimal_sound, decimal_complete}
use Rattle.line.specs.Write.{comma, others, list}
use Rattle.line.specs.Shape.{Listed, got, none, in_front, comma_if, item_then, items, list_at}
use Rattle.line.specs.Rules.{beyond}
use Rattle.line.proofs.Answers.{or_neither}

-- a number that was read: where it ends, and how large it is
pub record Went (s : List ℕ) (a e v : ℕ) : Type 0 where
  pub past : a < e
  pub within : e ≤ length s
  pub low : v < 10000000
  pub is : drop a s ≡ decimal v ++ drop e s

pub went : (s : List ℕ) (a e v : ℕ) → number 7 (byte_at s) a ≡ Some (v, e) → Went s a e v
went s a e v h =
    let w = number-within 7 s a e v (omega arith) h in
    let d = decimal_sound 7 s a e v (omega arith) h in
    record { past = w.0; within = w.1; low = d.below; is = d.is }

-- a number that is written is read
pub comes : (v : ℕ) (s : List ℕ) (a : ℕ) (r : List ℕ) → v < 10000000 → drop a s ≡ decimal v ++ r → is_digit (get_or r 0 0) ≡ false → number 7 (byte_at s) a ≡ Some (v, (a + length (decimal v)))
comes v s a r l q f = decimal_complete 7 s a v r (omega arith) l q f

-- Sound

-- numbers, at least one
data Several (w : List ℕ) (a : ℕ) : Listed → Type 0 where
  several : (v : ℕ) (l : List ℕ) (e : ℕ) → drop a w ≡ list (v ∷ l) ++ drop e w → beyond 10000000 (v ∷ l) ≡ false → Several w a (got (v ∷ l) e)
  not_any : Several w a none

several-more : (w : List ℕ) (a v e : ℕ) → Went w a e v → byte_at w e ≡ comma → {o : Listed} → Several w (e + 1) o → Several w a (in_front v o)
unfolding in_front list others beyond
several-more w a v e h b (several u l k p g) =
    several v (u ∷ l) k
    (h.is ∙ rw (cut w e comma b (omega arith), p) (sym (append_assoc (decimal v) (comma ∷ list (u ∷ l)) (drop k w))))
    (rw (lt-leb 10000000 v h.low) g)
several-more w a v e h b not_any = not_any

several-items : (n : ℕ) (w : List ℕ) (a : ℕ) → Several w a (items n w a)
unfolding items item_then comma_if list others beyond
several-items zero w a = not_any
several-items (suc n) w a = go (number 7 (byte_at w) a) refl (λ k. several-items n w k)
  where
    after : (v e : ℕ) → Went w a e v → (t : Bool) → eqb (byte_at w e) comma ≡ t → ((k : ℕ) → Several w k (items n w k)) → Several w a (comma_if t (λ k. items n w k) v e)
    after v e h true q f = several-more w a v e h (eqb-true (byte_at w e) comma q) (f (e + 1))
    after v e h false q f = several v [] e (h.is ∙ rw append-nil) (rw (lt-leb 10000000 v h.low))

    go : (x : Found) → number 7 (byte_at w) a ≡ x → ((k : ℕ) → Several w k (items n w k)) → Several w a (item_then (λ k. items n w k) w x)
    go (Some (v, e)) h f = after v e (went w a e v h) (eqb (byte_at w e) comma) refl f
    go None h f = not_any

-- a list that was read: its bytes, and that its numbers are low
pub record Listing (w : List ℕ) (a e : ℕ) (l : List ℕ) : Type 0 where
  pub is : drop a w ≡ list l ++ drop e w
  pub low : beyond 10000000 l ≡ false

pub list_sound : (w : List ℕ) (a : ℕ) (l : List ℕ) (e : ℕ) → list_at w a ≡ got l e → Listing w a e l
unfolding list_at list beyond
list_sound w a l e h = go (is_digit (byte_at w a)) (several-items (length w + 1) w a) h
  where
    from : {o : Listed} → Several w a o → o ≡ got l e → Listing w a e l
    from (several v m k p g) z = let y : (v ∷ m) ≡ l = cc in let x : k ≡ e = cc in rw (← y, ← x) (record { is = p; low = g })
    from not_any z = let y : ◌≡◌ {A = ℕ} 0 1 = cc in absurd (omega arith)

    go : (t : Bool) → Several w a (items (length w + 1) w a) → cond t (items (length w + 1) w a) (got [] a) ≡ got l e → Listing w a e l
    go true s z = from s z
    go false s z = let y : [] ≡ l = cc in let x : a ≡ e = cc in rw (← y, ← x) (record { is = refl; low = refl })

-- Complete

items_complete : (l : List ℕ) (v n : ℕ) (w : List ℕ) (a : ℕ) (r : List ℕ) → beyond 10000000 (v ∷ l) ≡ false → length l < n → drop a w ≡ list (v ∷ l) ++ r
    → is_digit (get_or r 0 0) ≡ false → (get_or r 0 0 ≡ comma → ⊥) → items n w a ≡ got (v ∷ l) (a + length (list (v ∷ l)))
unfolding items item_then comma_if in_front list others beyond
items_complete l v zero w a r g m q d c = absurd (omega arith)
items_complete [] v (suc n) w a r g m q d c =
    let k : v < 10000000 = leb-false 10000000 v (or_neither (leb 10000000 v) false g).0 in
    let q1 : drop a w ≡ decimal v ++ r = q ∙ rw append-nil in
    let b : byte_at w (a + length (decimal v)) ≡ get_or r 0 0 = byte_head w (a + length (decimal v)) r (drop_past w a (decimal v) r q1) in
    rw (comes v w a r k q1 d, b, ne_eqb (get_or r 0 0) comma c, append-nil)
items_complete (u ∷ l) v (suc n) w a r g m q d c =
    let k : v < 10000000 = leb-false 10000000 v (or_neither (leb 10000000 v) (beyond 10000000 (u ∷ l)) g).0 in
    let q1 : drop a w ≡ decimal v ++ (comma ∷ (list (u ∷ l) ++ r)) = q ∙ append_assoc (decimal v) (comma ∷ list (u ∷ l)) r in
    let e = drop_past w a (decimal v) (comma ∷ (list (u ∷ l) ++ r)) q1 in
    let b : byte_at w (a + length (decimal v)) ≡ comma = byte_head w (a + length (decimal v)) (comma ∷ (list (u ∷ l) ++ r)) e in
    let e1 : drop (a + length (decimal v) + 1) w ≡ list (u ∷ l) ++ r = drop_past w (a + length (decimal v)) (comma ∷ []) (list (u ∷ l) ++ r) e in
    let i = items_complete l u n w (a + length (decimal v) + 1) r (or_neither (leb 10000000 v) (beyond 10000000 (u ∷ l)) g).1 (omega arith) e1 d c in
    let j : a + length (decimal v) + 1 + length (list (u ∷ l)) ≡ a + length (list (v ∷ u ∷ l)) = (let z = length-append (decimal v) (comma ∷ list (u ∷ l)) in omega arith) in
    rw (comes v w a (comma ∷ (list (u ∷ l) ++ r)) k q1 refl, b, i, j)

others-long : (l : List ℕ) → length l ≤ length (others l)
unfolding others
others-long [] = omega arith
others-long (v ∷ l) = let z = others-long l in let y = length-append (decimal v) (others l) in omega arith

pub list_complete : (l : List ℕ) (w : List ℕ) (a : ℕ) (r : List ℕ) → beyond 10000000 l ≡ false → drop a w ≡ list l ++ r
    → is_digit (get_or r 0 0) ≡ false → (get_or r 0 0 ≡ comma → ⊥) → list_at w a ≡ got l (a + length (list l))
unfolding list_at list others beyond
list_complete [] w a r g q d c = let z : a + 0 ≡ a = omega arith in rw (byte_head w a r q, d, z)
list_complete (v ∷ l) w a r g q d c = go (is_digit (byte_at w a)) refl
  where
    after : (m : List ℕ) → is_digit (get_or (others m ++ r) 0 0) ≡ false
    after [] = d
    after (u ∷ m) = refl

    go : (t : Bool) → is_digit (byte_at w a) ≡ t → cond t (items (length w + 1) w a) (got [] a) ≡ got (v ∷ l) (a + length (list (v ∷ l)))
    go true h =
        let z = others-long l in
        let y = length-append (decimal v) (others l) in
        let x : length w - a ≡ length ((decimal v ++ others l) ++ r) = sym (length-drop a w) ∙ ap length q in
        let s = length-append (decimal v ++ others l) r in
        items_complete l v (length w + 1) w a r g (omega arith) q d c
    go false h =
        let k : v < 10000000 = leb-false 10000000 v (or_neither (leb 10000000 v) (beyond 10000000 l) g).0 in
        let x = sym (comes v w a (others l ++ r) k (q ∙ rw append_assoc) (after l)) ∙ number-none 7 (byte_at w) a (rw h) in
        let y : ◌≡◌ {A = ℕ} 0 1 = cc in absurd (omega arith)
