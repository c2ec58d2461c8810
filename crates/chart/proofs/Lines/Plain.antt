-- What is written for a line has no byte 10: digits and keys have none, and neither has a condition of the grammar.
use mathlib.Core.Bool.{Bool, true, false, not, ◌&&◌}
use mathlib.Core.List.{List, [], ◌∷◌, ◌++◌}
use mathlib.Core.Path.{◌≡◌, refl, ap, ◌∙◌}
use Prim.Native.Nat.{ℕ, zero, suc, ◌+◌, ◌%◌, ◌/◌, ◌<◌, ◌≤◌}
use native.Mathlib.Omega.{arith}
use borrow.Author.Tests.{ne_eqb, ltb-true, ltb-false}
use lib.Dec.{eqb, ltb}
use lib.ListN.{length, get_or}
use Rattle.text.specs.Bytes.{Bytes, byte_at}
use Rattle.text.specs.Numbers.{Digits, first, next}
use Rattle.text.specs.Decimal.{digits_if, digits_of, decimal}
use Rattle.text.specs.Lines.{line_end}
use Rattle.text.proofs.Laws.{digit-is}
use Rattle.cond.specs.Meaning.{Cond}
use Rattle.cond.specs.Grammar.{Numeral, Atom, true', false', step', input', step-up, step_down, input-up, input_down, on-delay, Part, condition, Spans, negation, bracketed, atom, one-factor, more_factors, one-term, more_terms}
use Rattle.line.specs.Chart.{Move, Hold, Latch}
use Rattle.line.specs.Kinds.{HeadNumber, version, steps, inputs, outputs, limit, number_line}
use Rattle.line.specs.Write.{Line, number', initial', move', hold', latch', end', wrong, k_initial, k_end, colon, arrow, edge_byte, bit_byte, others, list, write_line}
use Rattle.chart.proofs.Lines.Bytes.{move_bytes, hold-bytes}

-- Bytes from a place up to another

abbrev Clear : Bytes → ℕ → ℕ → Type 0
Clear b a e = (i : ℕ) → a ≤ i → i < e → b i ≡ line_end → ⊥

module _ (b : Bytes) where
  clear_one : (a n : ℕ) → b a ≡ n → 10 < n → Clear b a (a + 1)
  clear_one a n h l i p q z = let e : i ≡ a = omega arith in let y : b a ≡ line_end = rw e at z in omega arith

  clear_join : (a m e : ℕ) → Clear b a m → Clear b m e → Clear b a e
  clear_join a m e f g i p q z = go (ltb i m) refl
    where
      go : (t : Bool) → ltb i m ≡ t → ⊥
      go true h = f i p (ltb-true i m h) z
      go false h = g i (ltb-false i m h) q z

  clear_digits : (a e v : ℕ) → Digits b a e v → Clear b a e
  clear_digits a e v (first h) = let i = digit-is (b a) h in clear_one a (b a) refl (omega arith)
  clear_digits a e v (next e' v' d h) = let i = digit-is (b e') h in clear_join a e' (e' + 1) (clear_digits a e' v' d) (clear_one e' (b e') refl (omega arith))

  -- a byte, and then a number
  clear_item : (a e k n : ℕ) → b a ≡ n → 10 < n → Numeral b (a + 1) e k → Clear b a e
  clear_item a e k n h l x = clear_join a (a + 1) e (clear_one a n h l) (clear_digits (a + 1) e k x.digits)

  clear_edge : (a e k n m : ℕ) → b a ≡ n → 10 < n → b (a + 1) ≡ m → 10 < m → Numeral b (a + 1 + 1) e k → Clear b a e
  clear_edge a e k n m h l g r x = clear_join a (a + 1) e (clear_one a n h l) (clear_item (a + 1) e k m g r x)

  clear_atom : (a e : ℕ) (c : Cond) → Atom b a e c → Clear b a e
  clear_atom a e c (true' h) = clear_one a _ h (omega arith)
  clear_atom a e c (false' h) = clear_one a _ h (omega arith)
  clear_atom a e c (step' _ k h x) = clear_item a e k _ h (omega arith) x
  clear_atom a e c (input' _ k h x) = clear_item a e k _ h (omega arith) x
  clear_atom a e c (step-up _ k h g x) = clear_edge a e k _ _ h (omega arith) g (omega arith) x
  clear_atom a e c (step_down _ k h g x) = clear_edge a e k _ _ h (omega arith) g (omega arith) x
  clear_atom a e c (input-up _ k h g x) = clear_edge a e k _ _ h (omega arith) g (omega arith) x
  clear_atom a e c (input_down _ k h g x) = clear_edge a e k _ _ h (omega arith) g (omega arith) x
  clear_atom a e c (on-delay m t _ k y p q h g x) = clear_join a m e (clear_digits a m t y.digits) (clear_edge m e k _ _ h (omega arith) g (omega arith) x)

  clear_spans : {p : Part} {a e : ℕ} {c : Cond} → Spans b p a e c → Clear b a e
  clear_spans (negation a e c h x) = clear_join a (a + 1) e (clear_one a _ h (omega arith)) (clear_spans x)
  clear_spans (bracketed a e c h x k) = clear_join a (a + 1) (e + 1) (clear_one a _ h (omega arith)) (clear_join (a + 1) e (e + 1) (clear_spans x) (clear_one e _ k (omega arith)))
  clear_spans (atom a e c x) = clear_atom a e c x
  clear_spans (one-factor a e c x) = clear_spans x
  clear_spans (more_factors a m e c d x h y) = clear_join a m e (clear_spans x) (clear_join m (m + 1) e (clear_one m _ h (omega arith)) (clear_spans y))
  clear_spans (one-term a e c x) = clear_spans x
  clear_spans (more_terms a m e c d x h y) = clear_join a m e (clear_spans x) (clear_join m (m + 1) e (clear_one m _ h (omega arith)) (clear_spans y))

-- bytes with no byte 10 among them
unfoldable pub plain : List ℕ → Bool
plain [] = true
plain (b ∷ w) = not (eqb b line_end) && plain w

plain-all : (s : List ℕ) → ((i : ℕ) → i < length s → get_or s i 0 ≡ line_end → ⊥) → plain s ≡ true
unfolding plain
plain-all [] f = refl
plain-all (b ∷ s) f = rw (ne_eqb b line_end (f 0 (omega arith))) (plain-all s (λ i p. f (suc i) (omega arith)))

pub plain-condition : (s : List ℕ) (c : Cond) → Spans (byte_at s) condition 0 (length s) c → plain s ≡ true
plain-condition s c x = plain-all s (λ i p. clear_spans (byte_at s) x i (omega arith) p)

-- What is written

plain_append : (x y : List ℕ) → plain x ≡ true → plain y ≡ true → plain (x ++ y) ≡ true
unfolding plain
plain_append [] y p q = q
plain_append (b ∷ x) y p q = go (eqb b line_end) p (λ z. plain_append x y z q)
  where
    go : (t : Bool) → (not t && plain x) ≡ true → (plain x ≡ true → plain (x ++ y) ≡ true) → (not t && plain (x ++ y)) ≡ true
    go true z f = z
    go false z f = f z

plain-digit : (d : ℕ) → plain ((48 + d) ∷ []) ≡ true
unfolding plain
plain-digit d = rw (ne_eqb (48 + d) line_end (λ e. omega arith))

plain-digits : (k v : ℕ) → plain (digits_of k v) ≡ true
unfolding digits_of digits_if
plain-digits zero v = plain-digit v
plain-digits (suc k) v = go (ltb v 10) (plain-digits k (v / 10))
  where
    go : (t : Bool) → plain (digits_of k (v / 10)) ≡ true → plain (digits_if t (λ u. digits_of k u) v) ≡ true
    go true f = plain-digit v
    go false f = plain_append (digits_of k (v / 10)) ((48 + v % 10) ∷ []) f (plain-digit (v % 10))

plain-decimal : (v : ℕ) → plain (decimal v) ≡ true
unfolding decimal
plain-decimal v = plain-digits v v

plain-others : (l : List ℕ) → plain (others l) ≡ true
unfolding others plain
plain-others [] = refl
plain-others (v ∷ l) = plain_append (decimal v) (others l) (plain-decimal v) (plain-others l)

plain-list : (l : List ℕ) → plain (list l) ≡ true
unfolding list plain
plain-list [] = refl
plain-list (v ∷ l) = plain_append (decimal v) (others l) (plain-decimal v) (plain-others l)

plain-number : (k : List ℕ) (v : ℕ) → plain k ≡ true → plain (k ++ decimal v) ≡ true
plain-number k v p = plain_append k (decimal v) p (plain-decimal v)

plain-head : (q : HeadNumber) (v : ℕ) → plain ((number_line q).key ++ decimal v) ≡ true
unfolding plain
plain-head version v = plain-number (number_line version).key v refl
plain-head steps v = plain-number (number_line steps).key v refl
plain-head inputs v = plain-number (number_line inputs).key v refl
plain-head outputs v = plain-number (number_line outputs).key v refl
plain-head limit v = plain-number (number_line limit).key v refl

plain_move : (m : Move) → plain m.condition ≡ true → plain (write_line (move' m)) ≡ true
unfolding plain
plain_move m p =
    let q = plain_append (list m.after) (colon ∷ m.condition) (plain-list m.after) p in
    ap plain (move_bytes m) ∙ plain_append (list m.before) (arrow ∷ (list m.after ++ colon ∷ m.condition)) (plain-list m.before) q

plain-hold : (x : Hold) → plain x.condition ≡ true → plain (write_line (hold' x)) ≡ true
unfolding plain
plain-hold x p =
    let q = plain_append (decimal x.output) (colon ∷ x.condition) (plain-decimal x.output) p in
    ap plain (hold-bytes x) ∙ plain_append (decimal x.step) (colon ∷ (decimal x.output ++ colon ∷ x.condition)) (plain-decimal x.step) q

plain-latch : (x : Latch) → plain (write_line (latch' x)) ≡ true
unfolding write_line plain
plain-latch x =
    let t2 : List ℕ = colon ∷ bit_byte x.on ∷ [] in
    let t1 : List ℕ = colon ∷ edge_byte x.activation ∷ colon ∷ (decimal x.output ++ t2) in
    let q = plain_append (decimal x.output) t2 (plain-decimal x.output) (bit x.on) in
    plain_append (decimal x.step) t1 (plain-decimal x.step) (edge x.activation (decimal x.output ++ t2) q)
  where
    bit : (t : Bool) → plain (colon ∷ bit_byte t ∷ []) ≡ true
    bit true = refl
    bit false = refl

    edge : (t : Bool) (r : List ℕ) → plain r ≡ true → plain (colon ∷ edge_byte t ∷ colon ∷ r) ≡ true
    edge true r q = q
    edge false r q = q

-- a line is plain if its condition is
abbrev pub PlainCondition : Line → Type 0
PlainCondition (number' q v) = Unit {0}
PlainCondition (initial' l) = Unit {0}
PlainCondition (move' m) = plain m.condition ≡ true
PlainCondition (hold' x) = plain x.condition ≡ true
PlainCondition (latch' x) = Unit {0}
PlainCondition (end' v) = Unit {0}
PlainCondition wrong = Unit {0}

pub plain-line : (l : Line) → PlainCondition l → plain (write_line l) ≡ true
unfolding write_line plain
plain-line (number' q v) p = plain-head q v
plain-line (initial' l) p = plain_append k_initial (list l) refl (plain-list l)
plain-line (move' m) p = plain_move m p
plain-line (hold' x) p = plain-hold x p
plain-line (latch' x) p = plain-latch x
plain-line (end' v) p = plain-number k_end v refl
plain-line wrong p = refl
