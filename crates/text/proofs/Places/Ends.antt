-- Where a line ends: the places that the search for a byte 10 has passed, and that some place is the end.
use mathlib.Core.Bool.{Bool, true, false, not, and-eq-true_iff}
use mathlib.Core.List.{List}
use mathlib.Core.Path.{◌≡◌, refl}
use Prim.Native.Nat.{ℕ, zero, suc, ◌+◌, ◌<◌, ◌≤◌}
use native.Mathlib.Omega.{arith}
use borrow.Author.Tests.{eqb-true, eqb-false, ltb-true, ltb-false, not-true}
use lib.Dec.{eqb, ltb}
use lib.ListN.{length}
use Rattle.text.specs.Bytes.{byte_at}
use Rattle.text.specs.Lines.{line_end}
use Rattle.text.specs.Places.{EndsAt}
use Rattle.std.proofs.Common.{Option, Some, None, unwrap_or, get_or, drop, take, fold, sym, ◌∙◌, ◌&&◌, [], ◌∷◌, cond, ◌-◌}
use Rattle.std.specs.List.{position, position_or_len}
use Rattle.std.proofs.lemmas.List.{get_or-drop, get_or-take}
use Rattle.std.proofs.lemmas.List.Quantifiers.{position-Some}
use lib.ListN.{length-drop, length-take}

-- no byte 10 from a up to i
abbrev pub NoneIn : List ℕ → ℕ → ℕ → Type 0
NoneIn s a i = (k : ℕ) → a ≤ k → k < i → byte_at s k ≡ line_end → ⊥

pub none_more : (s : List ℕ) (a i : ℕ) → NoneIn s a i → (byte_at s i ≡ line_end → ⊥) → NoneIn s a (i + 1)
none_more s a i f g k p q e = go (ltb k i) refl
  where
    go : (t : Bool) → ltb k i ≡ t → ⊥
    go true h = f k p (ltb-true k i h) e
    go false h = let z = ltb-false k i h in let y : k ≡ i = omega arith in g (rw y at e)

-- nor in the first n bytes from i on
none_part : (s : List ℕ) (a i n : ℕ) → NoneIn s a i → ((k : ℕ) → k < n → get_or (drop i s) k 0 ≡ line_end → ⊥) → NoneIn s a (i + n)
none_part s a i n f g k p q z = go (ltb k i) refl
  where
    go : (t : Bool) → ltb k i ≡ t → ⊥
    go true w = f k p (ltb-true k i w) z
    go false w =
        let y = ltb-false k i w in
        let d : i + (k - i) ≡ k = omega arith in
        g (k - i) (omega arith) (get_or-drop i s (k - i) 0 ∙ rw d z)

fold_none : (b : Bool) (xs : List ℕ) → fold (λ none x. none && not (eqb x line_end)) b xs ≡ true
    → (b ≡ true) × ((k : ℕ) → k < length xs → get_or xs k 0 ≡ line_end → ⊥)
fold_none b [] h = (h, λ k p e. absurd (omega arith))
fold_none b (x ∷ xs) h =
    let r = fold_none (b && not (eqb x line_end)) xs h in
    let q = (and-eq-true_iff b (not (eqb x line_end))).0 r.0 in
    (q.0, λ k. go q.1 r.1 k)
  where
    go : not (eqb x line_end) ≡ true → ((k : ℕ) → k < length xs → get_or xs k 0 ≡ line_end → ⊥) → (k : ℕ) → k < suc (length xs) → get_or (x ∷ xs) k 0 ≡ line_end → ⊥
    go q r zero p e = eqb-false _ _ (not-true _ q) e
    go q r (suc k) p e = r k (omega arith) e

-- nor in n bytes from i on of which a test of each found none
pub none_eight : (s : List ℕ) (a i n : ℕ) → NoneIn s a i → i + n ≤ length s → fold (λ none x. none && not (eqb x line_end)) true (take (i + n - i) (drop i s)) ≡ true → NoneIn s a (i + n)
none_eight s a i n f l h =
    let d : i + n - i ≡ n = omega arith in
    let m = length-drop i s in
    let g = (fold_none true (take n (drop i s)) (rw d at h)).1 in
    none_part s a i n f (λ k p e. g k (simp length-take (omega arith)) (get_or-take n (drop i s) k 0 p ∙ e))

-- the first byte 10 from a on stands at i
pub ends-here : (s : List ℕ) (a i : ℕ) → a ≤ i → i < length s → NoneIn s a i → byte_at s i ≡ line_end → EndsAt s a i
ends-here s a i h l f e = record { from = h; within = omega arith; ends = λ _. e; none_before = f }

-- no text from a on
pub ends_past : (s : List ℕ) (a : ℕ) → length s ≤ a → EndsAt s a a
ends_past s a h = record { from = omega arith; within = omega arith; ends = λ l. absurd (omega arith); none_before = λ i p q z. absurd (omega arith) }

-- the end from a place that was reached is the end from where the search began
pub ends-later : (s : List ℕ) (a i e : ℕ) → a ≤ i → i ≤ length s → NoneIn s a i → EndsAt s i e → EndsAt s a e
ends-later s a i e h l f x =
    let p = x.from in
    let q = x.within in
    record { from = omega arith; within = omega arith; ends = x.ends; none_before = λ k. go k }
  where
    go : (k : ℕ) → a ≤ k → k < e → byte_at s k ≡ line_end → ⊥
    go k m n z = by (ltb k i) refl
      where
        by : (t : Bool) → ltb k i ≡ t → ⊥
        by true w = f k m (ltb-true k i w) z
        by false w = let y = ltb-false k i w in x.none_before k y n z

-- what `position` passes over, and where it finds none
none_found : (xs : List ℕ) → length xs ≤ position_or_len (λ x. eqb x line_end) xs → (k : ℕ) → k < length xs → get_or xs k 0 ≡ line_end → ⊥
none_found [] h k p e = omega arith
none_found (x ∷ xs) h k p e = go (eqb x line_end) refl h (λ l m q z. none_found xs l m q z) k p e
  where
    go : (t : Bool) → eqb x line_end ≡ t → suc (length xs) ≤ cond (not t) (1 + position_or_len (λ x. eqb x line_end) xs) 0
        → (length xs ≤ position_or_len (λ x. eqb x line_end) xs → (k : ℕ) → k < length xs → get_or xs k 0 ≡ line_end → ⊥)
        → (k : ℕ) → k < suc (length xs) → get_or (x ∷ xs) k 0 ≡ line_end → ⊥
    go true q h g k p e = omega arith
    go false q h g zero p e = eqb-false _ _ q e
    go false q h g (suc k) p e = g (omega arith) k (omega arith) e

not_found : (xs : List ℕ) → position (λ x. eqb x line_end) xs ≡ None → length xs ≤ position_or_len (λ x. eqb x line_end) xs
not_found xs h = go (ltb (position_or_len (λ x. eqb x line_end) xs) (length xs)) refl h
  where
    go : (t : Bool) → ltb (position_or_len (λ x. eqb x line_end) xs) (length xs) ≡ t → cond t (Some (position_or_len (λ x. eqb x line_end) xs)) None ≡ None → length xs ≤ position_or_len (λ x. eqb x line_end) xs
    go true q p = absurd (cc)
    go false q p = ltb-false _ _ q

pub first_from : (s : List ℕ) (a i : ℕ) (o : Option ℕ) → a ≤ i → i ≤ length s → NoneIn s a i → o ≡ position (λ x. eqb x line_end) (drop i s) → EndsAt s a (i + unwrap_or o (length (drop i s)))
first_from s a i (Some n) h l f q =
    let t = position-Some (λ (x : ℕ). eqb x line_end) (drop i s) n 0 (sym q) in
    let m = length-drop i s in
    ends-here s a (i + n) (omega arith) (let z = t.0 in omega arith) (none_part s a i n f (λ k p e. eqb-false _ _ (t.2 k p) e)) (sym (get_or-drop i s n 0) ∙ eqb-true _ _ t.1)
first_from s a i None h l f q =
    let m = length-drop i s in
    let g = none_found (drop i s) (not_found (drop i s) (sym q)) in
    record { from = omega arith; within = omega arith; ends = λ z. absurd (omega arith); none_before = none_part s a i (length (drop i s)) f g }

-- A line from a on has an end

pub record Ending (s : List ℕ) (a : ℕ) : Type 0 where
  pub place : ℕ
  pub ends : EndsAt s a place

pub ending : (s : List ℕ) (n a : ℕ) → n + a ≡ length s → Ending s a
ending s zero a h = record { place = a; ends = ends_past s a (omega arith) }
ending s (suc n) a h = go (eqb (byte_at s a) line_end) refl (ending s n (a + 1) (omega arith))
  where
    none : NoneIn s a a
    none k p q z = absurd (omega arith)

    go : (t : Bool) → eqb (byte_at s a) line_end ≡ t → Ending s (a + 1) → Ending s a
    go true q x = record { place = a; ends = ends-here s a a (omega arith) (omega arith) none (eqb-true _ _ q) }
    go false q x = record { place = x.place; ends = ends-later s a (a + 1) x.place (omega arith) (omega arith) (none_more s a a none (eqb-false _ _ q)) x.ends }
