-- Laws of words, gaps and tokens that the code's proofs cite.
use mathlib.Core.Bool.{Bool, true, false, cond, not, ◌&&◌, false≢true}
use mathlib.Core.List.{List, [], ◌∷◌}
use mathlib.Core.Path.{◌≡◌, refl, sym, ap, ◌∙◌}
use Prim.Native.Nat.{ℕ, zero, suc, ◌+◌, ◌-◌, ◌<◌, ◌≤◌}
use native.Mathlib.Numerals.{add-one}
use native.Mathlib.Omega.{arith}
use borrow.Author.Tests.{eq-eqb, eqb-true, leb-false}
use lib.Dec.{eqb, leb}
use lib.ListN.{length, get_or, drop, length-drop, drop_of_length-le}
use lib.Seq.{drop-cons}
use Rattle.text.specs.Bytes.{Bytes, byte_at}
use Rattle.text.proofs.Laws.{inside}
use Rattle.tokens.specs.declared.Kind.TheVariants.{End}
use Rattle.tokens.specs.declared.Spot.{Spot}
use Rattle.tokens.specs.Spelling.{begins_word, goes_on, upper, span, same_word, proper_after}
use Rattle.std.proofs.Common.{Option, Some, None, map, IsTrue, ◌↔◌}
use Rattle.std.specs.Char.{to_ascii_lowercase}
use Rattle.std.proofs.lemmas.Bool.Decides.{nat_tests, same_from_decides}
use Rattle.tokens.specs.Tokens.{spot, opens, closes, line_after, close_at, gap_at, skip, is_blank, kind_at, size_at, token_on, Further, Leaves, Lies}

-- Words

-- two bytes are alike in upper case exactly if they are in lower case

lower-upper : (b : ℕ) → to_ascii_lowercase (upper b) ≡ to_ascii_lowercase b
lower-upper b = grind (arith, nat_tests)

upper-lower : (b : ℕ) → upper (to_ascii_lowercase b) ≡ upper b
upper-lower b = grind (arith, nat_tests)

same_maps : (a b : List ℕ) → same_word a b ≡ true → map to_ascii_lowercase a ≡ map to_ascii_lowercase b
unfolding same_word
same_maps [] [] h = refl
same_maps [] (y ∷ b) h = absurd (false≢true h)
same_maps (x ∷ a) [] h = absurd (false≢true h)
same_maps (x ∷ a) (y ∷ b) h = go (eqb (upper x) (upper y)) refl h (λ q. same_maps a b q)
  where
    go : (t : Bool) → eqb (upper x) (upper y) ≡ t → (t && same_word a b) ≡ true → (same_word a b ≡ true → map to_ascii_lowercase a ≡ map to_ascii_lowercase b)
        → map to_ascii_lowercase (x ∷ a) ≡ map to_ascii_lowercase (y ∷ b)
    go true p q f =
        let e : to_ascii_lowercase x ≡ to_ascii_lowercase y = sym (lower-upper x) ∙ ap to_ascii_lowercase (eqb-true (upper x) (upper y) p) ∙ lower-upper y in
        let g = f q in
        cc
    go false p q f = absurd (false≢true q)

maps_same : (a b : List ℕ) → map to_ascii_lowercase a ≡ map to_ascii_lowercase b → same_word a b ≡ true
unfolding same_word
maps_same [] [] h = refl
maps_same [] (y ∷ b) h = cc
maps_same (x ∷ a) [] h = cc
maps_same (x ∷ a) (y ∷ b) h =
    let e : to_ascii_lowercase x ≡ to_ascii_lowercase y = cc in
    let f : map to_ascii_lowercase a ≡ map to_ascii_lowercase b = cc in
    rw (eq-eqb (upper x) (upper y) (sym (upper-lower x) ∙ ap (λ (k : ℕ). upper k) e ∙ upper-lower y)) (maps_same a b f)

pub same_by_case : (r : Bool) (a b : List ℕ) → (IsTrue r ↔ (map to_ascii_lowercase a ≡ map to_ascii_lowercase b)) → r ≡ same_word a b
same_by_case r a b h = same_from_decides r (same_word a b) h (same_maps a b, maps_same a b)

module _ (s : List ℕ) (i : ℕ) where
  pub span-on : i < length s → goes_on (get_or s i 0) ≡ true → span (drop i s) ≡ span (drop (i + 1) s) + 1
  unfolding span
  span-on h g = rw (drop-cons s i 0 h, g) (ap (λ (k : ℕ). span (drop k s) + 1) (sym (add-one i)))

  pub span_stop : i < length s → goes_on (get_or s i 0) ≡ false → span (drop i s) ≡ 0
  unfolding span
  span_stop h g = rw (drop-cons s i 0 h, g)

  pub span_end : length s ≤ i → span (drop i s) ≡ 0
  unfolding span
  span_end h = rw (drop_of_length-le s h)

  pub proper-bad : (p : ℕ) → i < length s → (eqb p 95 && eqb (get_or s i 0) 95) ≡ true → proper_after p (drop i s) ≡ false
  unfolding proper_after
  proper-bad p h t = rw (drop-cons s i 0 h, t)

  pub proper-on : (p : ℕ) → i < length s → (eqb p 95 && eqb (get_or s i 0) 95) ≡ false → proper_after p (drop i s) ≡ proper_after (get_or s i 0) (drop (i + 1) s)
  unfolding proper_after
  proper-on p h t = rw (drop-cons s i 0 h, t, add-one)

  pub proper_end : (p : ℕ) → length s ≤ i → proper_after p (drop i s) ≡ not (eqb p 95)
  unfolding proper_after
  proper_end p h = rw (drop_of_length-le s h)

pub span-within : (s : List ℕ) → span s ≤ length s
unfolding span
span-within [] = omega arith
span-within (b ∷ s) = go (goes_on b) (span-within s)
  where
    go : (t : Bool) → span s ≤ length s → cond t (span s + 1) 0 ≤ suc (length s)
    go true h = omega arith
    go false h = omega arith

-- a word that begins has a byte
pub span-some : (s : List ℕ) (a : ℕ) → a < length s → begins_word (get_or s a 0) ≡ true → 1 ≤ span (drop a s)
span-some s a h b = let e = span-on s a h (rw b) in omega arith

-- Gaps

pub close_found : (n : ℕ) (b : Bytes) (a l : ℕ) → 0 < n → closes b a ≡ true → close_at n b a l ≡ Some (spot (a + 2) l)
unfolding close_at
close_found zero b a l p h = absurd (omega arith)
close_found (suc n) b a l p h = rw h

pub close_on : (n m : ℕ) (b : Bytes) (a l : ℕ) → n ≡ suc m → closes b a ≡ false → close_at n b a l ≡ close_at m b (a + 1) (line_after (b a) l)
unfolding close_at
close_on n m b a l p h = rw (p, h)

pub close_end : (n : ℕ) (b : Bytes) (a l : ℕ) → n ≡ 0 → close_at n b a l ≡ None
unfolding close_at
close_end n b a l p = rw p

-- two bytes at a place, the second of which is not 0, lie in the text
pub pair_inside : (s : List ℕ) (a x y : ℕ) → 0 < y → (eqb (byte_at s a) x && eqb (byte_at s (a + 1)) y) ≡ true → a + 2 ≤ length s
pair_inside s a x y z h = go (eqb (byte_at s a) x) (eqb (byte_at s (a + 1)) y) refl refl h
  where
    go : (u v : Bool) → eqb (byte_at s a) x ≡ u → eqb (byte_at s (a + 1)) y ≡ v → (u && v) ≡ true → a + 2 ≤ length s
    go true true p q r = let e = eqb-true (byte_at s (a + 1)) y q in let i = inside s (a + 1) (omega arith) in omega arith
    go true false p q r = absurd (false≢true r)
    go false v p q r = absurd (false≢true r)

pub closes-inside : (s : List ℕ) (a : ℕ) → closes (byte_at s) a ≡ true → a + 2 ≤ length s
closes-inside s a h = pair_inside s a 42 41 (omega arith) h

blank-some : (b : ℕ) → is_blank b ≡ true → 0 < b
blank-some zero h = absurd (false≢true h)
blank-some (suc b) h = omega arith

pub blank-inside : (s : List ℕ) (a : ℕ) → is_blank (byte_at s a) ≡ true → a < length s
blank-inside s a h = inside s a (blank-some (byte_at s a) h)

pub skip_stop : (n : ℕ) (s : List ℕ) (a l : ℕ) → gap_at s a l ≡ None → skip n s a l ≡ spot a l
unfolding skip
skip_stop zero s a l e = refl
skip_stop (suc n) s a l e = rw e

skip-on : (n : ℕ) (s : List ℕ) (a l : ℕ) (e : Spot) → gap_at s a l ≡ Some e → skip (suc n) s a l ≡ skip n s e.place e.line
unfolding skip
skip-on n s a l e h = rw h

-- what leaves a gap later on leaves it after an earlier place
pub leaves_sooner : (s : List ℕ) (a b : ℕ) (o : Option Spot) → a ≤ b → Leaves s b o → Leaves s a o
leaves_sooner s a b None h l = tt
leaves_sooner s a b (Some p) h l = (omega arith, l.1)

-- what is left to skip gives the whole
pub record Skipping (s : List ℕ) (a l : ℕ) (p : Spot) : Type 0 where
  pub fuel : ℕ
  pub enough : length s - p.place < fuel
  pub is : skip (length s + 1) s a l ≡ skip fuel s p.place p.line
  pub far : Further s a p

module _ (s : List ℕ) (a l : ℕ) where
  pub skipping_start : Skipping s a l (spot a l)
  skipping_start = record { fuel = length s + 1; enough = omega arith; is = refl; far = record { from = omega arith; within = omega arith } }

  module _ (p : Spot) (g : Skipping s a l p) where
    pub skipping_stop : gap_at s p.place p.line ≡ None → p ≡ skip (length s + 1) s a l
    skipping_stop q = sym (g.is ∙ skip_stop g.fuel s p.place p.line q)

    pub skipping_on : (e : Spot) → gap_at s p.place p.line ≡ Some e → (p.place < e.place) × (e.place ≤ length s) → Skipping s a l e
    skipping_on e q h = go g.fuel refl
      where
        go : (n : ℕ) → g.fuel ≡ n → Skipping s a l e
        go zero z = let n = g.enough in absurd (omega arith)
        go (suc m) z =
            let u : p.place < e.place = h.0 in
            let v : e.place ≤ length s = h.1 in
            let n = g.enough in
            let b = g.far.from in
            record {
              fuel = m;
              enough = omega arith;
              is = g.is ∙ ap (λ (k : ℕ). skip k s p.place p.line) z ∙ skip-on m s p.place p.line e q;
              far = record { from = omega arith; within = omega arith };
            }

-- Tokens

size_within : (s : List ℕ) (a : ℕ) → a ≤ length s → a + size_at s a ≤ length s
unfolding size_at
size_within s a h =
    go (leb (length s) a) (opens (byte_at s) a) (begins_word (byte_at s a)) (eqb (byte_at s a) 58 && eqb (byte_at s (a + 1)) 61) refl refl
  where
    go : (p q r t : Bool) → leb (length s) a ≡ p → (eqb (byte_at s a) 58 && eqb (byte_at s (a + 1)) 61) ≡ t
        → a + cond p 0 (cond q (length s - a) (cond r (span (drop a s)) (cond t 2 1))) ≤ length s
    go true q r t e f = omega arith
    go false true r t e f = omega arith
    go false false true t e f = let z = span-within (drop a s) in let l = length-drop a s in omega arith
    go false false false true e f = pair_inside s a 58 61 (omega arith) f
    go false false false false e f = let z = leb-false (length s) a e in omega arith

-- a word's size is its span
pub size_word : (s : List ℕ) (a : ℕ) → leb (length s) a ≡ false → opens (byte_at s) a ≡ false → begins_word (byte_at s a) ≡ true → size_at s a ≡ span (drop a s)
unfolding size_at
size_word s a p q r = rw (p, q, r)

kind-ended : (s : List ℕ) (a : ℕ) → leb (length s) a ≡ true → kind_at s a ≡ End
unfolding kind_at
kind-ended s a h = rw h

kind-below : (s : List ℕ) (a : ℕ) → (kind_at s a ≡ End → ⊥) → a ≤ length s
kind-below s a k = go (leb (length s) a) refl
  where
    go : (p : Bool) → leb (length s) a ≡ p → a ≤ length s
    go true e = absurd (k (kind-ended s a e))
    go false e = let z = leb-false (length s) a e in omega arith

size_some : (s : List ℕ) (a : ℕ) → (kind_at s a ≡ End → ⊥) → 1 ≤ size_at s a
unfolding size_at
size_some s a k =
    go (leb (length s) a) (opens (byte_at s) a) (begins_word (byte_at s a)) (eqb (byte_at s a) 58 && eqb (byte_at s (a + 1)) 61) refl refl
  where
    go : (p q r t : Bool) → leb (length s) a ≡ p → begins_word (byte_at s a) ≡ r
        → 1 ≤ cond p 0 (cond q (length s - a) (cond r (span (drop a s)) (cond t 2 1)))
    go true q r t e f = absurd (k (kind-ended s a e))
    go false true r t e f = let z = leb-false (length s) a e in omega arith
    go false false true t e f = let z = leb-false (length s) a e in span-some s a (omega arith) f
    go false false false true e f = omega arith
    go false false false false e f = omega arith

pub lies : (s : List ℕ) (a : ℕ) (p : Spot) → Further s a p → Lies s a (token_on s p)
unfolding token_on
lies s a p f =
    record {
      from = f.from;
      within = λ k. size_within s p.place (kind-below s p.place k);
      some = λ k. size_some s p.place k;
    }
