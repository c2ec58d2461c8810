-- A number reads as what is written, and only so: `number` finds v and ends at e exactly if the bytes between are v's decimal digits,
-- v has at most as many digits as may be read, and no digit follows.
use mathlib.Core.Bool.{Bool, true, false}
use mathlib.Core.List.{List, [], ◌∷◌, ◌++◌, append_assoc}
use mathlib.Core.Path.{◌≡◌, refl, sym, ap, ◌∙◌}
use Prim.Native.Nat.{ℕ, zero, suc, ◌+◌, ◌-◌, ◌*◌, ◌/◌, ◌%◌, ◌^◌, ◌<◌, ◌≤◌}
use native.Mathlib.Omega.{arith}
use native.Mathlib.Numerals.{add-one}
use native.Mathlib.Nat.{mod-lt, div-add-mod', div-lt_iff_lt-mul, pow-succ', pow-le-pow_right}
use lib.Arith.{digits_div, digits_mod}
use borrow.Author.Tests.{lt-ltb, le-ltb, ltb-true, ltb-false}
use lib.Dec.{ltb}
use lib.ListN.{length, get_or, drop, length-append}
use lib.Seq.{drop-cons, get_or-drop, drop-drop, drop-append_seam}
use Rattle.text.specs.Bytes.{Bytes, byte_at}
use Rattle.text.specs.Numbers.{is_digit, Digits, first, next, number}
use Rattle.text.specs.Decimal.{digits_if, digits_of, decimal}
use Rattle.text.proofs.Bytes.{inside, digit-is, digit_yes}
use Rattle.text.proofs.Numbers.{digits_past, number_sound, number_complete}
use Rattle.std.specs.Prelude.{Some}

-- Texts from a place on

-- the byte at a place from which the text is r
pub byte_head : (s : List ℕ) (a : ℕ) (r : List ℕ) → drop a s ≡ r → byte_at s a ≡ get_or r 0 0
byte_head s a r h = let z : a + 0 ≡ a = omega arith in sym (get_or-drop a s 0 0 ∙ rw z) ∙ ap (λ (l : List ℕ). get_or l 0 0) h

-- what follows a part of the text
pub drop_past : (s : List ℕ) (a : ℕ) (x r : List ℕ) → drop a s ≡ x ++ r → drop (a + length x) s ≡ r
drop_past s a x r h = sym (drop-drop (length x) a s) ∙ ap (drop (length x)) h ∙ drop-append_seam x r

-- the text goes on with the byte that stands at a place
pub cut : (s : List ℕ) (a b : ℕ) → byte_at s a ≡ b → 0 < b → drop a s ≡ b ∷ drop (a + 1) s
cut s a b e p = drop-cons s a 0 (inside s a (omega arith)) ∙ rw (add-one, e)

-- How digits are written

low-digits : (k v : ℕ) → v < 10 → digits_of k v ≡ (48 + v) ∷ []
unfolding digits_of digits_if
low-digits zero v h = refl
low-digits (suc k) v h = rw (lt-ltb v 10 h)

high_digits : (k v : ℕ) → 10 ≤ v → digits_of (suc k) v ≡ digits_of k (v / 10) ++ ((48 + v % 10) ∷ [])
unfolding digits_of digits_if
high_digits k v h = rw (le-ltb v 10 h)

-- a tenth of a number, and what is left of it
tenth : (v : ℕ) → (v ≡ v / 10 * 10 + v % 10) × (v % 10 < 10)
tenth v = let d = mod-lt v {m = 10} (omega arith) in let u = div-add-mod' v 10 in (omega arith, d)

-- all fuel that is enough gives the same
fuel : (j k v : ℕ) → v ≤ j → v ≤ k → digits_of j v ≡ digits_of k v
fuel zero k v p q = low-digits zero v (omega arith) ∙ sym (low-digits k v (omega arith))
fuel (suc j) zero v p q = low-digits (suc j) v (omega arith) ∙ sym (low-digits zero v (omega arith))
fuel (suc j) (suc k) v p q = go (ltb v 10) refl (λ x y. fuel j k (v / 10) x y)
  where
    go : (t : Bool) → ltb v 10 ≡ t → (v / 10 ≤ j → v / 10 ≤ k → digits_of j (v / 10) ≡ digits_of k (v / 10)) → digits_of (suc j) v ≡ digits_of (suc k) v
    go true h f = let l = ltb-true v 10 h in low-digits (suc j) v l ∙ sym (low-digits (suc k) v l)
    go false h f =
        let l = ltb-false v 10 h in
        let t = tenth v in
        high_digits j v l ∙ ap (λ (x : List ℕ). x ++ ((48 + v % 10) ∷ [])) (f (omega arith) (omega arith)) ∙ sym (high_digits k v l)

pub decimal-one : (v : ℕ) → v < 10 → decimal v ≡ (48 + v) ∷ []
unfolding decimal
decimal-one v h = low-digits v v h

pub decimal-more : (v d : ℕ) → 0 < v → d < 10 → decimal (v * 10 + d) ≡ decimal v ++ ((48 + d) ∷ [])
unfolding decimal
decimal-more v d p q =
    let n : v * 10 + d ≡ suc (v * 10 + d - 1) = omega arith in
    ap (λ (k : ℕ). digits_of k (v * 10 + d)) n ∙ high_digits (v * 10 + d - 1) (v * 10 + d) (omega arith)
    ∙ rw (digits_div v {m = 10} {r = d} q, digits_mod v {m = 10} {r = d} q, fuel (v * 10 + d - 1) v v (omega arith) (omega arith))

-- What was read is what is written

-- digits whose first is not 0 are those of a number above 0
record Spelt (s : List ℕ) (a e v : ℕ) : Type 0 where
  some : 0 < v
  is : drop a s ≡ decimal v ++ drop e s

digits_spelt : (s : List ℕ) (a e v : ℕ) → (byte_at s a ≡ 48 → ⊥) → Digits (byte_at s) a e v → Spelt s a e v
digits_spelt s a e v f (first h) =
    let i = digit-is (byte_at s a) h in
    let w : 48 + (byte_at s a - 48) ≡ byte_at s a = omega arith in
    record { some = go (ltb 48 (byte_at s a)) refl; is = cut s a (byte_at s a) refl (omega arith) ∙ rw (decimal-one (byte_at s a - 48) (omega arith), w) }
  where
    go : (t : Bool) → ltb 48 (byte_at s a) ≡ t → 0 < byte_at s a - 48
    go true q = let l = ltb-true 48 (byte_at s a) q in omega arith
    go false q = let l = ltb-false 48 (byte_at s a) q in let i = digit-is (byte_at s a) h in absurd (f (omega arith))
digits_spelt s a e v f (next e' v' d h) =
    let r = digits_spelt s a e' v' f d in
    let i = digit-is (byte_at s e') h in
    let p = r.some in
    let w : 48 + (byte_at s e' - 48) ≡ byte_at s e' = omega arith in
    let c : drop e' s ≡ byte_at s e' ∷ drop (e' + 1) s = cut s e' (byte_at s e') refl (omega arith) in
    record { some = omega arith; is = r.is ∙ rw (decimal-more v' (byte_at s e' - 48) r.some (omega arith), w, append_assoc, c) }

-- a number has at most as many digits as were read
digits-below : (b : Bytes) (a e v : ℕ) → Digits b a e v → v < 10 ^ (e - a)
digits-below b a e v (first h) = let i = digit-is (b a) h in let z : a + 1 - a ≡ 1 = omega arith in rw z (omega arith)
digits-below b a e v (next e' v' d h) =
    let i = digit-is (b e') h in
    let l = digits_past b a e' v' d in
    let p = digits-below b a e' v' d in
    let z : e' + 1 - a ≡ suc (e' - a) = omega arith in
    let q = pow-succ' 10 (e' - a) in
    rw z (omega arith)

-- and a 0 alone is the number 0
number_spelt : (s : List ℕ) (a e v : ℕ) → Digits (byte_at s) a e v → (byte_at s a ≡ 48 → e ≡ a + 1) → drop a s ≡ decimal v ++ drop e s
number_spelt s a e v (first h) f =
    let i = digit-is (byte_at s a) h in
    let w : 48 + (byte_at s a - 48) ≡ byte_at s a = omega arith in
    cut s a (byte_at s a) refl (omega arith) ∙ rw (decimal-one (byte_at s a - 48) (omega arith), w)
number_spelt s a e v (next e' v' d h) f = let l = digits_past (byte_at s) a e' v' d in (digits_spelt s a (e' + 1) (v' * 10 + (byte_at s e' - 48)) (λ z. let y = f z in omega arith) (next e' v' d h)).is

pub record Decimal (k : ℕ) (s : List ℕ) (a e v : ℕ) : Type 0 where
  pub is : drop a s ≡ decimal v ++ drop e s
  pub below : v < 10 ^ k
  pub stops : is_digit (byte_at s e) ≡ false

pub decimal_sound : (k : ℕ) (s : List ℕ) (a e v : ℕ) → 0 < k → number k (byte_at s) a ≡ Some (v, e) → Decimal k s a e v
decimal_sound k s a e v p q =
    let r = number_sound k (byte_at s) a e v p q in
    let l = digits-below (byte_at s) a e v r.is.digits in
    let h = r.is.short in
    let m : 10 ^ (e - a) ≤ 10 ^ k = pow-le-pow_right (omega arith) (omega arith) in
    record { is = number_spelt s a e v r.is.digits r.is.lead; below = omega arith; stops = r.stops }

-- What is written is read

-- written digits are digits, the first is 0 only if it is alone, and there are as few as the number needs
record Written (s : List ℕ) (a n v : ℕ) : Type 0 where
  digits : Digits (byte_at s) a (a + n) v
  lead : 0 < v → 48 < byte_at s a
  few : (k : ℕ) → 0 < k → v < 10 ^ k → n ≤ k

written_low : (j v : ℕ) (s : List ℕ) (a : ℕ) (r : List ℕ) → v < 10 → drop a s ≡ digits_of j v ++ r → Written s a (length (digits_of j v)) v
written_low j v s a r l q =
    let b : byte_at s a ≡ 48 + v = byte_head s a ((48 + v) ∷ r) (q ∙ rw (low-digits j v l)) in
    let d : is_digit (byte_at s a) ≡ true = rw b (digit_yes (48 + v) (omega arith) (omega arith)) in
    let w : byte_at s a - 48 ≡ v = omega arith in
    let o : Digits (byte_at s) a (a + 1) (byte_at s a - 48) = first d in
    rw (low-digits j v l) (record { digits = rw w at o; lead = λ p. omega arith; few = λ k p h. p })

written : (j v : ℕ) (s : List ℕ) (a : ℕ) (r : List ℕ) → v ≤ j → drop a s ≡ digits_of j v ++ r → Written s a (length (digits_of j v)) v
written zero v s a r p q = written_low zero v s a r (omega arith) q
written (suc j) v s a r p q = go (ltb v 10) refl (λ x y. written j (v / 10) s a ((48 + v % 10) ∷ r) x y)
  where
    go : (t : Bool) → ltb v 10 ≡ t
        → (v / 10 ≤ j → drop a s ≡ digits_of j (v / 10) ++ ((48 + v % 10) ∷ r) → Written s a (length (digits_of j (v / 10))) (v / 10))
        → Written s a (length (digits_of (suc j) v)) v
    go true h f = written_low (suc j) v s a r (ltb-true v 10 h) q
    go false h f =
        let l = ltb-false v 10 h in
        let t = tenth v in
        let q1 : drop a s ≡ digits_of j (v / 10) ++ ((48 + v % 10) ∷ r) = q ∙ rw (high_digits j v l, append_assoc) in
        let g = f (omega arith) q1 in
        let n = length (digits_of j (v / 10)) in
        let b : byte_at s (a + n) ≡ 48 + v % 10 = byte_head s (a + n) ((48 + v % 10) ∷ r) (drop_past s a (digits_of j (v / 10)) ((48 + v % 10) ∷ r) q1) in
        let d : is_digit (byte_at s (a + n)) ≡ true = rw b (digit_yes (48 + v % 10) (omega arith) (omega arith)) in
        let w : v / 10 * 10 + (byte_at s (a + n) - 48) ≡ v = omega arith in
        let i : a + n + 1 ≡ a + (n + 1) = omega arith in
        let m : length (digits_of (suc j) v) ≡ n + 1 = rw (high_digits j v l, length-append) in
        let o : Digits (byte_at s) a (a + n + 1) (v / 10 * 10 + (byte_at s (a + n) - 48)) = next (a + n) (v / 10) g.digits d in
        rw m (record { digits = rw (w, i) at o; lead = λ _. g.lead (omega arith); few = fewer l t.0 t.1 g.few })
      where
        fewer : 10 ≤ v → v ≡ v / 10 * 10 + v % 10 → v % 10 < 10 → ((k : ℕ) → 0 < k → v / 10 < 10 ^ k → length (digits_of j (v / 10)) ≤ k) → (k : ℕ) → 0 < k → v < 10 ^ k → length (digits_of j (v / 10)) + 1 ≤ k
        fewer l e m f zero p h = absurd (omega arith)
        fewer l e m f (suc zero) p h = absurd (omega arith)
        fewer l e m f (suc (suc k)) p h =
            let z = pow-succ' 10 (suc k) in
            let y = f (suc k) (omega arith) ((div-lt_iff_lt-mul {k = 10} {x = v} {y = 10 ^ suc k} (omega arith)).1 (omega arith)) in
            omega arith

pub decimal_complete : (k : ℕ) (s : List ℕ) (a v : ℕ) (r : List ℕ) → 0 < k → v < 10 ^ k → drop a s ≡ decimal v ++ r → is_digit (get_or r 0 0) ≡ false → number k (byte_at s) a ≡ Some (v, a + length (decimal v))
unfolding decimal
decimal_complete k s a v r p l q f =
    let w = written v v s a r (omega arith) q in
    let n = w.few k p l in
    number_complete k (byte_at s) a (a + length (digits_of v v)) v
    (record { digits = w.digits; short = omega arith; lead = λ z. go z (ltb 0 v) refl })
    (rw (byte_head s (a + length (digits_of v v)) r (drop_past s a (digits_of v v) r q)) f)
  where
    go : byte_at s a ≡ 48 → (t : Bool) → ltb 0 v ≡ t → a + length (digits_of v v) ≡ a + 1
    go z true h = let y = (written v v s a r (omega arith) q).lead (ltb-true 0 v h) in absurd (omega arith)
    go z false h = let y = ltb-false 0 v h in rw (low-digits v v (omega arith))
