-- Words: a number that is read is one that is written and at most 4,294,967,295, and the other way round.
use mathlib.Core.Bool.{Bool, true, false, cond}
use mathlib.Core.List.{List, ◌++◌}
use mathlib.Core.Path.{◌≡◌, refl, ap}
use Prim.Native.Nat.{ℕ, ◌+◌, ◌≤◌}
use native.Mathlib.Omega.{arith}
use borrow.Author.Tests.{leb-true, le-leb}
use lib.Dec.{leb}
use lib.ListN.{length, get_or, drop}
use Rattle.text.specs.Bytes.{byte_at}
use Rattle.text.specs.Decimal.{decimal}
use Rattle.text.specs.Numbers.{Found, is_digit, number, at_most, word}
use Rattle.std.specs.Prelude.{Some, None, unwrap_or}
use Rattle.text.proofs.Decimal.{decimal_sound, decimal_complete}

-- a word that was read: its bytes, and how large it is
pub record Word (s : List ℕ) (a e v : ℕ) : Type 0 where
  pub is : drop a s ≡ decimal v ++ drop e s
  pub most : v ≤ 4294967295

pub word_sound : (s : List ℕ) (a e v : ℕ) → word (byte_at s) a ≡ Some (v, e) → Word s a e v
unfolding word at_most
word_sound s a e v q = go (number 10 (byte_at s) a) refl q
  where
    taken : (u k : ℕ) → number 10 (byte_at s) a ≡ Some (u, k) → (t : Bool) → leb u 4294967295 ≡ t → cond {A = Found} t (Some (u, k)) None ≡ Some (v, e) → Word s a e v
    taken u k p true h r =
        let x : u ≡ v = ap (λ (n : Found). (unwrap_or n (0, 0)).0) r in
        let y : k ≡ e = ap (λ (n : Found). (unwrap_or n (0, 0)).1) r in
        let d = decimal_sound 10 s a k u (omega arith) p in
        rw (← x, ← y) (record { is = d.is; most = leb-true u 4294967295 h })
    taken u k p false h r = absurd (cc)

    go : (x : Found) → number 10 (byte_at s) a ≡ x → at_most 4294967295 x ≡ Some (v, e) → Word s a e v
    go (Some (u, k)) p r = taken u k p (leb u 4294967295) refl r
    go None p r = absurd (cc)

pub word_complete : (s : List ℕ) (a v : ℕ) (r : List ℕ) → v ≤ 4294967295 → drop a s ≡ decimal v ++ r → is_digit (get_or r 0 0) ≡ false → word (byte_at s) a ≡ Some (v, a + length (decimal v))
unfolding word at_most
word_complete s a v r l q f = rw (decimal_complete 10 s a v r (omega arith) (omega arith) q f, le-leb v 4294967295 l)
