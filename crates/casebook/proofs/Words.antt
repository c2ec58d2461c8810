-- Where a word that is read ends: after its start and within its text.
use Rattle.std.proofs.Common.{Bool, true, false, cond, Some, None, List, ◌≡◌, ℕ, ◌<◌, ◌≤◌, length, leb, arith}
use Rattle.text.specs.Bytes.{byte_at}
use Rattle.text.specs.Runs.{Found, number, at_most, word}
use Rattle.text.specs.Words.{largest_word}
use Rattle.text.proofs.Numbers.{number-within}

at-most-is : (m : ℕ) (n : Found) (v e : ℕ) → at_most m n ≡ Some (v, e) → n ≡ Some (v, e)
unfolding at_most
at-most-is m None v e h = h
at-most-is m (Some (w, k)) v e h = go (leb w m) h
  where
    go : (t : Bool) → cond {A = Found} t (Some (w, k)) None ≡ Some (v, e) → ◌≡◌ {A = Found} (Some (w, k)) (Some (v, e))
    go true p = p
    go false p = absurd (cc)

pub word-within : (s : List ℕ) (a v e : ℕ) → word (byte_at s) a ≡ Some (v, e) → (a < e) × (e ≤ length s)
unfolding word
word-within s a v e h = number-within 10 s a e v (omega arith) (at-most-is largest_word (number 10 (byte_at s) a) v e h)
