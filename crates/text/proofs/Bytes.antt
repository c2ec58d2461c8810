-- Bytes at places: none past the end, and which are digits.
use mathlib.Core.Bool.{Bool, true, false, and-eq-true_iff}
use mathlib.Core.List.{List}
use mathlib.Core.Path.{◌≡◌, refl}
use Prim.Native.Nat.{ℕ, ◌<◌, ◌≤◌}
use native.Mathlib.Omega.{arith}
use borrow.Author.Tests.{ltb-true, ltb-false, leb-true, le-leb}
use lib.Dec.{ltb, leb}
use lib.ListN.{length, get_or-eq_default}
use Rattle.text.specs.Bytes.{byte_at, is_digit}

pub byte_past : (s : List ℕ) (k : ℕ) → length s ≤ k → byte_at s k ≡ 0
byte_past s k h = get_or-eq_default s 0 h

-- a place with a byte other than 0 lies in the text
pub inside : (s : List ℕ) (k : ℕ) → 0 < byte_at s k → k < length s
inside s k p = go (ltb k (length s)) refl
  where
    go : (t : Bool) → ltb k (length s) ≡ t → k < length s
    go true q = ltb-true _ _ q
    go false q = let z = byte_past s k (ltb-false _ _ q) in absurd (omega arith)

pub digit_yes : (b : ℕ) → 48 ≤ b → b ≤ 57 → is_digit b ≡ true
digit_yes b h k = rw (le-leb 48 b h, le-leb b 57 k)

pub digit-is : (b : ℕ) → is_digit b ≡ true → (48 ≤ b) × (b ≤ 57)
digit-is b h = let p = (and-eq-true_iff (leb 48 b) (leb b 57)).0 h in (leb-true 48 b p.0, leb-true b 57 p.1)
