-- Decimal numbers at a place of a text: the rule.
-- 01, The chart text: "A number is 1 to 7 decimal digits without a leading zero, except 0 itself."
-- 01, Rig log: "1 to 10 digits, no leading zero but for 0 itself, at most 4,294,967,295".
use Rattle.std.specs.Prelude.{true, false, ◌≡◌, ℕ, ◌+◌, ◌-◌, ◌*◌, ◌≤◌}
use Rattle.text.specs.Bytes.{Bytes}
pub use Rattle.text.specs.Bytes.{is_digit}
unfoldable pub use Rattle.text.specs.Runs.{run, ended, number, at_most, word}
pub use Rattle.text.specs.Runs.{Found}

-- Which bytes, from a place up to another, are a number of at most k digits, and its value.

pub data Digits (b : Bytes) (a : ℕ) : ℕ → ℕ → Type 0 where
  first : is_digit (b a) ≡ true → Digits b a (a + 1) (b a - 48)
  next : (e v : ℕ) → Digits b a e v → is_digit (b e) ≡ true → Digits b a (e + 1) (v * 10 + (b e - 48))

pub record Number (k : ℕ) (b : Bytes) (a e v : ℕ) : Type 0 where
  pub digits : Digits b a e v
  pub short : e ≤ a + k
  pub lead : b a ≡ 48 → e ≡ a + 1

-- a number, and no digit after it
pub record Reads (k : ℕ) (b : Bytes) (a e v : ℕ) : Type 0 where
  pub is : Number k b a e v
  pub stops : is_digit (b e) ≡ false
