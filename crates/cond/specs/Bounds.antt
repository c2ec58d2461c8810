-- 01's bounds on a condition, each named once; the code's are `Condition::BYTES`, `Condition::DELAY` and `text::NUMBER_DIGITS`.
use Rattle.std.specs.Prelude.{ℕ}

-- "condition 1 to 64 bytes"
abbrev pub longest : ℕ
longest = 64

-- "T 1 to 3,600,000 ms"
abbrev pub slowest : ℕ
slowest = 3600000

-- "A number is 1 to 7 decimal digits"
abbrev pub most_digits : ℕ
most_digits = 7
