-- The lowest of several answers.
use Rattle.std.specs.Prelude.{Bool, true, false, ℕ, zero, suc, min}

-- 01, Answer numbers: "lowest number within it". An answer is a number, 0 being none.

-- the number where a fault is there
abbrev pub given : ℕ → Bool → ℕ
given n true = n
given n false = 0

-- the lower of two answers
abbrev pub lower : ℕ → ℕ → ℕ
lower zero y = y
lower (suc x) zero = suc x
lower (suc x) (suc y) = min (suc x) (suc y)
