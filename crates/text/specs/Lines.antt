-- A text as lines. 01, The chart text: "each ended by byte 10".
use Rattle.std.specs.Prelude.{Bool, true, false, List, [], ◌∷◌, ℕ, eqb}

-- the byte that ends a line
abbrev pub line_end : ℕ
line_end = 10

-- lines, and after the last of them nothing, or bytes with no end
pub data Lines : Type 0 where
  nothing unended : Lines
  line : List ℕ → Lines → Lines

-- a byte in front of lines, which ends a line or does not
unfoldable pub byte_before : Bool → ℕ → Lines → Lines
byte_before true b x = line [] x
byte_before false b nothing = unended
byte_before false b unended = unended
byte_before false b (line w x) = line (b ∷ w) x

unfoldable pub split : List ℕ → Lines
split [] = nothing
split (b ∷ t) = byte_before (eqb b line_end) b (split t)
