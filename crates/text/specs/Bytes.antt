-- The bytes of a text, each by its place.
use Rattle.std.specs.Prelude.{Bool, ◌&&◌, List, ℕ, leb, get_or}

-- What stands at each place. A reader takes this and a place, so that a part, a copy and the whole of a text are alike to it.
abbrev pub Bytes : Type 0
Bytes = ℕ → ℕ

-- The byte at a place of a text. A place past the end has none and reads as 0.
abbrev pub byte_at : List ℕ → Bytes
byte_at s a = get_or s a 0

-- The bytes `0` to `9`.
abbrev pub is_digit : ℕ → Bool
is_digit b = leb 48 b && leb b 57
