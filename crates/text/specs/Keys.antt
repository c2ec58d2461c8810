-- Keys: the bytes of a literal, and what begins with them.
use Rattle.std.specs.Prelude.{Bool, true, false, ◌&&◌, List, [], ◌∷◌, ℕ, zero, suc, ◌+◌, eqb}
use Prim.Native.Char.{code}
use Prim.Native.String.{String, len, char_at}

-- n bytes of a literal from a place on
abbrev pub bytes_from : ℕ → String → ℕ → List ℕ
bytes_from zero s i = []
bytes_from (suc n) s i = code (char_at s i) ∷ bytes_from n s (i + 1)

abbrev pub bytes : String → List ℕ
bytes s = bytes_from (len s) s 0

-- `:` stands between a line's parts
abbrev pub colon : ℕ
colon = 58

-- a text begins with a key
unfoldable pub begins : List ℕ → List ℕ → Bool
begins [] w = true
begins (k ∷ ks) [] = false
begins (k ∷ ks) (b ∷ w) = eqb b k && begins ks w
