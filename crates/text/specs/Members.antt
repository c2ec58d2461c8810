-- Lists of numbers as sets.
use Rattle.std.specs.Prelude.{Bool, false, ◌||◌, List, [], ◌∷◌, ℕ, eqb}

-- n is one of a list's numbers
unfoldable pub is_among : ℕ → List ℕ → Bool
is_among n [] = false
is_among n (v ∷ l) = eqb v n || is_among n l
