-- The decimal digits of a number, as bytes: how a number is written.
-- 01, The chart text: "decimal digits without a leading zero, except 0 itself".
use Rattle.std.specs.Prelude.{Bool, true, false, List, [], ◌∷◌, ◌++◌, ℕ, zero, suc, ◌+◌, ◌/◌, ◌%◌, ltb}

-- the digits of v, where f gives those of a lower number
unfoldable pub digits_if : Bool → (ℕ → List ℕ) → ℕ → List ℕ
digits_if true f v = (48 + v) ∷ []
digits_if false f v = f (v / 10) ++ ((48 + v % 10) ∷ [])

-- with fuel: v is enough, since v / 10 is lower
unfoldable pub digits_of : ℕ → ℕ → List ℕ
digits_of zero v = (48 + v) ∷ []
digits_of (suc k) v = digits_if (ltb v 10) (λ u. digits_of k u) v

unfoldable pub decimal : ℕ → List ℕ
decimal v = digits_of v v
