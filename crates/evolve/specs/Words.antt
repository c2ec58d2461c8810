-- Words as sets of items: 01, State and event: "32-bit words (bit j for item j)".
use Rattle.std.specs.Prelude.{ℕ, ◌^◌, Bool, false, cond, ◌||◌, List, [], ◌∷◌, eqb}
use Rattle.std.specs.Int.Bits.{bit_and, bit_or}

-- all items of a are in w
abbrev pub all_in : ℕ → ℕ → Bool
all_in a w = eqb (bit_and a w) a

-- the word of item j alone
abbrev pub bit : ℕ → ℕ
bit j = 2 ^ j

module _ {A : Type 0} where
  -- the words of those lines that pass a test, all together
  unfoldable pub gather : (A → Bool) → (A → ℕ) → List A → ℕ
  gather p w [] = 0
  gather p w (a ∷ l) = bit_or (cond (p a) (w a) 0) (gather p w l)

  -- some line passes a test
  unfoldable pub some : (A → Bool) → List A → Bool
  some p [] = false
  some p (a ∷ l) = p a || some p l
