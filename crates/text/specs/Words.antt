-- Words as sets of items. 01, State and event: "32-bit words (bit j for item j)".
use Rattle.std.specs.Prelude.{Bool, cond, List, [], ◌∷◌, ℕ, ◌/◌, ◌%◌, ◌^◌, eqb, ltb}
use Rattle.std.specs.Int.Bits.{bit_and, bit_or, bit_xor}

-- the largest 32-bit word
abbrev pub largest_word : ℕ
largest_word = 4294967295

-- item j is in the word w
abbrev pub has : ℕ → ℕ → Bool
has w j = eqb (w / 2 ^ j % 2) 1

-- the items of a that are not in b
abbrev pub without : ℕ → ℕ → ℕ
without a b = bit_xor a (bit_and a b)

-- the word of one item, or of none where a word has no such bit
unfoldable pub bit_at : ℕ → ℕ
bit_at v = cond (ltb v 32) (2 ^ v) 0

-- w with the items of a list
unfoldable pub word_from : ℕ → List ℕ → ℕ
word_from w [] = w
word_from w (v ∷ l) = word_from (bit_or w (bit_at v)) l

abbrev pub word_of : List ℕ → ℕ
word_of l = word_from 0 l
