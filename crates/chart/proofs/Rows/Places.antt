-- Where a condition lies in its text, as a word.
use mathlib.Core.List.{List, ◌∷◌, ◌++◌, append_assoc}
use mathlib.Core.Path.{◌≡◌, ap, ◌∙◌}
use Prim.Native.Nat.{ℕ, ◌+◌, ◌-◌, ◌/◌, ◌%◌, ◌<◌, ◌≤◌}
use native.Mathlib.Omega.{arith}
use native.Mathlib.Nat.{mod-eq_of_lt}
use lib.Arith.{digits_div, digits_mod}
use lib.ListN.{length, length-append}
use lib.Seq.{take-append_seam, drop-append_seam}
use Rattle.text.specs.Lines.{line_end}
use Rattle.line.specs.Rules.{longest_text}
use Rattle.line.specs.Words.{place_word, part_at}

pub record Lies (t c : List ℕ) (p : ℕ) : Type 0 where
  pub is : part_at t p ≡ c
  pub within : p / 128 + p % 128 ≤ length t

-- the word taken apart
pub place_parts : (a n : ℕ) → a < longest_text → n < 128 → (place_word a n / 128 ≡ a) × (place_word a n % 128 ≡ n)
place_parts a n p q = rw (mod-eq_of_lt p, mod-eq_of_lt q) (digits_div a {m = 128} {r = n} q, digits_mod a {m = 128} {r = n} q)

-- bytes with what stands before and after them
pub lies : (t b c r : List ℕ) → length t ≤ longest_text → length c < 128 → t ≡ b ++ (c ++ line_end ∷ r) → Lies t c (place_word (length b) (length c))
lies t b c r short few e =
    let n = ap length e ∙ length-append b (c ++ line_end ∷ r) in
    let m = length-append c (line_end ∷ r) in
    let p = place_parts (length b) (length c) (omega arith) few in
    record { is = rw (p.0, p.1, e, drop-append_seam b (c ++ line_end ∷ r)) (take-append_seam c (line_end ∷ r)); within = rw (p.0, p.1) (omega arith) }

-- The last bytes of a line that begins after b

module _ (b s c : List ℕ) where
  pub last-place : place_word (length b + (length (s ++ c) - length c)) (length c) ≡ place_word (length (b ++ s)) (length c)
  last-place =
      let m = length-append s c in
      let n = length-append b s in
      let e : length b + (length (s ++ c) - length c) ≡ length (b ++ s) = omega arith in
      ap (λ (a : ℕ). place_word a (length c)) e

  pub last-part : (r : List ℕ) → b ++ ((s ++ c) ++ line_end ∷ r) ≡ (b ++ s) ++ (c ++ line_end ∷ r)
  last-part r = simp append_assoc
