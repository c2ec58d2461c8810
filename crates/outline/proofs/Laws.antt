-- Laws of an input's bytes and of faults that the code's proofs cite.
use mathlib.Core.List.{List, [], ◌∷◌}
use mathlib.Core.Path.{◌≡◌, refl, ap, ◌∙◌}
use Prim.Native.Nat.{ℕ, ◌+◌, ◌<◌, ◌≤◌}
use native.Mathlib.Omega.{arith}
use borrow.Author.Tests.{ne_eqb, le-ltb}
use lib.ListN.{length, take}
use lib.Seq.{sets}
use Rattle.text.specs.Decimal.{decimal}
use Rattle.text.proofs.Putting.{decimal_length}
use Rattle.text.specs.Writing.{Put}
use Rattle.std.specs.Prelude.{Option, Some, None}
use Rattle.outline.specs.declared.Cause.{Cause}
use Rattle.outline.specs.declared.Fault.{Fault}
use Rattle.outline.specs.Reading.{blamed}

-- An input's bytes, written over `i00`

pub record InputSpelt (j : ℕ) (after : List ℕ) (end : ℕ) : Type 0 where
  pub low : end ≤ 3
  pub wide : length after ≡ 3
  pub is : take end after ≡ 105 ∷ decimal j

pub input_spelt : (i j : ℕ) → i ≡ j → j < 100 → (after : List ℕ) (end : ℕ) → Put 1 (decimal i) (105 ∷ 48 ∷ 48 ∷ []) after end → InputSpelt j after end
input_spelt i j e h after end p =
    let l : length (decimal j) ≤ 2 = decimal_length 2 j (omega arith) h in
    let q = rw e at p in
    let n = q.next in
    record { low = omega arith; wide = ap length q.stands ∙ wide (decimal j) l; is = rw (n, q.stands) (is (decimal j) l) }
  where
    wide : (digits : List ℕ) → length digits ≤ 2 → length (sets (105 ∷ 48 ∷ 48 ∷ []) 1 digits) ≡ 3
    wide [] h = refl
    wide (a ∷ []) h = refl
    wide (a ∷ b ∷ []) h = refl
    wide (a ∷ b ∷ c ∷ digits) h = absurd (omega arith)

    is : (digits : List ℕ) → length digits ≤ 2 → take (1 + length digits) (sets (105 ∷ 48 ∷ 48 ∷ []) 1 digits) ≡ 105 ∷ digits
    is [] h = refl
    is (a ∷ []) h = refl
    is (a ∷ b ∷ []) h = refl
    is (a ∷ b ∷ c ∷ digits) h = absurd (omega arith)

-- Where no fault at a line could come first, none does

pub shut : (f : Fault) (l : ℕ) (n : Option Cause) → f.line < l → ◌≡◌ {A = Option Fault} (Some f) (blamed (Some f) l n)
unfolding blamed
shut f l None h = refl
shut f l (Some c) h = rw (le-ltb l f.line (omega arith), ne_eqb l f.line (λ q. omega arith))
