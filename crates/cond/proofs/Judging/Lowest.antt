-- The lowest of several answers.
use mathlib.Core.Bool.{Bool, true, false, cond, ◌&&◌}
use mathlib.Core.List.{List}
use mathlib.Core.Path.{◌≡◌, refl, sym, ap, ◌∙◌, subst⁻¹}
use Prim.Native.Nat.{ℕ, zero, suc, min}
use native.Mathlib.Omega.{arith}
use borrow.Author.Tests.{leb-true, leb-false}
use lib.Dec.{eqb, leb}
use Rattle.cond.specs.declared.Declared.{Declared}
use Rattle.cond.specs.Faults.{answer}
use Rattle.cond.specs.Lowest.{given, lower}
use Rattle.cond.specs.declared.faults.Fault.{Fault}
use Rattle.cond.specs.declared.faults.Fault.TheVariants.{Shape, Bound, Grammar, Undeclared, EdgeInHold, LatchOfHeld, Total}
use Rattle.std.specs.Prelude.{Result, Ok, Err}
use Rattle.cond.specs.Meaning.{undeclared, edged}
use Rattle.cond.specs.Reading.{Reading, got, none, read_cond}
use Rattle.cond.specs.Judging.{judged_as, judged}

pub six-lower : (t : Bool) → lower 6 (given 7 t) ≡ 6
six-lower true = refl
six-lower false = refl

-- Whatever is so of 0 and of the numbers of some faults is so of the lowest of those that are there.

module _ (P : ℕ → Type 0) where
  pub lower_so : (a b : ℕ) → P a → P b → P (lower a b)
  lower_so zero b p q = q
  lower_so (suc a) zero p q = p
  lower_so (suc a) (suc b) p q = go (leb a b) refl
    where
      go : (t : Bool) → leb a b ≡ t → P (min (suc a) (suc b))
      go true w = let h = leb-true a b w in let e : min (suc a) (suc b) ≡ suc a = omega arith in subst⁻¹ P e p
      go false w = let h = leb-false a b w in let e : min (suc a) (suc b) ≡ suc b = omega arith in subst⁻¹ P e q

  pub given_so : (n : ℕ) (t : Bool) → P 0 → P n → P (given n t)
  given_so n true z p = p
  given_so n false z p = z

  pub judged_as_so : P 0 → P 4 → P 6 → P 7 → (d : Declared) (hold : Bool) (o : Reading) → P (judged_as d hold o)
  unfolding judged_as
  judged_as_so z p4 p6 p7 d hold (got c e) = lower_so _ _ (given_so 6 (undeclared d c) z p6) (given_so 7 (hold && edged c) z p7)
  judged_as_so z p4 p6 p7 d hold none = p4

-- whatever is so of 0, 4, 6 and 7 is so of the answer to a condition
pub judged_so : (P : ℕ → Type 0) → P 0 → P 4 → P 6 → P 7 → (d : Declared) (hold : Bool) (s : List ℕ) → P (judged d hold s)
unfolding judged
judged_so P z p4 p6 p7 d hold s = judged_as_so P z p4 p6 p7 d hold (read_cond s)

-- the answer of a number
abbrev named : ℕ → Result Unit Fault
named n =
    cond (eqb n 2) (Err Shape) (cond (eqb n 3) (Err Bound) (cond (eqb n 4) (Err Grammar) (cond (eqb n 6) (Err Undeclared)
    (cond (eqb n 7) (Err EdgeInHold) (cond (eqb n 8) (Err LatchOfHeld) (cond (eqb n 9) (Err Total) (Ok tt)))))))

named-answer : (r : Result Unit Fault) → named (answer r) ≡ r
named-answer (Ok x) = refl
named-answer (Err Shape) = refl
named-answer (Err Bound) = refl
named-answer (Err Grammar) = refl
named-answer (Err Undeclared) = refl
named-answer (Err EdgeInHold) = refl
named-answer (Err LatchOfHeld) = refl
named-answer (Err Total) = refl

pub answer-is : (r s : Result Unit Fault) → answer r ≡ answer s → r ≡ s
answer-is r s h = sym (named-answer r) ∙ ap named h ∙ named-answer s
