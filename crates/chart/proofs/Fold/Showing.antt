-- A result is known by its number and its line.
use mathlib.Core.Path.{◌≡◌, refl, ap}
use Prim.Native.Nat.{◌<◌}
use native.Mathlib.Omega.{arith}
use Rattle.std.specs.Prelude.{Result, Ok, Err}
use Rattle.std.specs.Result.{result_err}
use Rattle.std.proofs.lemmas.Option.{same_Some}
use Rattle.cond.specs.declared.faults.Fault.{Fault}
use Rattle.cond.specs.declared.faults.Fault.TheVariants.{Shape, Bound, Grammar, Undeclared, EdgeInHold, LatchOfHeld, Total}
use Rattle.cond.specs.Faults.{number}
use Rattle.cond.proofs.Promises.{number_exactly}
use Rattle.chart.specs.declared.Refusal.{Refusal}
use Rattle.chart.specs.declared.Refusal.TheVariants.{TooLong, Line}
use Rattle.chart.specs.declared.Verdict.{Verdict}
use Rattle.chart.specs.Reading.{shown}

-- no fault of a line has the number of a success or of a text that is too long
above_1 : (f : Fault) → 1 < number f
above_1 Shape = omega arith
above_1 Bound = omega arith
above_1 Grammar = omega arith
above_1 Undeclared = omega arith
above_1 EdgeInHold = omega arith
above_1 LatchOfHeld = omega arith
above_1 Total = omega arith

same_fault : (f g : Fault) → number f ≡ number g → f ≡ g
same_fault f g e = same_Some f g (ap result_err (number_exactly (Err f) (Err g) e))

number_is : {v w : Verdict} → v ≡ w → v.number ≡ w.number
number_is e = ap (λ (x : Verdict). x.number) e

pub shown-is : (r s : Result Unit Refusal) → shown r ≡ shown s → r ≡ s
shown-is (Ok r) (Ok s) e = refl
shown-is (Ok r) (Err TooLong) e = let n = number_is e in absurd (omega arith)
shown-is (Ok r) (Err (Line l f)) e = let n = number_is e in let a = above_1 f in absurd (omega arith)
shown-is (Err TooLong) (Ok s) e = let n = number_is e in absurd (omega arith)
shown-is (Err TooLong) (Err TooLong) e = refl
shown-is (Err TooLong) (Err (Line l f)) e = let n = number_is e in let a = above_1 f in absurd (omega arith)
shown-is (Err (Line l f)) (Ok s) e = let n = number_is e in let a = above_1 f in absurd (omega arith)
shown-is (Err (Line l f)) (Err TooLong) e = let n = number_is e in let a = above_1 f in absurd (omega arith)
shown-is (Err (Line l f)) (Err (Line m g)) e = rw (ap (λ (x : Verdict). x.line) e, same_fault f g (number_is e)) refl
