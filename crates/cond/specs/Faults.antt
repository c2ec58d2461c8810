-- The answer numbers of a line. 01, Answer numbers 2 to 4 and 6 to 9; 02, P5: "Number 5 isn't used again".
use Rattle.std.specs.Prelude.{Result, Ok, Err, ℕ}
use Rattle.cond.specs.declared.faults.Fault.{Fault}
use Rattle.cond.specs.declared.faults.Fault.TheVariants.{Shape, Bound, Grammar, Undeclared, EdgeInHold, LatchOfHeld, Total}

abbrev pub number : Fault → ℕ
number Shape = 2
number Bound = 3
number Grammar = 4
number Undeclared = 6
number EdgeInHold = 7
number LatchOfHeld = 8
number Total = 9

-- 0 where there is no fault. `number_exactly` (proofs/Promises.antt): the number determines the answer.
abbrev pub answer : Result Unit Fault → ℕ
answer (Ok x) = 0
answer (Err f) = number f
