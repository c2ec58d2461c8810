use Rattle.std.proofs.Common.{◌≡◌, ◌+◌, drop}
use Rattle.naming.specs.Names.{number_in}
use Rattle.naming.proofs.number_of.Given as goal

abbrev pub invariant-loop-i : goal.invariant-loop-i
invariant-loop-i l = number_in l.text l.t l.known ≡ l.i + number_in l.text l.t (drop l.i l.known)
