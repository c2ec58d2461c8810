use Rattle.text.proofs.Putting.{Putting}
use Rattle.text.proofs.writing.put_bytes.Given as goal

abbrev pub invariant-loop-b : goal.invariant-loop-b
invariant-loop-b l = Putting l.at l.s l.initial.room l.room l.b-index l.end
