use Rattle.text.specs.Bytes.{byte_at}
use Rattle.text.proofs.Numbers.Ended.{Under-way}
use Rattle.text.proofs.reading.numeral_at.Given as goal

abbrev pub invariant-loop-at : goal.invariant-loop-at
invariant-loop-at l = Under-way l.most (byte_at l.s) l.at l.end l.left l.value

abbrev pub decreases-loop-at : goal.decreases-loop-at
decreases-loop-at l = l.left
