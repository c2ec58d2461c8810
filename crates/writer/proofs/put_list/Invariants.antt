use Rattle.writer.proofs.Laws.{Itemizing}
use Rattle.writer.proofs.put_list.Given as goal

abbrev pub invariant-loop-j : goal.invariant-loop-j
invariant-loop-j l = Itemizing l.from l.w l.at l.initial.room l.room l.j
