use Rattle.std.proofs.Common.{◌-◌, length}
use Rattle.tokens.proofs.Laws.{Skipping}
use Rattle.tokens.proofs.gaps.skip.Given as goal

abbrev pub invariant-loop-e : goal.invariant-loop-e
invariant-loop-e l = Skipping l.text l.fn.from.place l.fn.from.line l.p

abbrev pub decreases-loop-e : goal.decreases-loop-e
decreases-loop-e l = length l.text - l.p.place
