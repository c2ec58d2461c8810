use Rattle.outline.proofs.Laws.{shut}
use Rattle.outline.proofs.judging.blame_found.Goals as goal

pub returns-in-Some : goal.returns-in-Some
returns-in-Some g c = λ cause _. rw c.in-Some.is (shut c.in-Some.f c.args.line cause c.if-f-line.true)
