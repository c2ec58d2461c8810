use Rattle.sfc.proofs.Answers.{judged-long}
use Rattle.sfc.proofs.judge.Goals as goal

pub returns-then-text-gt-TEXT : goal.returns-then-text-gt-TEXT
returns-then-text-gt-TEXT c = judged-long c.args.text.now c.if-text-gt-TEXT.true
