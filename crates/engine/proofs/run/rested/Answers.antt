use Rattle.engine.specs.Answers.{resting}
use Rattle.engine.specs.Parts.{plan_in}
use Rattle.engine.proofs.run.rested.Goals as goal

pub returns : goal.returns
unfolding resting plan_in
returns c = rw (c.held-held.ensures, c.kept.ensures)
