use Rattle.engine.specs.Parts.{answer_in}
use Rattle.engine.proofs.run.answer.Goals as goal

pub returns-in-Rest : goal.returns-in-Rest
unfolding answer_in
returns-in-Rest c = rw c.in-Rest.is c.rested.ensures

pub returns-in-Loops : goal.returns-in-Loops
unfolding answer_in
returns-in-Loops c = rw c.in-Loops.is c.refusal.ensures

pub returns-in-Cut : goal.returns-in-Cut
unfolding answer_in
returns-in-Cut c = rw c.in-Cut.is c.refusal-in-Cut.ensures
