use Rattle.engine.specs.State.{inputs_accepted}
use Rattle.engine.specs.Parts.{plan_in}
use Rattle.engine.proofs.accept.inputs_accepted.Goals as goal

pub returns : goal.returns
unfolding inputs_accepted plan_in
returns c = c.word_fits.ensures
