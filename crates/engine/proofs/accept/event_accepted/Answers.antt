use Rattle.engine.specs.State.{event_accepted}
use Rattle.engine.proofs.accept.event_accepted.Goals as goal

pub returns : goal.returns
unfolding event_accepted
returns c = rw (c.inputs_accepted-declared.ensures)
