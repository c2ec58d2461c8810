use Rattle.pipe.specs.Loop.{fed-on, ended}
use Rattle.pipe.proofs.turn.Goals as goal

pub returns-in-Ok-eq0 : goal.returns-in-Ok-eq0
returns-in-Ok-eq0 g c = rw c.finish.ensures ended

pub returns-in-Ok : goal.returns-in-Ok
returns-in-Ok g c = rw c.feed_all.ensures (fed-on _)
