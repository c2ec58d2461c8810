use Rattle.rig_log.specs.Run.{go_step}
use Rattle.rig_log.specs.Transcript.{block_of}
use mathlib.Core.Path.{◌∙◌}
use Rattle.rig_log.proofs.Run.go.Goals as goal

pub returns-in-Some-Go : goal.returns-in-Some-Go
unfolding go_step block_of
returns-in-Some-Go c =
    let e = rw c.in-Some-Go.is at c.in-Some-Go.field-0-is in
    rw (c.in-Some-Go.is, e, ← c.start-answer.ensures)
    (record { next = c.go_on.ensures ∙ c.begun.ensures; says = rw c.from.ensures at c.write.ensures })

pub returns-in-Some-Event : goal.returns-in-Some-Event
unfolding go_step
returns-in-Some-Event c = let e = rw c.in-Some-Event.is at c.in-Some-Event.field-0-is in rw (c.in-Some-Event.is, e) c.bad.ensures

pub returns-in-None : goal.returns-in-None
unfolding go_step
returns-in-None c = rw c.in-None.is c.bad-in-None.ensures
