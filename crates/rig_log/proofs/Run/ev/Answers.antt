use Rattle.rig_log.specs.Run.{ev_step}
use Rattle.rig_log.specs.Transcript.{block_of}
use Rattle.rig_log.proofs.Run.ev.Goals as goal

pub returns-in-Some-Event : goal.returns-in-Some-Event
unfolding ev_step block_of
returns-in-Some-Event c =
    let e = rw c.in-Some-Event.is at c.in-Some-Event.field-0-is in
    rw (c.in-Some-Event.is, e, ← c.event-answer.ensures, ← c.next_line.ensures)
    (record { next = c.go_on.ensures; says = rw c.from.ensures at c.write.ensures })

pub returns-in-Some-Go : goal.returns-in-Some-Go
unfolding ev_step
returns-in-Some-Go c = let e = rw c.in-Some-Go.is at c.in-Some-Go.field-0-is in rw (c.in-Some-Go.is, e) c.bad.ensures

pub returns-in-None : goal.returns-in-None
unfolding ev_step
returns-in-None c = rw c.in-None.is c.bad-in-None.ensures
