use Rattle.rig_log.specs.Run.{partial}
use Rattle.rig_log.proofs.Runs.Turns.{said-nothing, byte_step, over_step, go_line_end, ev_line_end}
use Rattle.text.specs.Lines.{line_end}
use mathlib.Core.Path.{◌≡◌, refl}
use Rattle.rig_log.proofs.Run.feed.Goals as goal
use Rattle.rig_log.proofs.Run.feed.Goals.{in_default-via-in-Waiting+else-b-eq10, in_default-via-in-Running+else-b-eq10-2}

pub returns-in-Over : goal.returns-in-Over
returns-in-Over c =
    let a = c.args in
    rw (c.in-Over.is, over_step a.chart.now (partial a.self.now.line) a.b) (record { next = refl; says = said-nothing _ })

pub returns-in-Waiting : goal.returns-in-Waiting
returns-in-Waiting c =
    let a = c.args in
    let e = go_line_end a.chart.now (partial a.self.now.line) a.b c.if-b-eq10.true in
    rw (c.in-Waiting.is, e, ← c.entry-entry.ensures) c.go.ensures

pub returns-in-Running : goal.returns-in-Running
returns-in-Running c =
    let a = c.args in
    let e = ev_line_end a.chart.now (partial a.self.now.line) a.b c.in-Running.number c.in-Running.state c.if-b-eq10-2.true in
    rw (c.in-Running.is, e, ← c.entry-entry-in-Running.ensures) c.ev.ensures

pub returns-in_default : goal.returns-in_default
returns-in_default c =
    let a = c.args in
    let other : a.b ≡ line_end → ⊥ =
    elim c.in_default.branch [
      | in_default-via-in-Waiting+else-b-eq10 w ↦ w.if-b-eq10.false
      | in_default-via-in-Running+else-b-eq10-2 w ↦ w.if-b-eq10-2.false
    ] in
    let e = byte_step a.chart.now a.self.now.phase (partial a.self.now.line) a.b other in
    rw e (record { next = cc (c.grow.ensures.phase, c.grow.ensures.line); says = said-nothing _ })
