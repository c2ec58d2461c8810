use mathlib.Core.Path.{◌∙◌}
use Rattle.engine.specs.Answers.{Gives}
use Rattle.engine.specs.Texts.{evented}
use Rattle.engine.proofs.Calls.Texts.{event-faulty, event-read}
use Rattle.engine.proofs.event.Goals as goal

pub returns-then-verdict-ne0 : goal.returns-then-verdict-ne0
returns-then-verdict-ne0 c =
    let a = c.args in
    let gives : Gives (evented a.text.now a.state a.elapsed a.inputs a.trace.now) c.refusal.result a.trace.now =
    event-faulty _ _ (c.from-verdict.ensures ∙ c.read.ensures.value) _ _ _ _ _ c.if-verdict-ne0.true c.refusal.ensures in
    record { value = gives.0; trace_after = gives.1 }

pub returns : goal.returns
returns c =
    let a = c.args in
    let read = c.read.ensures in
    let on = c.event_on.ensures in
    let gives : Gives (evented a.text.now a.state a.elapsed a.inputs a.trace.now) c.event_on.result c.event_on.new.trace =
    event-read _ _ (c.from-verdict.ensures ∙ read.value) _ read.table_says c.if-verdict-ne0.false _ _ _ _ _ _ (rw (← c.new.ensures) (on.value, on.trace_after)) in
    record { value = gives.0; trace_after = gives.1 }
