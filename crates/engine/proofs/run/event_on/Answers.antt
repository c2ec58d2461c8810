use mathlib.Core.Path.{sym, ◌∙◌}
use Rattle.engine.specs.Answers.{Gives, event_on}
use Rattle.engine.specs.Parts.{plan_in}
use Rattle.engine.proofs.Calls.Answering.{evolved-gives, state-refused, event-refused, event-evolved}
use Rattle.engine.proofs.run.event_on.Goals as goal

pub returns-then-not-state_accepted : goal.returns-then-not-state_accepted
returns-then-not-state_accepted c =
    let z = c.args in
    let p = plan_in z.chart.now.text.now z.chart.now.table.now in
    let state = c.state_accepted.ensures in
    let gives : Gives (event_on p z.given z.event z.trace.now) c.refusal.result z.trace.now =
    state-refused p _ _ _ _ (sym state ∙ c.if-not-state_accepted.true) c.refusal.ensures in
    record { value = gives.0; trace_after = gives.1 }

pub returns-then-not-event_accepted : goal.returns-then-not-event_accepted
returns-then-not-event_accepted c =
    let z = c.args in
    let p = plan_in z.chart.now.text.now z.chart.now.table.now in
    let state = c.state_accepted.ensures in
    let event = c.event_accepted.ensures in
    let refusal = c.refusal-then-not-event_accepted in
    let gives : Gives (event_on p z.given z.event z.trace.now) refusal.result z.trace.now =
    event-refused p _ _ _ _ (sym state ∙ c.if-not-state_accepted.false) (sym event ∙ c.if-not-event_accepted.true) refusal.ensures in
    record { value = gives.0; trace_after = gives.1 }

pub returns : goal.returns
unfolding plan_in
returns c =
    let z = c.args in
    let p = plan_in z.chart.now.text.now z.chart.now.table.now in
    let state = c.state_accepted.ensures in
    let event = c.event_accepted.ensures in
    let begun = c.event_view-view.ensures in
    let run = c.run-end.ensures in
    let gives : Gives (event_on p z.given z.event z.trace.now) c.answer.result c.run-end.new.trace =
    event-evolved p _ _ _ _ _ _ (sym state ∙ c.if-not-state_accepted.false) (sym event ∙ c.if-not-event_accepted.false) begun
    (evolved-gives p _ _ _ _ _ _ _ run.value run.view_after run.trace_after c.answer.ensures) in
    record { value = gives.0; trace_after = gives.1 }
