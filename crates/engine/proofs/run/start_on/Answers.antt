use mathlib.Core.Path.{sym, ◌∙◌}
use Rattle.engine.specs.Answers.{Gives, start_on}
use Rattle.engine.specs.Parts.{plan_in}
use Rattle.engine.proofs.Calls.Answering.{evolved-gives, start-refused, start-evolved}
use Rattle.engine.proofs.run.start_on.Goals as goal

pub returns-then-not-inputs_accepted : goal.returns-then-not-inputs_accepted
returns-then-not-inputs_accepted c =
    let z = c.args in
    let p = plan_in z.chart.now.text.now z.chart.now.table.now in
    let inputs = c.inputs_accepted.ensures in
    let gives : Gives (start_on p z.inputs z.trace.now) c.refusal.result z.trace.now =
    start-refused p _ _ _ _ (sym inputs ∙ c.if-not-inputs_accepted.true) c.zero.ensures c.refusal.ensures in
    record { value = gives.0; trace_after = gives.1 }

pub returns : goal.returns
unfolding plan_in
returns c =
    let z = c.args in
    let p = plan_in z.chart.now.text.now z.chart.now.table.now in
    let inputs = c.inputs_accepted.ensures in
    let begun = c.start_view-view.ensures in
    let run = c.run-end.ensures in
    let gives : Gives (start_on p z.inputs z.trace.now) c.answer.result c.run-end.new.trace =
    start-evolved p _ _ _ _ _ _ (sym inputs ∙ c.if-not-inputs_accepted.false) begun c.zero-2.ensures
    (evolved-gives p _ _ _ _ _ _ _ run.value run.view_after run.trace_after c.answer.ensures) in
    record { value = gives.0; trace_after = gives.1 }
