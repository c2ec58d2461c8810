use mathlib.Core.Path.{◌∙◌}
use Rattle.engine.specs.Answers.{Gives}
use Rattle.engine.specs.Texts.{started}
use Rattle.engine.proofs.Calls.Texts.{start-faulty, start-read}
use Rattle.engine.proofs.start.Goals as goal

pub returns-then-verdict-ne0 : goal.returns-then-verdict-ne0
returns-then-verdict-ne0 c =
    let a = c.args in
    let gives : Gives (started a.text.now a.inputs a.trace.now) c.refusal.result a.trace.now =
    start-faulty _ _ (c.from-verdict.ensures ∙ c.read.ensures.value) _ _ _ _ c.if-verdict-ne0.true c.zero.ensures c.refusal.ensures in
    record { value = gives.0; trace_after = gives.1 }

pub returns : goal.returns
returns c =
    let a = c.args in
    let read = c.read.ensures in
    let on = c.start_on.ensures in
    let gives : Gives (started a.text.now a.inputs a.trace.now) c.start_on.result c.start_on.new.trace =
    start-read _ _ (c.from-verdict.ensures ∙ read.value) _ read.table_says c.if-verdict-ne0.false _ _ _ _ (on.value, on.trace_after) in
    record { value = gives.0; trace_after = gives.1 }
