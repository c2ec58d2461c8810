use mathlib.Core.Path.{sym, ◌∙◌}
use Prim.Native.Nat.{◌+◌}
use native.Mathlib.Omega.{arith}
use Rattle.line.specs.Write.{colon}
use Rattle.line.specs.Shape.{latch_line, latch_to, only_line}
use Rattle.line.proofs.Parts.{past_some, past_none}
use Rattle.line.proofs.Latches.{no_edge, edge_alone, edge_read, no_value, value_long, value_read}
use Rattle.line.proofs.shapes.latch_shape.Goals as goal

pub returns-in_err-step : goal.returns-in_err-step
unfolding latch_line
returns-in_err-step c = rw (c.from_residual.ensures, (sym c.number_at.ensures ∙ c.in_err-step.was))

pub returns-in_err-edge : goal.returns-in_err-edge
unfolding latch_line only_line
returns-in_err-edge c =
    let a = (sym c.number_at.ensures ∙ c.in_ok-step.was) in
    rw (c.from_residual-in_err-edge.ensures, a, past_none _ _ (sym c.past.ensures ∙ c.in_err-edge.was))

pub returns-in_err-activation : goal.returns-in_err-activation
returns-in_err-activation c =
    let a = (sym c.number_at.ensures ∙ c.in_ok-step.was) in
    let b = past_some c.args.w.now c.in_ok-step.e colon _ (omega arith) (sym c.past.ensures ∙ c.in_ok-edge.was) in
    rw (c.from_residual-in_err-activation.ensures) (no_edge _ _ _ _ _ a b (sym c.either.ensures ∙ c.in_err-activation.was))

pub returns-in_err-next : goal.returns-in_err-next
returns-in_err-next c =
    let a = (sym c.number_at.ensures ∙ c.in_ok-step.was) in
    let b = past_some c.args.w.now c.in_ok-step.e colon _ (omega arith) (sym c.past.ensures ∙ c.in_ok-edge.was) in
    rw (c.from_residual-in_err-next.ensures) (edge_alone _ _ _ _ _ a b c.in_ok-activation.activation (sym c.either.ensures ∙ c.in_ok-activation.was) (past_none _ _ (sym c.past-2.ensures ∙ c.in_err-next.was)))

pub returns-in_err-output : goal.returns-in_err-output
unfolding latch_to
returns-in_err-output c =
    let a = (sym c.number_at.ensures ∙ c.in_ok-step.was) in
    let b = past_some c.args.w.now c.in_ok-step.e colon _ (omega arith) (sym c.past.ensures ∙ c.in_ok-edge.was) in
    let d = past_some c.args.w.now (c.in_ok-edge.edge + 1) colon _ (omega arith) (sym c.past-2.ensures ∙ c.in_ok-next.was) in
    let e = edge_read _ _ _ _ _ a b c.in_ok-activation.activation _ (sym c.either.ensures ∙ c.in_ok-activation.was) d in
    rw (c.from_residual-in_err-output.ensures, e, (sym c.number_at-2.ensures ∙ c.in_err-output.was))

pub returns-in_err-value : goal.returns-in_err-value
unfolding latch_to only_line
returns-in_err-value c =
    let a = (sym c.number_at.ensures ∙ c.in_ok-step.was) in
    let b = past_some c.args.w.now c.in_ok-step.e colon _ (omega arith) (sym c.past.ensures ∙ c.in_ok-edge.was) in
    let d = past_some c.args.w.now (c.in_ok-edge.edge + 1) colon _ (omega arith) (sym c.past-2.ensures ∙ c.in_ok-next.was) in
    let e = edge_read _ _ _ _ _ a b c.in_ok-activation.activation _ (sym c.either.ensures ∙ c.in_ok-activation.was) d in
    let f = (sym c.number_at-2.ensures ∙ c.in_ok-output.was) in
    rw (c.from_residual-in_err-value.ensures, e, f, past_none _ _ (sym c.past-3.ensures ∙ c.in_err-value.was))

pub returns-in_err-on : goal.returns-in_err-on
returns-in_err-on c =
    let a = (sym c.number_at.ensures ∙ c.in_ok-step.was) in
    let b = past_some c.args.w.now c.in_ok-step.e colon _ (omega arith) (sym c.past.ensures ∙ c.in_ok-edge.was) in
    let d = past_some c.args.w.now (c.in_ok-edge.edge + 1) colon _ (omega arith) (sym c.past-2.ensures ∙ c.in_ok-next.was) in
    let e = edge_read _ _ _ _ _ a b c.in_ok-activation.activation _ (sym c.either.ensures ∙ c.in_ok-activation.was) d in
    let f = (sym c.number_at-2.ensures ∙ c.in_ok-output.was) in
    let g = past_some c.args.w.now c.in_ok-output.e colon _ (omega arith) (sym c.past-3.ensures ∙ c.in_ok-value.was) in
    rw (c.from_residual-in_err-on.ensures) (e ∙ no_value c.args.w.now c.in_ok-step.step c.in_ok-activation.activation _ _ _ _ f g (sym c.either-2.ensures ∙ c.in_err-on.was))

pub returns-then-value-w : goal.returns-then-value-w
returns-then-value-w c =
    let a = (sym c.number_at.ensures ∙ c.in_ok-step.was) in
    let b = past_some c.args.w.now c.in_ok-step.e colon _ (omega arith) (sym c.past.ensures ∙ c.in_ok-edge.was) in
    let d = past_some c.args.w.now (c.in_ok-edge.edge + 1) colon _ (omega arith) (sym c.past-2.ensures ∙ c.in_ok-next.was) in
    let e = edge_read _ _ _ _ _ a b c.in_ok-activation.activation _ (sym c.either.ensures ∙ c.in_ok-activation.was) d in
    let f = (sym c.number_at-2.ensures ∙ c.in_ok-output.was) in
    let g = past_some c.args.w.now c.in_ok-output.e colon _ (omega arith) (sym c.past-3.ensures ∙ c.in_ok-value.was) in
    e ∙ value_read c.args.w.now c.in_ok-step.step c.in_ok-activation.activation _ _ _ _ f g c.in_ok-on.on (sym c.either-2.ensures ∙ c.in_ok-on.was) c.if-value-w.true

pub returns-else-value-w : goal.returns-else-value-w
returns-else-value-w c =
    let a = (sym c.number_at.ensures ∙ c.in_ok-step.was) in
    let b = past_some c.args.w.now c.in_ok-step.e colon _ (omega arith) (sym c.past.ensures ∙ c.in_ok-edge.was) in
    let d = past_some c.args.w.now (c.in_ok-edge.edge + 1) colon _ (omega arith) (sym c.past-2.ensures ∙ c.in_ok-next.was) in
    let e = edge_read _ _ _ _ _ a b c.in_ok-activation.activation _ (sym c.either.ensures ∙ c.in_ok-activation.was) d in
    let f = (sym c.number_at-2.ensures ∙ c.in_ok-output.was) in
    let g = past_some c.args.w.now c.in_ok-output.e colon _ (omega arith) (sym c.past-3.ensures ∙ c.in_ok-value.was) in
    e ∙ value_long c.args.w.now c.in_ok-step.step c.in_ok-activation.activation _ _ _ _ f g c.in_ok-on.on (sym c.either-2.ensures ∙ c.in_ok-on.was) c.if-value-w.false
