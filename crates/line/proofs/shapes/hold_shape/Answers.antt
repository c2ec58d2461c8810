use mathlib.Core.Path.{sym, ◌∙◌}
use native.Mathlib.Omega.{arith}
use Rattle.line.specs.Write.{colon}
use Rattle.line.specs.Shape.{hold_line, hold_to, only_line}
use Rattle.line.proofs.Parts.{past_some, past_none}
use Rattle.line.proofs.shapes.hold_shape.Goals as goal

pub returns-in_err-step : goal.returns-in_err-step
unfolding hold_line
returns-in_err-step c = rw (c.from_residual.ensures, (sym c.number_at.ensures ∙ c.in_err-step.was))

pub returns-in_err-next : goal.returns-in_err-next
unfolding hold_line only_line
returns-in_err-next c =
    let a = (sym c.number_at.ensures ∙ c.in_ok-step.was) in
    rw (c.from_residual-in_err-next.ensures, a, past_none _ _ (sym c.past.ensures ∙ c.in_err-next.was))

pub returns-in_err-output : goal.returns-in_err-output
unfolding hold_line hold_to only_line
returns-in_err-output c =
    let a = (sym c.number_at.ensures ∙ c.in_ok-step.was) in
    let b = past_some c.args.w.now c.in_ok-step.e colon _ (omega arith) (sym c.past.ensures ∙ c.in_ok-next.was) in
    rw (c.from_residual-in_err-output.ensures, a, b.stands, b.is, (sym c.number_at-2.ensures ∙ c.in_err-output.was))

pub returns-in_err-rest : goal.returns-in_err-rest
unfolding hold_line hold_to only_line
returns-in_err-rest c =
    let a = (sym c.number_at.ensures ∙ c.in_ok-step.was) in
    let b = past_some c.args.w.now c.in_ok-step.e colon _ (omega arith) (sym c.past.ensures ∙ c.in_ok-next.was) in
    let d = (sym c.number_at-2.ensures ∙ c.in_ok-output.was) in
    rw (c.from_residual-in_err-rest.ensures, a, b.stands, b.is, d, past_none _ _ (sym c.past-2.ensures ∙ c.in_err-rest.was))

pub returns : goal.returns
unfolding hold_line hold_to only_line
returns c =
    let a = (sym c.number_at.ensures ∙ c.in_ok-step.was) in
    let b = past_some c.args.w.now c.in_ok-step.e colon _ (omega arith) (sym c.past.ensures ∙ c.in_ok-next.was) in
    let d = (sym c.number_at-2.ensures ∙ c.in_ok-output.was) in
    let e = past_some c.args.w.now c.in_ok-output.e colon _ (omega arith) (sym c.past-2.ensures ∙ c.in_ok-rest.was) in
    (e.within, rw (a, b.stands, b.is, d, e.stands, e.is))
