use mathlib.Core.Path.{sym, ◌∙◌}
use native.Mathlib.Omega.{arith}
use Rattle.line.specs.Write.{arrow, colon}
use Rattle.line.specs.Shape.{move_line, move_to, only_line}
use Rattle.line.proofs.Parts.{past_some, past_none}
use Rattle.line.proofs.Tallies.{told, told_bad, move_read}
use Rattle.line.proofs.shapes.move_shape.Goals as goal

pub returns-in_err-before : goal.returns-in_err-before
unfolding move_line
returns-in_err-before c = rw (c.from_residual.ensures, told_bad _ _ (sym c.in_err-before.was ∙ c.list_at.ensures))

pub returns-in_err-next : goal.returns-in_err-next
unfolding move_line only_line
returns-in_err-next c =
    let a = told _ _ _ _ (sym c.in_ok-before.was ∙ c.list_at.ensures) in
    rw (c.from_residual-in_err-next.ensures, a.is, past_none _ _ (sym c.past.ensures ∙ c.in_err-next.was))

pub returns-in_err-after : goal.returns-in_err-after
unfolding move_line move_to only_line
returns-in_err-after c =
    let a = told _ _ _ _ (sym c.in_ok-before.was ∙ c.list_at.ensures) in
    let b = past_some c.args.w.now c.in_ok-before.e arrow _ (omega arith) (sym c.past.ensures ∙ c.in_ok-next.was) in
    rw (c.from_residual-in_err-after.ensures, a.is, b.stands, b.is, told_bad _ _ (sym c.in_err-after.was ∙ c.list_at-2.ensures))

pub returns-in_err-condition : goal.returns-in_err-condition
unfolding move_line move_to only_line
returns-in_err-condition c =
    let a = told _ _ _ _ (sym c.in_ok-before.was ∙ c.list_at.ensures) in
    let b = past_some c.args.w.now c.in_ok-before.e arrow _ (omega arith) (sym c.past.ensures ∙ c.in_ok-next.was) in
    let d = told _ _ _ _ (sym c.in_ok-after.was ∙ c.list_at-2.ensures) in
    rw (c.from_residual-in_err-condition.ensures, a.is, b.stands, b.is, d.is, past_none _ _ (sym c.past-2.ensures ∙ c.in_err-condition.was))

pub returns : goal.returns
returns c =
    let a = told _ _ _ _ (sym c.in_ok-before.was ∙ c.list_at.ensures) in
    let b = past_some c.args.w.now c.in_ok-before.e arrow _ (omega arith) (sym c.past.ensures ∙ c.in_ok-next.was) in
    let d = told _ _ _ _ (sym c.in_ok-after.was ∙ c.list_at-2.ensures) in
    let e = past_some c.args.w.now c.in_ok-after.e colon _ (omega arith) (sym c.past-2.ensures ∙ c.in_ok-condition.was) in
    move_read _ _ _ _ _ _ a b d e
