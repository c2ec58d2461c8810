use Rattle.cond.proofs.Words.Marks.{none_yes, none_no}
use Rattle.cond.proofs.Words.Answers.{answer_4, answer_6, answer_7, answer_0}
use Rattle.cond.specs.Judging.{judged}
use mathlib.Core.Path.{sym, ◌∙◌}
use Rattle.cond.proofs.judge.Goals as goal

pub returns-then-is_none : goal.returns-then-is_none
unfolding judged
returns-then-is_none c = let a = c.args in answer_4 _ a.declared _ a.hold _ c.whole-r.ensures (none_yes _ _ c.is_none.ensures c.if-is_none.true)

pub returns-then-undeclared : goal.returns-then-undeclared
unfolding judged
returns-then-undeclared c =
    let a = c.args in
    let some = none_no _ _ c.is_none.ensures c.if-is_none.false in
    answer_6 _ a.declared _ a.hold _ c.whole-r.ensures some (sym c.undeclared.ensures ∙ c.if-undeclared.true)

pub returns-then-hold-edge : goal.returns-then-hold-edge
unfolding judged
returns-then-hold-edge c =
    let a = c.args in
    let some = none_no _ _ c.is_none.ensures c.if-is_none.false in
    answer_7 _ a.declared _ a.hold _ c.whole-r.ensures some (sym c.undeclared.ensures ∙ c.if-undeclared.false) (rw c.edge.ensures at c.if-hold-edge.true)

pub returns : goal.returns
unfolding judged
returns c =
    let a = c.args in
    let some = none_no _ _ c.is_none.ensures c.if-is_none.false in
    answer_0 _ a.declared _ a.hold _ c.whole-r.ensures some (sym c.undeclared.ensures ∙ c.if-undeclared.false) (rw c.edge.ensures at c.if-hold-edge.false)
