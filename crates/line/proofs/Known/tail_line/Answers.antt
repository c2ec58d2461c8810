use mathlib.Core.Path.{◌∙◌, sym}
use Rattle.std.proofs.lemmas.Result.{err_from_is_err_and}
use Rattle.line.specs.Kinds.{inputs, outputs, limit}
use Rattle.line.proofs.Judging.{judged-wrong, number-err, number-ok}
use Rattle.line.proofs.Known.tail_line.Goals as goal

pub returns-in_err-self : goal.returns-in_err-self
returns-in_err-self c =
    let p = err_from_is_err_and c.from_residual.result c.from_residual.ensures.1 in
    rw (p.1, p.2, sym c.begins.ensures ∙ c.if-begins.true) (number-err inputs c.args.w.now c.args.self.now _ _ c.in_err-self.ensures)

pub returns-then-begins : goal.returns-then-begins
returns-then-begins c = rw (sym c.begins.ensures ∙ c.if-begins.true) (number-ok inputs c.args.w.now c.args.self.now _ _ c.in_ok-self.ensures)

pub returns-in_err-self-2 : goal.returns-in_err-self-2
returns-in_err-self-2 c =
    let p = err_from_is_err_and c.from_residual-in_err-self-2.result c.from_residual-in_err-self-2.ensures.1 in
    rw (p.1, p.2, sym c.begins.ensures ∙ c.if-begins.false, sym c.begins-2.ensures ∙ c.if-begins-2.true) (number-err outputs c.args.w.now c.args.self.now _ _ c.in_err-self-2.ensures)

pub returns-then-begins-2 : goal.returns-then-begins-2
returns-then-begins-2 c = rw (sym c.begins.ensures ∙ c.if-begins.false, sym c.begins-2.ensures ∙ c.if-begins-2.true) (number-ok outputs c.args.w.now c.args.self.now _ _ c.in_ok-self-2.ensures)

pub returns-in_err-self-3 : goal.returns-in_err-self-3
returns-in_err-self-3 c =
    let p = err_from_is_err_and c.from_residual-in_err-self-3.result c.from_residual-in_err-self-3.ensures.1 in
    rw (p.1, p.2, sym c.begins.ensures ∙ c.if-begins.false, sym c.begins-2.ensures ∙ c.if-begins-2.false, sym c.begins-3.ensures ∙ c.if-begins-3.true) (number-err limit c.args.w.now c.args.self.now _ _ c.in_err-self-3.ensures)

pub returns-then-begins-3 : goal.returns-then-begins-3
returns-then-begins-3 c = rw (sym c.begins.ensures ∙ c.if-begins.false, sym c.begins-2.ensures ∙ c.if-begins-2.false, sym c.begins-3.ensures ∙ c.if-begins-3.true) (number-ok limit c.args.w.now c.args.self.now _ _ c.in_ok-self-3.ensures)

pub returns : goal.returns
returns c = rw (sym c.begins.ensures ∙ c.if-begins.false, sym c.begins-2.ensures ∙ c.if-begins-2.false, sym c.begins-3.ensures ∙ c.if-begins-3.false) (judged-wrong c.args.self.now)
