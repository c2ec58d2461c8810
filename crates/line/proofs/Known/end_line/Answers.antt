use mathlib.Core.Path.{◌≡◌, refl, sym, ◌∙◌}
use native.Mathlib.Omega.{arith}
use Rattle.std.proofs.Common.{Some, None}
use Rattle.cond.specs.declared.faults.Fault.TheVariants.{Shape}
use Rattle.std.proofs.lemmas.Result.{err_from_is_err_and}
use Rattle.line.specs.Shape.{one_number}
use Rattle.line.specs.Write.{end'}
use Rattle.cond.specs.Faults.{answer}
use Rattle.line.proofs.Judging.{Finds, judged-wrong, entered-err, entered-ok, found_end, kept_end}
use Rattle.line.proofs.Known.end_line.Goals as goal

pub returns-in_err-v : goal.returns-in_err-v
unfolding one_number
returns-in_err-v c =
    let n : c.alone.result ≡ None = grind arith in
    let e : c.in_err-v.field-0.0 ≡ Shape = grind arith in
    let p = err_from_is_err_and c.from_residual.result c.from_residual.ensures.1 in
    rw (p.1, p.2, e, (sym c.alone.ensures ∙ n)) (judged-wrong c.args.self.now)

pub returns-in_err-enter : goal.returns-in_err-enter
unfolding one_number
returns-in_err-enter c =
    let b = c.args.self.now in
    let v = c.in_ok-v.v in
    let s : c.alone.result ≡ Some v = grind arith in
    let f : Finds (end' v) b (answer c.given-found.result) = rw (c.given-found.ensures, c.from.ensures, c.total.ensures) (found_end b v) in
    let p = err_from_is_err_and c.from_residual-in_err-enter.result c.from_residual-in_err-enter.ensures.1 in
    rw (p.1, p.2, (sym c.alone.ensures ∙ s)) (entered-err (end' v) _ b _ refl f _ _ c.in_err-enter.ensures)

pub returns : goal.returns
unfolding one_number
returns c =
    let b = c.args.self.now in
    let v = c.in_ok-v.v in
    let s : c.alone.result ≡ Some v = grind arith in
    let f : Finds (end' v) b (answer c.given-found.result) = rw (c.given-found.ensures, c.from.ensures, c.total.ensures) (found_end b v) in
    let o = c.in_ok-enter.ensures in
    rw (sym c.alone.ensures ∙ s) (λ at n. entered-ok (end' v) _ b _ refl f _ _ _ o (rw o.2 (kept_end b v)) at n _ refl)
