use mathlib.Core.Path.{◌≡◌, refl, sym, ◌∙◌}
use native.Mathlib.Omega.{arith}
use Rattle.std.proofs.Common.{Some, None}
use Rattle.cond.specs.declared.faults.Fault.TheVariants.{Shape}
use Rattle.std.proofs.lemmas.Result.{err_from_is_err_and}
use Rattle.line.proofs.Known.number.Goals as goal

pub returns-in_err-v : goal.returns-in_err-v
returns-in_err-v c =
    let n : c.alone.result ≡ None = grind arith in
    let e : c.in_err-v.field-0.0 ≡ Shape = grind arith in
    let p = err_from_is_err_and c.from_residual.result c.from_residual.ensures.1 in
    rw (p.1, p.2, e, (sym c.alone.ensures ∙ n)) (refl, refl)

pub returns-in_err-enter : goal.returns-in_err-enter
returns-in_err-enter c =
    let s : c.alone.result ≡ Some c.in_ok-v.v = grind arith in
    let p = err_from_is_err_and c.from_residual-in_err-enter.result c.from_residual-in_err-enter.ensures.1 in
    rw (p.1, p.2, (sym c.alone.ensures ∙ s), ← c.given-found.ensures) c.in_err-enter.ensures

pub returns : goal.returns
returns c =
    let s : c.alone.result ≡ Some c.in_ok-v.v = grind arith in
    let o = c.in_ok-enter.ensures in
    rw ((sym c.alone.ensures ∙ s), ← c.given-found.ensures) (o.0, refl, o.2)
