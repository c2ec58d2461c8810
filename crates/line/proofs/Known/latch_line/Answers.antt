use mathlib.Core.Path.{◌≡◌}
use native.Mathlib.Omega.{arith}
use Rattle.std.proofs.Common.{Some, None}
use Rattle.cond.specs.declared.faults.Fault.TheVariants.{Shape}
use Rattle.std.proofs.lemmas.Result.{err_from_is_err_and}
use Rattle.line.proofs.Judging.{judged-wrong}
use Rattle.line.proofs.Known.latch_line.Goals as goal

pub returns-in_err-shape : goal.returns-in_err-shape
returns-in_err-shape c =
    let n : c.latch_shape.result ≡ None = grind arith in
    let e : c.in_err-shape.field-0.0 ≡ Shape = grind arith in
    let p = err_from_is_err_and c.from_residual.result c.from_residual.ensures.1 in
    rw (p.1, p.2, e, rw n at c.latch_shape.ensures) (judged-wrong c.args.self.now)

pub returns : goal.returns
returns c =
    let s : c.latch_shape.result ≡ Some c.in_ok-shape.shape = grind arith in
    rw (rw s at c.latch_shape.ensures) c.latch_of.ensures
