use mathlib.Core.Path.{◌≡◌}
use native.Mathlib.Omega.{arith}
use lib.ListN.{length}
use Rattle.std.proofs.Common.{Some, None}
use Rattle.cond.specs.declared.faults.Fault.TheVariants.{Shape}
use Rattle.std.proofs.lemmas.Result.{err_from_is_err_and}
use Rattle.line.proofs.Judging.{judged-wrong}
use Rattle.line.proofs.Known.move_line.Goals as goal

pub returns-in_err-shape : goal.returns-in_err-shape
returns-in_err-shape c =
    let n : c.move_shape.result ≡ None = grind arith in
    let e : c.in_err-shape.field-0.0 ≡ Shape = grind arith in
    let p = err_from_is_err_and c.from_residual.result c.from_residual.ensures.1 in
    rw (p.1, p.2, e, rw n at c.move_shape.ensures) (judged-wrong c.args.self.now c.args.at (length c.args.w.now))

pub move_of-requires : goal.move_of-requires
move_of-requires c =
    let s : c.move_shape.result ≡ Some c.in_ok-shape.shape = grind arith in
    (rw s at c.move_shape.ensures).within

pub returns : goal.returns
returns c =
    let s : c.move_shape.result ≡ Some c.in_ok-shape.shape = grind arith in
    c.move_of.ensures _ (rw s at c.move_shape.ensures)
