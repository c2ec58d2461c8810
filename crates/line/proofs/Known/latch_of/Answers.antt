use mathlib.Core.Path.{◌≡◌, refl}
use Rattle.std.proofs.lemmas.Result.{err_from_is_err_and}
use Rattle.line.specs.Chart.{Latch}
use Rattle.line.specs.Write.{latch'}
use Rattle.cond.specs.Faults.{answer}
use Rattle.line.proofs.Judging.{Finds, entered-err, entered-ok, found-latch, kept-latch}
use mathlib.Core.Bool.{Bool, true, false, not}
use mir.Val.{bool_byte}
use Rattle.line.specs.Words.{flag}
use Rattle.line.proofs.Known.latch_of.Goals as goal

flag-is : (t : Bool) → flag t ≡ bool_byte t
flag-is true = refl
flag-is false = refl

pub returns-in_err-enter : goal.returns-in_err-enter
returns-in_err-enter c =
    let a = c.args in
    let b = a.self.now in
    let x : Latch = record { step = a.x.step; activation = a.x.activation; output = a.x.output; on = a.x.on } in
    let f : Finds (latch' x) b (answer c.lower-found.result) = rw (c.lower-found.ensures, c.lower.ensures, c.full.ensures, c.given-far.ensures, c.given-held.ensures, c.has_item.ensures) (found-latch b x) in
    let p = err_from_is_err_and c.from_residual.result c.from_residual.ensures.1 in
    rw (p.1, p.2) (entered-err (latch' x) _ b _ refl f _ _ c.in_err-enter.ensures)

pub returns : goal.returns
returns c =
    let a = c.args in
    let b = a.self.now in
    let x : Latch = record { step = a.x.step; activation = a.x.activation; output = a.x.output; on = a.x.on } in
    let f : Finds (latch' x) b (answer c.lower-found.result) = rw (c.lower-found.ensures, c.lower.ensures, c.full.ensures, c.given-far.ensures, c.given-held.ensures, c.has_item.ensures) (found-latch b x) in
    let o = c.in_ok-enter.ensures in
    λ at n. entered-ok (latch' x) _ b _ refl f _ _ _ o (rw o.2 (kept-latch b x)) at n _
    (rw (c.item_word-item.ensures, c.from.ensures, c.from-2.ensures, ← flag-is (not a.x.activation), ← flag-is a.x.on))
