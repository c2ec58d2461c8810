use mathlib.Core.Path.{refl}
use lib.ListN.{length, drop}
use Rattle.std.proofs.lemmas.Result.{err_from_is_err_and}
use Rattle.line.specs.Chart.{Hold}
use Rattle.line.specs.Write.{hold'}
use Rattle.cond.specs.Faults.{answer}
use Rattle.line.proofs.Judging.{Finds, entered-err, entered-ok, found-hold, kept-hold}
use Rattle.line.proofs.Known.hold_of.Goals as goal

pub returns-in_err-enter : goal.returns-in_err-enter
returns-in_err-enter c =
    let a = c.args in
    let b = a.self.now in
    let x : Hold = record { step = a.x.step; output = a.x.output; condition = drop a.x.rest a.w.now } in
    let f : Finds (hold' x) b (answer c.lower-found.result) = rw (c.lower-found.ensures, c.lower.ensures, c.full.ensures, c.condition-told.ensures, c.given-far.ensures) (found-hold b x) in
    let p = err_from_is_err_and c.from_residual.result c.from_residual.ensures.1 in
    rw (p.1, p.2) (entered-err (hold' x) _ b _ refl f _ _ c.in_err-enter.ensures a.at (length a.w.now))

pub returns : goal.returns
returns c =
    let a = c.args in
    let b = a.self.now in
    let x : Hold = record { step = a.x.step; output = a.x.output; condition = drop a.x.rest a.w.now } in
    let f : Finds (hold' x) b (answer c.lower-found.result) = rw (c.lower-found.ensures, c.lower.ensures, c.full.ensures, c.condition-told.ensures, c.given-far.ensures) (found-hold b x) in
    let o = c.in_ok-enter.ensures in
    entered-ok (hold' x) _ b _ refl f _ _ _ o (rw (o.2, c.bit_at.ensures) (kept-hold b x)) a.at (length a.w.now) _
    (rw (c.item_word-item.ensures, c.rest_word.ensures.value))
