use mathlib.Core.Path.{refl}
use lib.ListN.{length, drop}
use Rattle.std.proofs.lemmas.Result.{err_from_is_err_and}
use Rattle.line.specs.Chart.{Move}
use Rattle.line.specs.Write.{move'}
use Rattle.cond.specs.Faults.{answer}
use Rattle.line.proofs.Judging.{Finds, entered-err, entered-ok, found_move, kept_move}
use Rattle.line.proofs.Tallies.{told_word}
use Rattle.line.proofs.Known.move_of.Goals as goal

pub returns-in_err-enter : goal.returns-in_err-enter
returns-in_err-enter c =
    λ l r.
    let a = c.args in
    let b = a.self.now in
    let m : Move = record { before = r.before; after = r.after; condition = drop a.x.rest a.w.now } in
    let f : Finds (move' m) b (answer c.lower-found.result) =
    rw (c.lower-found.ensures, c.lower-2.ensures, c.lower.ensures, c.full.ensures, c.given-lists.ensures, c.condition-told.ensures, c.given-far.ensures)
    (found_move b a.x.before a.x.after m r.tallied-before r.tallied-after) in
    let p = err_from_is_err_and c.from_residual.result c.from_residual.ensures.1 in
    rw (p.1, p.2, r.is) (entered-err (move' m) _ b _ refl f _ _ c.in_err-enter.ensures a.at (length a.w.now))

pub returns : goal.returns
returns c =
    λ l r.
    let a = c.args in
    let b = a.self.now in
    let m : Move = record { before = r.before; after = r.after; condition = drop a.x.rest a.w.now } in
    let f : Finds (move' m) b (answer c.lower-found.result) =
    rw (c.lower-found.ensures, c.lower-2.ensures, c.lower.ensures, c.full.ensures, c.given-lists.ensures, c.condition-told.ensures, c.given-far.ensures)
    (found_move b a.x.before a.x.after m r.tallied-before r.tallied-after) in
    let o = c.in_ok-enter.ensures in
    rw r.is
    (entered-ok (move' m) _ b _ refl f _ _ _ o (rw o.2 (kept_move b m)) a.at (length a.w.now) _
    (rw (told_word _ a.x.before r.before r.tallied-before, told_word _ a.x.after r.after r.tallied-after, c.rest_word.ensures.value)))
