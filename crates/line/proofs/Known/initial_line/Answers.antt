use mathlib.Core.Path.{◌≡◌, refl, sym, ◌∙◌}
use native.Mathlib.Omega.{arith}
use borrow.Author.Tests.{eq-eqb, ne_eqb}
use Rattle.std.proofs.Common.{Some, None}
use Rattle.cond.specs.declared.faults.Fault.TheVariants.{Shape}
use Rattle.std.proofs.lemmas.Result.{err_from_is_err_and}
use Rattle.line.specs.Shape.{initial_line, only_line}
use Rattle.line.specs.Write.{initial'}
use Rattle.line.proofs.Tallies.{told, told_bad, told_word}
use Rattle.cond.specs.Faults.{answer}
use Rattle.line.proofs.Judging.{Finds, judged-wrong, entered-err, entered-ok, found-initial, kept-initial}
use Rattle.line.proofs.Known.initial_line.Goals as goal

pub returns-in_err-x : goal.returns-in_err-x
unfolding initial_line
returns-in_err-x c =
    let n : c.list_at.result ≡ None = grind arith in
    let e : c.in_err-x.field-0.0 ≡ Shape = grind arith in
    let p = err_from_is_err_and c.from_residual.result c.from_residual.ensures.1 in
    rw (p.1, p.2, e, told_bad _ _ (sym n ∙ c.list_at.ensures)) (judged-wrong c.args.self.now)

pub returns-then-e-w : goal.returns-then-e-w
unfolding initial_line only_line
returns-then-e-w c =
    let s : c.list_at.result ≡ Some (c.in_ok-x.x, c.in_ok-x.e) = grind arith in
    let o = told _ _ _ _ (sym s ∙ c.list_at.ensures) in
    rw (o.is, ne_eqb _ _ c.if-e-w.true) (judged-wrong c.args.self.now)

pub returns-in_err-enter : goal.returns-in_err-enter
unfolding initial_line only_line
returns-in_err-enter c =
    let b = c.args.self.now in
    let x = c.in_ok-x.x in
    let s : c.list_at.result ≡ Some (x, c.in_ok-x.e) = grind arith in
    let o = told _ _ _ _ (sym s ∙ c.list_at.ensures) in
    let l = o.list in
    let f : Finds (initial' l) b (answer c.lower-found.result) = rw (c.lower-found.ensures, c.given-list.ensures, c.given.ensures) (found-initial b x l o.tallied) in
    let p = err_from_is_err_and c.from_residual-in_err-enter.result c.from_residual-in_err-enter.ensures.1 in
    rw (p.1, p.2, o.is, eq-eqb _ _ c.if-e-w.false) (entered-err (initial' l) _ b _ refl f _ _ c.in_err-enter.ensures)

pub returns : goal.returns
unfolding initial_line only_line
returns c =
    let b = c.args.self.now in
    let x = c.in_ok-x.x in
    let s : c.list_at.result ≡ Some (x, c.in_ok-x.e) = grind arith in
    let o = told _ _ _ _ (sym s ∙ c.list_at.ensures) in
    let l = o.list in
    let f : Finds (initial' l) b (answer c.lower-found.result) = rw (c.lower-found.ensures, c.given-list.ensures, c.given.ensures) (found-initial b x l o.tallied) in
    let r = c.in_ok-enter.ensures in
    rw (o.is, eq-eqb _ _ c.if-e-w.false)
    (λ at n. entered-ok (initial' l) _ b _ refl f _ _ _ r (rw r.2 (kept-initial b l _ (told_word _ x l o.tallied))) at n _ refl)
