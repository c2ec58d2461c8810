use Rattle.evolve.proofs.Ending.Together.{rest-is, cut_is, entry_asks, loop_is, late_is}
use Rattle.evolve.proofs.Stages.Firing.{fires_kin, fires_past}
use Rattle.evolve.proofs.Stages.Kin.{kin_trans, kin_of, put_back}
use Rattle.evolve.specs.Evolution.{next_view}
use Rattle.evolve.specs.Search.{left_off}
use Rattle.evolve.specs.Table.{net_in}
use Rattle.evolve.specs.Parts.{Busy, Period, Entered}
use Rattle.evolve.specs.declared.End.TheVariants.{Cut}
use Rattle.cond.specs.declared.View.{View}
use native.Mathlib.Omega.{arith}
use mathlib.Core.Path.{refl, sym, ap, subst, ◌∙◌}
use Prim.Native.Nat.{suc, ◌≤◌}
use borrow.Author.Rules.{rules}
use Rattle.evolve.proofs.Chart.ends.Goals as goal

pub returns-then-k-most : goal.returns-then-k-most
unfolding net_in left_off
returns-then-k-most c =
    let l = c.limit-most.ensures in
    let s = fires_past c.fire-k.ensures l in
    record { value = rest-is _ _ s (omega arith); view_after = s.view }

pub returns-in_default : goal.returns-in_default
unfolding net_in left_off
returns-in_default c =
    let n = net_in c.args.self.now.text.now c.args.self.now.table.now in
    let l = c.limit-most.ensures in
    let s = fires_past c.fire-k.ensures l in
    let p = c.period-found.ensures in
    let back = put_back (kin_trans p.kin (fires_kin s)) c.put.ensures refl refl in
    let none = subst (Period n _) c.in_default.is p.period in
    record { value = ap Cut l ∙ cut_is _ _ s (omega arith) none; view_after = back }

pub entry-u-requires : goal.entry-u-requires
unfolding net_in
entry-u-requires c =
    let z = c.args in
    let n = net_in z.self.now.text.now z.self.now.table.now in
    let l = c.limit-most.ensures in
    let s = fires_past c.fire-k.ensures l in
    let d = c.in-Some.d in
    let p = c.period-found.ensures in
    let some = subst (Period n _) c.in-Some.is p.period in
    let back = put_back (kin_trans p.kin (fires_kin s)) c.put.ensures refl refl in
    let asks = entry_asks _ _ s (omega arith) some in
    subst (λ (y : View). (d ≤ n.limit) × Busy n y (suc n.limit)) (sym back) asks

pub overflow_add-j : goal.overflow_add-j
unfolding net_in
overflow_add-j c =
    let n = net_in c.args.self.now.text.now c.args.self.now.table.now in
    let l = c.limit-most.ensures in
    let p = subst (Period n _) c.in-Some.is c.period-found.ensures.period in
    let b = p.within in
    let w = c.entry-u.ensures.entered.within in
    search rules

pub returns-then-j-most : goal.returns-then-j-most
unfolding net_in left_off
returns-then-j-most c =
    let z = c.args in
    let n = net_in z.self.now.text.now z.self.now.table.now in
    let l = c.limit-most.ensures in
    let s = fires_past c.fire-k.ensures l in
    let d = c.in-Some.d in
    let p = c.period-found.ensures in
    let some = subst (Period n _) c.in-Some.is p.period in
    let back = put_back (kin_trans p.kin (fires_kin s)) c.put.ensures refl refl in
    let e = c.entry-u.ensures in
    let u = c.entry-u.result in
    let y = subst (λ (x : View). Entered n (next_view n x) d u) back e.entered in
    let again = put_back (kin_trans e.kin (kin_of back)) c.put-2.ensures refl refl in
    record { value = loop_is _ _ s (omega arith) some y (omega arith); view_after = again }

pub returns-else-j-most : goal.returns-else-j-most
unfolding net_in left_off
returns-else-j-most c =
    let z = c.args in
    let n = net_in z.self.now.text.now z.self.now.table.now in
    let l = c.limit-most.ensures in
    let s = fires_past c.fire-k.ensures l in
    let d = c.in-Some.d in
    let p = c.period-found.ensures in
    let some = subst (Period n _) c.in-Some.is p.period in
    let back = put_back (kin_trans p.kin (fires_kin s)) c.put.ensures refl refl in
    let e = c.entry-u.ensures in
    let u = c.entry-u.result in
    let y = subst (λ (x : View). Entered n (next_view n x) d u) back e.entered in
    let again = put_back (kin_trans e.kin (kin_of back)) c.put-2.ensures refl refl in
    record { value = ap Cut l ∙ late_is _ _ s (omega arith) some y (omega arith); view_after = again }
