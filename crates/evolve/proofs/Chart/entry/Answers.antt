use Rattle.evolve.proofs.Stages.Entering.{enter_start, enter_turn, enter_asks, enter_found, enter_end, enter_of}
use Rattle.evolve.specs.Table.{net_in}
use Rattle.evolve.specs.Parts.{Entered}
use native.Mathlib.Omega.{arith}
use mathlib.Core.Path.{◌≡◌, subst}
use Prim.Native.Nat.{◌-◌}
use Rattle.evolve.proofs.Chart.entry.Goals as goal

pub loop-u-init : goal.loop-u-init
loop-u-init c =
    let s = c.fire.ensures in
    enter_start _ _ _ c.requires s c.fire-2.ensures

pub overflow_sub-most : goal.overflow_sub-most
unfolding net_in
overflow_sub-most c =
    let h = c.requires.0 in
    let l = c.limit.ensures in
    omega arith

pub returns-then-same : goal.returns-then-same
returns-then-same c =
    let asks = c.requires in
    let s = c.fire.ensures in
    let t = c.fire-2.ensures in
    let g = c.loop-u.invariant in
    let found = enter_of _ _ _ asks s t g (enter_found _ _ _ g c.same.ensures c.if-same.true) in
    record { entered = found.0; kin = found.1 }

pub fire_from-behind-requires : goal.fire_from-behind-requires
unfolding net_in
fire_from-behind-requires c =
    let l = c.limit.ensures in
    enter_asks _ _ _ c.loop-u.invariant (omega arith) c.fire-in-loop-u.ensures

pub loop-u-preserved : goal.loop-u-preserved
unfolding net_in
loop-u-preserved c =
    let l = c.limit.ensures in
    let g = c.loop-u.invariant in
    let s = c.fire-in-loop-u.ensures in
    let behind = c.fire_from-behind.ensures in
    let apart = c.if-same.false in
    enter_turn _ _ _ g (omega arith) s c.same.ensures apart behind.value behind.view_unchanged

pub returns : goal.returns
unfolding net_in
returns c =
    let l = c.limit.ensures in
    let asks = c.requires in
    let s = c.fire.ensures in
    let t = c.fire-2.ensures in
    let g = c.loop-u.invariant in
    let e : c.loop-u.u ≡ c.limit.result - c.args.d = omega arith in
    let found = enter_of _ _ _ asks s t g (enter_end _ _ _ g (omega arith)) in
    record { entered = subst (Entered _ _ c.args.d) e found.0; kin = found.1 }
