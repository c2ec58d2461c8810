use Rattle.evolve.proofs.Stages.Seeking.{seek_start, seek_turn, seek_rests, seek_found, seek_end, seek_kin}
use Rattle.evolve.proofs.Stages.Firing.{fires_kin}
use Rattle.evolve.proofs.Stages.Kin.{kin_trans}
use Rattle.evolve.specs.Table.{net_in}
use native.Mathlib.Omega.{arith}
use Rattle.evolve.proofs.Chart.period.Goals as goal

pub loop-d-init : goal.loop-d-init
loop-d-init c = seek_start _ _

pub returns-then-fire-eq0 : goal.returns-then-fire-eq0
returns-then-fire-eq0 c =
    let g = c.loop-d.invariant in
    let s = c.fire.ensures in
    record { period = seek_rests _ _ g s c.if-fire-eq0.true; kin = kin_trans (fires_kin s) (seek_kin _ _ g) }

pub returns-then-same : goal.returns-then-same
unfolding net_in
returns-then-same c =
    let l = c.limit-d-end.ensures in
    let g = c.loop-d.invariant in
    let s = c.fire.ensures in
    let fired = c.if-fire-eq0.false in
    record { period = seek_found _ _ g s fired c.same.ensures (omega arith) c.if-same.true; kin = kin_trans (fires_kin s) (seek_kin _ _ g) }

pub loop-d-preserved : goal.loop-d-preserved
loop-d-preserved c =
    let g = c.loop-d.invariant in
    let s = c.fire.ensures in
    seek_turn _ _ g s c.if-fire-eq0.false c.same.ensures c.if-same.false

pub returns : goal.returns
unfolding net_in
returns c =
    let l = c.limit-d-end.ensures in
    let g = c.loop-d.invariant in
    record { period = seek_end _ _ g (omega arith); kin = seek_kin _ _ g }
