use Rattle.evolve.proofs.Sequence.Tracing.{trace-start, trace_turn, trace_end, trace_kin}
use Rattle.evolve.proofs.Stages.Firing.{fires_once}
use Rattle.evolve.specs.Evolution.{stable}
use Rattle.evolve.specs.Table.{net_in}
use native.Mathlib.Omega.{arith}
use mathlib.Core.Path.{refl, ap, ◌∙◌}
use Prim.Native.Nat.{◌<◌, min}
use Rattle.evolve.proofs.Chart.retrace.Goals as goal

pub loop-i-init : goal.loop-i-init
loop-i-init c = trace-start _ _ _ _ _

pub loop-i-preserved : goal.loop-i-preserved
loop-i-preserved c =
    let z = c.args in
    let n = net_in z.self.now.text.now z.self.now.table.now in
    let busy = c.requires in
    let l = c.min-n.ensures in
    let at = c.loop-i in
    let h : at.i < z.count = omega arith in
    let fired = fires_once c.fire.ensures (ap (stable n) at.invariant.view ∙ busy at.i h) in
    trace_turn _ _ _ _ _ at.invariant h fired refl

pub returns : goal.returns
returns c =
    let n = c.min-n.ensures ∙ ap (min c.args.count) c.saturating_sub.ensures in
    let g = c.loop-i.invariant in
    record { trace_after = trace_end _ _ _ _ _ g _ n c.loop-i-test.false; kin = trace_kin _ _ _ _ _ g }
