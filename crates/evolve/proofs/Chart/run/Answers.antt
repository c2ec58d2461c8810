use Rattle.evolve.proofs.Ending.Together.{again_asks}
use Rattle.evolve.proofs.Sequence.Tracing.{traced_as}
use Rattle.evolve.proofs.Stages.Kin.{kin_trans, kin_sym, kin_of, put_back, settled_kin}
use Rattle.evolve.specs.Table.{net_in}
use mathlib.Core.Path.{refl, ◌∙◌}
use Rattle.evolve.proofs.Chart.run.Goals as goal

pub retrace-requires : goal.retrace-requires
retrace-requires c =
    let e = c.ends-end.ensures in
    let kin = kin_trans (kin_of e.view_after) (settled_kin _ _ _) in
    let back = put_back kin c.put.ensures refl refl in
    again_asks _ _ e.value c.count.ensures back

pub returns : goal.returns
returns c =
    let z = c.args in
    let n = net_in z.self.now.text.now z.self.now.table.now in
    let end = c.ends-end.result in
    let e = c.ends-end.ensures in
    let kin = kin_trans (kin_of e.view_after) (settled_kin n _ end) in
    let back = put_back kin c.put.ensures refl refl in
    let count = c.count.ensures in
    let again = c.retrace.ensures in
    let left = put_back (kin_trans again.kin (kin_trans (kin_of back) (kin_sym kin))) c.put-2.ensures refl refl in
    record { value = e.value; view_after = left ∙ e.view_after; trace_after = traced_as n z.place z.trace.now again.trace_after back count }
