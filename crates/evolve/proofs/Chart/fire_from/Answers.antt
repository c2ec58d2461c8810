use Rattle.evolve.proofs.Stages.Firing.{fires_once, fires_kin}
use Rattle.evolve.proofs.Stages.Kin.{kin_trans, kin_of, kin_put, put_back}
use Rattle.evolve.specs.Evolution.{stable, next_view}
use Rattle.evolve.specs.Table.{net_in}
use Rattle.cond.specs.declared.View.{View}
use mathlib.Core.Path.{ap, refl, ◌∙◌}
use Rattle.evolve.proofs.Chart.fire_from.Goals as goal

pub returns : goal.returns
unfolding next_view
returns c =
    let z = c.args in
    let n = net_in z.self.now.text.now z.self.now.table.now in
    let there = c.put.ensures in
    let s = c.fire.ensures in
    let busy = c.requires in
    let fired = fires_once s (ap (stable n) there ∙ busy) in
    let kin = kin_trans (fires_kin s) (kin_trans (kin_of there) (kin_put _ _ _)) in
    record { value = ap (λ (y : View). y.moment) (fired ∙ ap (next_view n) there); view_unchanged = put_back kin c.put-2.ensures refl refl }
