use mathlib.Core.Path.{ap, ◌∙◌}
use Rattle.cond.specs.declared.Moment.{Moment}
use Rattle.evolve.specs.Parts.{put}
use Rattle.evolve.proofs.Chart.step_on.Goals as goal

pub returns : goal.returns
returns c =
    let v = c.args.view.now in
    c.put.ensures ∙ ap (λ (m : Moment). put v m v.inputs) c.led.ensures
