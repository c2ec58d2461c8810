use Rattle.engine.specs.State.{start_view}
use Rattle.engine.specs.Parts.{plan_in}
use mathlib.Core.Path.{refl}
use Rattle.engine.proofs.ages.start_view.Goals as goal

pub returns : goal.returns
unfolding start_view plan_in
returns c = refl
