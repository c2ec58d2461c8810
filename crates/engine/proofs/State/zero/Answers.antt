use Rattle.engine.specs.State.{zero_state}
use mathlib.Core.Path.{refl}
use Rattle.engine.proofs.State.zero.Goals as goal

pub returns : goal.returns
unfolding zero_state
returns c = refl
