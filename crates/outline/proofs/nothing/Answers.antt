use Rattle.outline.specs.Reading.{copies}
use mathlib.Core.Path.{refl}
use Rattle.outline.proofs.nothing.Goals as goal

pub returns : goal.returns
unfolding copies
returns c = refl
