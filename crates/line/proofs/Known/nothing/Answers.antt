use mathlib.Core.Path.{refl}
use Rattle.text.specs.Words.{word_from}
use Rattle.line.specs.Steps.{held_from}
use Rattle.line.proofs.Known.nothing.Goals as goal

pub returns : goal.returns
unfolding held_from word_from
returns c = refl
