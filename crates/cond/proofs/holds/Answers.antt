use mathlib.Core.Path.{◌∙◌}
use Rattle.cond.proofs.Words.Answers.{value-bit}
use Rattle.cond.specs.Judging.{meaning}
use Rattle.cond.proofs.holds.Goals as goal

pub returns : goal.returns
unfolding meaning
returns c = c.value.ensures ∙ value-bit c.args.view.now _ _ _ c.whole.ensures
