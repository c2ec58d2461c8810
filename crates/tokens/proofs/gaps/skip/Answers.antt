use Rattle.std.proofs.Common.{sym, ◌∙◌}
use Rattle.tokens.proofs.Laws.{skipping_start, skipping_stop, skipping_on}
use Rattle.tokens.proofs.gaps.skip.Goals as goal

pub loop-e-init : goal.loop-e-init
loop-e-init c = skipping_start _ _ _

pub loop-e-preserved : goal.loop-e-preserved
loop-e-preserved c = skipping_on _ _ _ _ c.loop-e.invariant c.in-Some.e (sym c.gap_at.ensures.value ∙ c.in-Some.is) c.in-Some.ensures.leaves

pub returns-clause-value : goal.returns-clause-value
returns-clause-value c = skipping_stop _ _ _ _ c.loop-e.invariant (sym c.gap_at.ensures.value ∙ c.in_default.is)
