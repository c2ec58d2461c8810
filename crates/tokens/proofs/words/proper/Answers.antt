use Rattle.std.proofs.Common.{sym, ◌∙◌}
use Rattle.tokens.proofs.Laws.{proper-bad, proper-on, proper_end}
use Rattle.tokens.proofs.words.proper.Goals as goal

pub returns-then-last-b : goal.returns-then-last-b
returns-then-last-b c = sym (c.loop-b.invariant ∙ proper-bad _ _ _ c.loop-b-test.true c.if-last-b.true)

pub loop-b-preserved : goal.loop-b-preserved
loop-b-preserved c = c.loop-b.invariant ∙ proper-on _ _ _ c.loop-b-test.true c.if-last-b.false

pub returns : goal.returns
returns c = sym (c.loop-b.invariant ∙ proper_end _ _ _ c.loop-b-test.false)
