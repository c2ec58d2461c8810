use Rattle.std.proofs.Common.{◌+◌, ◌-◌, length, sym, ◌∙◌, arith}
use Rattle.tokens.proofs.Laws.{close_found, close_on, close_end}
use Rattle.tokens.proofs.gaps.close_at.Goals as goal

pub returns-then-pair_at-clause-value : goal.returns-then-pair_at-clause-value
returns-then-pair_at-clause-value c = sym (c.loop-at.invariant ∙ close_found _ _ _ _ (omega arith) (sym c.pair_at.ensures ∙ c.if-pair_at.true))

pub loop-at-preserved : goal.loop-at-preserved
loop-at-preserved c = rw c.line_after-l.ensures (c.loop-at.invariant ∙ close_on _ (length c.args.text.now - (c.loop-at.at + 1)) _ _ _ (omega arith) (sym c.pair_at.ensures ∙ c.if-pair_at.false))

pub returns-clause-value : goal.returns-clause-value
returns-clause-value c = sym (c.loop-at.invariant ∙ close_end _ _ _ _ (omega arith))
