use Rattle.rig_log.specs.Entries.{last}
use borrow.Author.Tests.{eq-eqb, ne_eqb}
use mathlib.Core.Path.{sym, ◌∙◌}
use Rattle.rig_log.proofs.reading.last_word.Goals as goal

pub returns-in_err-value : goal.returns-in_err-value
unfolding last
returns-in_err-value c = rw (c.from_residual.ensures, sym c.word_at.ensures ∙ c.in_err-value.was)

pub returns-then-end-line : goal.returns-then-end-line
unfolding last
returns-then-end-line c = rw (sym c.word_at.ensures ∙ c.in_ok-value.was, eq-eqb _ _ c.if-end-line.true)

pub returns-else-end-line : goal.returns-else-end-line
unfolding last
returns-else-end-line c = rw (sym c.word_at.ensures ∙ c.in_ok-value.was, ne_eqb _ _ c.if-end-line.false)
