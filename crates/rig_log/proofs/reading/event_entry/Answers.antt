use Rattle.rig_log.specs.Entries.{event_entry}
use borrow.Author.Tests.{ne_eqb}
use mathlib.Core.Path.{sym, ◌∙◌}
use Rattle.rig_log.proofs.reading.event_entry.Goals as goal

pub returns-in_err-elapsed : goal.returns-in_err-elapsed
unfolding event_entry
returns-in_err-elapsed c = rw (c.from_residual.ensures, sym c.word_at.ensures ∙ c.in_err-elapsed.was)

pub returns-then-byte_at-ne-COLON : goal.returns-then-byte_at-ne-COLON
unfolding event_entry
returns-then-byte_at-ne-COLON c = rw (sym c.word_at.ensures ∙ c.in_ok-elapsed.was, ← c.byte_at.ensures, ne_eqb _ _ c.if-byte_at-ne-COLON.true)

pub returns-in_err-inputs : goal.returns-in_err-inputs
unfolding event_entry
returns-in_err-inputs c =
    rw
    (c.from_residual-in_err-inputs.ensures, sym c.word_at.ensures ∙ c.in_ok-elapsed.was, ← c.byte_at.ensures, c.if-byte_at-ne-COLON.false, sym c.last_word.ensures ∙ c.in_err-inputs.was)

pub returns : goal.returns
unfolding event_entry
returns c = rw (sym c.word_at.ensures ∙ c.in_ok-elapsed.was, ← c.byte_at.ensures, c.if-byte_at-ne-COLON.false, sym c.last_word.ensures ∙ c.in_ok-inputs.was)
