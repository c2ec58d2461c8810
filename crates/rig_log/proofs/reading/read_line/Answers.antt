use Rattle.rig_log.specs.Entries.{entry_of}
use mathlib.Core.Path.{sym, ◌∙◌}
use Rattle.rig_log.proofs.reading.read_line.Goals as goal

pub returns-in_err-inputs : goal.returns-in_err-inputs
unfolding entry_of
returns-in_err-inputs c = rw (c.from_residual.ensures, sym c.begins.ensures ∙ c.if-begins.true, sym c.last_word.ensures ∙ c.in_err-inputs.was)

pub returns-then-begins : goal.returns-then-begins
unfolding entry_of
returns-then-begins c = rw (sym c.begins.ensures ∙ c.if-begins.true, sym c.last_word.ensures ∙ c.in_ok-inputs.was)

pub returns-then-begins-2 : goal.returns-then-begins-2
unfolding entry_of
returns-then-begins-2 c = rw (sym c.begins.ensures ∙ c.if-begins.false, sym c.begins-2.ensures ∙ c.if-begins-2.true) c.event_entry.ensures

pub returns : goal.returns
unfolding entry_of
returns c = rw (sym c.begins.ensures ∙ c.if-begins.false, sym c.begins-2.ensures ∙ c.if-begins-2.false)
