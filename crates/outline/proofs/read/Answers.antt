use Rattle.outline.specs.Reading.{reading_from, reading_of}
use Rattle.tokens.specs.Tokens.{tokens}
use mathlib.Core.Path.{sym, ◌∙◌}
use Rattle.tokens.proofs.Scans.{scan_start, scan_end, scan_on, scan_falls}
use Rattle.tokens.proofs.Alike.{kind_true, kind_false}
use Rattle.outline.proofs.read.Goals as goal

pub loop-t-init : goal.loop-t-init
unfolding reading_of tokens
loop-t-init c = rw c.nothing-reading.ensures (scan_start _ _ _ _ _ c.token_at-t.ensures.lies (rw c.token_at-t.ensures.value))

pub returns-then-eq : goal.returns-then-eq
unfolding reading_from
returns-then-eq c = sym (scan_end _ _ _ _ c.loop-t.invariant (kind_true _ _ (sym c.eq.ensures ∙ c.if-eq.true)) ∙ rw c.take.ensures)

pub next-t-requires : goal.next-t-requires
next-t-requires c = c.loop-t.invariant.lies.within (kind_false _ _ (sym c.eq.ensures ∙ c.if-eq.false))

pub loop-t-smaller : goal.loop-t-smaller
loop-t-smaller c = scan_falls _ _ _ _ c.loop-t.invariant (kind_false _ _ (sym c.eq.ensures ∙ c.if-eq.false)) _ c.next-t.ensures.lies

pub loop-t-preserved : goal.loop-t-preserved
unfolding reading_from
loop-t-preserved c = scan_on _ _ _ _ c.loop-t.invariant (kind_false _ _ (sym c.eq.ensures ∙ c.if-eq.false)) _ c.next-t.ensures.lies _ c.next-t.ensures.value (λ us. rw c.take.ensures)
