use Rattle.tokens.specs.Tokens.{tokens}
use mathlib.Core.Path.{sym, ◌∙◌}
use Rattle.tokens.proofs.Alike.{kind_ne_true, kind_ne_false}
use Rattle.tokens.proofs.Scans.{scan_start, scan_hit, scan_end, scan_on, scan_falls}
use Rattle.naming.specs.Names.{is_driven}
use Rattle.naming.proofs.Laws.{driven_hit, driven_miss, driven_end}
use Rattle.naming.proofs.is_driven.Goals as goal

pub loop-t-init : goal.loop-t-init
unfolding is_driven tokens
loop-t-init c = scan_start _ _ _ _ _ c.token_at-u.ensures.lies (rw c.token_at-u.ensures.value)

pub drives-requires : goal.drives-requires
drives-requires c = c.loop-t.invariant.lies.within (kind_ne_true _ _ (sym c.ne.ensures ∙ c.loop-t-test.true))

pub returns-then-drives : goal.returns-then-drives
returns-then-drives c = sym (scan_hit _ _ _ _ c.loop-t.invariant _ (driven_hit _ _ _ (sym c.drives.ensures ∙ c.if-drives.true)))

pub next-u-requires : goal.next-u-requires
next-u-requires c = c.loop-t.invariant.lies.within (kind_ne_true _ _ (sym c.ne.ensures ∙ c.loop-t-test.true))

pub loop-t-smaller : goal.loop-t-smaller
loop-t-smaller c = scan_falls _ _ _ _ c.loop-t.invariant (kind_ne_true _ _ (sym c.ne.ensures ∙ c.loop-t-test.true)) _ c.next-u.ensures.lies

pub loop-t-preserved : goal.loop-t-preserved
loop-t-preserved c = scan_on _ _ _ _ c.loop-t.invariant (kind_ne_true _ _ (sym c.ne.ensures ∙ c.loop-t-test.true)) _ c.next-u.ensures.lies _ c.next-u.ensures.value (driven_miss _ _ _ (sym c.drives.ensures ∙ c.if-drives.false))

pub returns : goal.returns
returns c = sym (scan_end _ _ _ _ c.loop-t.invariant (kind_ne_false _ _ (sym c.ne.ensures ∙ c.loop-t-test.false)) ∙ driven_end _ _ _ (kind_ne_false _ _ (sym c.ne.ensures ∙ c.loop-t-test.false)))
