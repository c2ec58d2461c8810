use mathlib.Core.Path.{sym, ◌∙◌}
use Rattle.tokens.proofs.Alike.{kind_true, kind_false}
use Rattle.tokens.proofs.Scans.{scan_start, scan_hit, scan_end, scan_on, scan_falls}
use Rattle.naming.specs.Names.{is_listed}
use Rattle.naming.proofs.Laws.{listed_past, listed_hit, listed_miss, listed_end}
use Rattle.naming.proofs.is_listed.Goals as goal

pub loop-u-init : goal.loop-u-init
unfolding is_listed
loop-u-init c = scan_start _ _ _ _ _ c.token_at-u.ensures.lies (rw c.token_at-u.ensures.value)

pub returns-then-eq : goal.returns-then-eq
returns-then-eq c = sym (scan_end _ _ _ _ c.loop-u.invariant (kind_true _ _ (sym c.eq.ensures ∙ c.if-eq.true)) ∙ listed_end _ _ _ c.loop-u-test.true (kind_true _ _ (sym c.eq.ensures ∙ c.if-eq.true)))

pub returns-then-named : goal.returns-then-named
returns-then-named c = sym (scan_hit _ _ _ _ c.loop-u.invariant _ (listed_hit _ _ _ c.loop-u-test.true (sym c.named.ensures ∙ c.if-named.true)))

pub next-u-requires : goal.next-u-requires
next-u-requires c = c.loop-u.invariant.lies.within (kind_false _ _ (sym c.eq.ensures ∙ c.if-eq.false))

pub loop-u-smaller : goal.loop-u-smaller
loop-u-smaller c = scan_falls _ _ _ _ c.loop-u.invariant (kind_false _ _ (sym c.eq.ensures ∙ c.if-eq.false)) _ c.next-u.ensures.lies

pub loop-u-preserved : goal.loop-u-preserved
loop-u-preserved c = scan_on _ _ _ _ c.loop-u.invariant (kind_false _ _ (sym c.eq.ensures ∙ c.if-eq.false)) _ c.next-u.ensures.lies _ c.next-u.ensures.value (listed_miss _ _ _ c.loop-u-test.true (sym c.named.ensures ∙ c.if-named.false))

pub returns : goal.returns
returns c = sym (scan_hit _ _ _ _ c.loop-u.invariant _ (listed_past _ _ _ c.loop-u-test.false))
