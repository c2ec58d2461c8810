use Rattle.naming.specs.Names.{declared_at}
use Rattle.tokens.specs.Tokens.{tokens}
use Rattle.naming.proofs.Laws.{declared_hit, declared_miss, declared_end}
use mathlib.Core.Path.{sym, ◌∙◌}
use Rattle.tokens.proofs.Alike.{kind_ne_true, kind_ne_false}
use Rattle.tokens.proofs.Scans.{scan_start, scan_hit, scan_end, scan_on, scan_falls}
use Rattle.naming.proofs.declared_at.Goals as goal

pub loop-t-init : goal.loop-t-init
unfolding declared_at tokens
loop-t-init c = scan_start _ _ _ _ _ c.token_at-u.ensures.lies (rw c.token_at-u.ensures.value)

pub next-v-requires : goal.next-v-requires
next-v-requires c = c.loop-t.invariant.lies.within (kind_ne_true _ _ (sym c.ne.ensures ∙ c.loop-t-test.true))

pub returns-then-declares : goal.returns-then-declares
returns-then-declares c = sym (scan_hit _ _ _ _ c.loop-t.invariant _ (declared_hit _ _ _ _ c.next-v.ensures.value (sym c.declares.ensures ∙ c.if-declares.true)))

pub loop-t-smaller : goal.loop-t-smaller
loop-t-smaller c = scan_falls _ _ _ _ c.loop-t.invariant (kind_ne_true _ _ (sym c.ne.ensures ∙ c.loop-t-test.true)) _ c.next-v.ensures.lies

pub loop-t-preserved : goal.loop-t-preserved
loop-t-preserved c = scan_on _ _ _ _ c.loop-t.invariant (kind_ne_true _ _ (sym c.ne.ensures ∙ c.loop-t-test.true)) _ c.next-v.ensures.lies _ c.next-v.ensures.value (declared_miss _ _ _ _ c.next-v.ensures.value (sym c.declares.ensures ∙ c.if-declares.false))

pub returns : goal.returns
returns c = sym (scan_end _ _ _ _ c.loop-t.invariant (kind_ne_false _ _ (sym c.ne.ensures ∙ c.loop-t-test.false)) ∙ declared_end _ _ _ (kind_ne_false _ _ (sym c.ne.ensures ∙ c.loop-t-test.false)))
