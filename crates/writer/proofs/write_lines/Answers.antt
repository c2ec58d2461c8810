use Rattle.writer.proofs.Lines.{writing_start, writing_end, writing_on}
use Rattle.tokens.proofs.Scans.{scan_falls}
use native.Mathlib.Omega.{arith}
use mathlib.Core.Path.{sym, ◌∙◌}
use Rattle.tokens.proofs.Alike.{kind_true, kind_false}
use Rattle.writer.proofs.write_lines.Goals as goal

pub loop-kind-init : goal.loop-kind-init
loop-kind-init c = writing_start _ _ _ _ _ _ c.settled-reading.ensures c.token_at-t.ensures.value c.token_at-t.ensures.lies

pub returns-then-eq : goal.returns-then-eq
returns-then-eq c =
    let a = c.requires.0 in
    let n = c.loop-kind.invariant.near in
    let f = c.loop-kind.invariant.few in
    let i = c.loop-kind.invariant.inside in
    let x = c.write_made-w.ensures.at_bound.0 in
    let y = c.write_made-w.ensures.at_bound.1 in
    record { lines_put = writing_end _ _ _ _ _ _ _ _ _ _ _ c.loop-kind.invariant c.take.ensures c.write_made-w.ensures.lines_put (kind_true _ _ (sym c.eq.ensures ∙ c.if-eq.true)); at_bound = (omega arith, omega arith) }

pub next-t-requires : goal.next-t-requires
next-t-requires c = c.loop-kind.invariant.scan.lies.within (kind_false _ _ (sym c.eq.ensures ∙ c.if-eq.false))

pub loop-kind-smaller : goal.loop-kind-smaller
loop-kind-smaller c = scan_falls _ _ _ _ c.loop-kind.invariant.scan (kind_false _ _ (sym c.eq.ensures ∙ c.if-eq.false)) _ c.next-t.ensures.lies

pub loop-kind-preserved : goal.loop-kind-preserved
loop-kind-preserved c = writing_on _ _ _ _ _ _ _ _ _ _ _ c.loop-kind.invariant c.take.ensures c.write_made-w.ensures.lines_put (kind_false _ _ (sym c.eq.ensures ∙ c.if-eq.false)) _ c.next-t.ensures.value c.next-t.ensures.lies c.write_made-w.ensures.at_bound.0 c.write_made-w.ensures.at_bound.1
