use Rattle.cond.proofs.Words.Readers.{long-none, to_the_end, not_to_the_end}
use mathlib.Core.Path.{sym, ◌∙◌}
use Rattle.cond.proofs.reading.whole.Goals as goal

pub returns-then-text-gt-BYTES : goal.returns-then-text-gt-BYTES
returns-then-text-gt-BYTES c = let a = c.args in long-none a.view.now a.declared a.text.now c.if-text-gt-BYTES.true

pub returns-then-end-text : goal.returns-then-end-text
returns-then-end-text c =
    let a = c.args in
    let s = c.of-sight.ensures in
    let r = rw (s.view, s.declared) at c.cond_at-r.ensures in
    to_the_end a.view.now a.declared a.text.now _ _ c.if-text-gt-BYTES.false s.bytes r (sym c.end.ensures ∙ c.if-end-text.true)

pub returns-else-end-text : goal.returns-else-end-text
returns-else-end-text c =
    let a = c.args in
    let s = c.of-sight.ensures in
    let r = rw (s.view, s.declared) at c.cond_at-r.ensures in
    not_to_the_end a.view.now a.declared a.text.now _ _ c.if-text-gt-BYTES.false s.bytes r (λ h. c.if-end-text.false (c.end.ensures ∙ h))
