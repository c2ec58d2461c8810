use Rattle.cond.proofs.Words.Items.{delay-short, delay-long, delay-none, delay-step, delay-unread}
use Rattle.cond.specs.Packed.{pack}
use Rattle.text.specs.Bytes.{byte_at}
use mathlib.Core.Path.{sym, ap, ◌∙◌}
use Rattle.cond.proofs.sight.Sight.delay_at.Goals as goal

pub returns-then-t-lt-SHORTEST_DELAY : goal.returns-then-t-lt-SHORTEST_DELAY
returns-then-t-lt-SHORTEST_DELAY c = ap pack (delay-short _ _ (byte_at c.args.self.now.bytes) _ _ c.if-t-lt-SHORTEST_DELAY.true)

pub returns-then-t-gt-DELAY : goal.returns-then-t-gt-DELAY
returns-then-t-gt-DELAY c = ap pack (delay-long _ _ (byte_at c.args.self.now.bytes) _ _ c.if-t-lt-SHORTEST_DELAY.false c.if-t-gt-DELAY.true)

pub returns-then-byte-ne120 : goal.returns-then-byte-ne120
returns-then-byte-ne120 c =
    ap pack (delay-none _ _ (byte_at c.args.self.now.bytes) _ _ c.if-t-lt-SHORTEST_DELAY.false c.if-t-gt-DELAY.false (λ h. c.if-byte-ne120.true (c.byte.ensures.0 ∙ h)))

pub returns-in-Some : goal.returns-in-Some
returns-in-Some c =
    let a = c.args in
    let x = sym c.byte.ensures.0 ∙ c.if-byte-ne120.false in
    c.new.ensures ∙ rw c.lasted.ensures
    (ap pack (delay-step a.self.now.view.now a.self.now.declared (byte_at a.self.now.bytes) a.at a.t c.if-t-lt-SHORTEST_DELAY.false c.if-t-gt-DELAY.false x _ _ (sym c.number_at.ensures.value ∙ c.in-Some.is)))

pub returns-in-None : goal.returns-in-None
returns-in-None c =
    let a = c.args in
    let x = sym c.byte.ensures.0 ∙ c.if-byte-ne120.false in
    ap pack (delay-unread a.self.now.view.now a.self.now.declared (byte_at a.self.now.bytes) a.at a.t c.if-t-lt-SHORTEST_DELAY.false c.if-t-gt-DELAY.false x (sym c.number_at.ensures.value ∙ c.in-None.is))
