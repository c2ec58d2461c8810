use Rattle.cond.proofs.Words.Items.{timed-none, timed-delay, timed-plain, timed-other}
use Rattle.cond.specs.Packed.{pack}
use Rattle.text.specs.Bytes.{byte_at}
use mathlib.Core.Path.{sym, ap, ◌∙◌}
use Rattle.cond.proofs.sight.Sight.timed_at.Goals as goal

pub returns-then-byte-eq47 : goal.returns-then-byte-eq47
returns-then-byte-eq47 c =
    c.delay_at.ensures
    ∙ ap pack (timed-delay _ _ (byte_at c.args.self.now.bytes) _ _ _ (sym c.number_at.ensures.value ∙ c.in-Some.is) (sym c.byte.ensures.0 ∙ c.if-byte-eq47.true))

pub returns-then-t-lt2 : goal.returns-then-t-lt2
returns-then-t-lt2 c =
    c.new.ensures
    ∙ timed-plain _ _ (byte_at c.args.self.now.bytes) _ _ _ (sym c.number_at.ensures.value ∙ c.in-Some.is) (λ h. c.if-byte-eq47.false (c.byte.ensures.0 ∙ h)) c.if-t-lt2.true

pub returns-else-t-lt2 : goal.returns-else-t-lt2
returns-else-t-lt2 c =
    timed-other _ _ (byte_at c.args.self.now.bytes) _ _ _ (sym c.number_at.ensures.value ∙ c.in-Some.is) (λ h. c.if-byte-eq47.false (c.byte.ensures.0 ∙ h)) c.if-t-lt2.false

pub returns-in-None : goal.returns-in-None
returns-in-None c = timed-none _ _ (byte_at c.args.self.now.bytes) _ (sym c.number_at.ensures.value ∙ c.in-None.is)
