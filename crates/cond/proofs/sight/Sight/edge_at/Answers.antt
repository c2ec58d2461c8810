use Rattle.cond.proofs.Words.Items.{edge-step, edge-input, edge_none}
use Rattle.cond.specs.Packed.{pack}
use Rattle.text.specs.Bytes.{byte_at}
use mathlib.Core.Path.{sym, ap, ◌∙◌}
use native.Mathlib.Omega.{arith}
use Rattle.cond.proofs.sight.Sight.edge_at.Goals as goal

pub returns-in-120 : goal.returns-in-120
returns-in-120 c =
    let a = c.args in
    c.item.ensures
    ∙ rw c.changed-steps.ensures (ap pack (edge-step a.self.now.view.now a.self.now.declared (byte_at a.self.now.bytes) a.at a.rising (sym c.byte.ensures.0 ∙ c.in-120.is)))

pub returns-in-105 : goal.returns-in-105
returns-in-105 c =
    let a = c.args in
    c.item-in-105.ensures
    ∙ rw c.changed-inputs.ensures (ap pack (edge-input a.self.now.view.now a.self.now.declared (byte_at a.self.now.bytes) a.at a.rising (sym c.byte.ensures.0 ∙ c.in-105.is)))

pub returns-in_default : goal.returns-in_default
returns-in_default c =
    let a = c.args in
    ap pack (edge_none a.self.now.view.now a.self.now.declared (byte_at a.self.now.bytes) a.at a.rising (λ h. omega arith) (λ h. omega arith))
