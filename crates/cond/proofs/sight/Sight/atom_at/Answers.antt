use Rattle.cond.proofs.Words.Items.{atom-step, atom-input, atom-up, atom_down, atom-other}
use Rattle.cond.specs.Packed.{pack, noted}
use Rattle.text.specs.Bytes.{byte_at}
use mathlib.Core.Path.{sym, ap, ◌∙◌}
use native.Mathlib.Omega.{arith}
use Rattle.cond.proofs.sight.Sight.atom_at.Goals as goal

pub returns-in-120 : goal.returns-in-120
returns-in-120 c =
    let s = c.args.self.now in
    c.item.ensures ∙ ap pack (atom-step s.view.now s.declared (byte_at s.bytes) c.args.at (sym c.byte.ensures.0 ∙ c.in-120.is))

pub returns-in-105 : goal.returns-in-105
returns-in-105 c =
    let s = c.args.self.now in
    c.item-in-105.ensures ∙ ap pack (atom-input s.view.now s.declared (byte_at s.bytes) c.args.at (sym c.byte.ensures.0 ∙ c.in-105.is))

pub returns-in-117 : goal.returns-in-117
returns-in-117 c =
    let s = c.args.self.now in
    c.edge_at.ensures ∙ ap (λ o. pack (noted s.view.now s.declared o)) (atom-up s.view.now s.declared (byte_at s.bytes) c.args.at (sym c.byte.ensures.0 ∙ c.in-117.is))

pub returns-in-100 : goal.returns-in-100
returns-in-100 c =
    let s = c.args.self.now in
    c.edge_at-in-100.ensures ∙ ap (λ o. pack (noted s.view.now s.declared o)) (atom_down s.view.now s.declared (byte_at s.bytes) c.args.at (sym c.byte.ensures.0 ∙ c.in-100.is))

pub returns-in_default : goal.returns-in_default
returns-in_default c =
    let s = c.args.self.now in
    c.timed_at.ensures ∙ ap (λ o. pack (noted s.view.now s.declared o)) (atom-other s.view.now s.declared (byte_at s.bytes) c.args.at (λ h. omega arith) (λ h. omega arith) (λ h. omega arith) (λ h. omega arith))
