use mathlib.Core.Path.{sym, ◌∙◌}
use native.Mathlib.Omega.{arith}
use Rattle.text.specs.Bytes.{byte_at}
use Rattle.cond.proofs.Words.Marks.{none_yes, none_no}
use Rattle.cond.proofs.Words.Readers.{factors_low, terms_low, after-factor, after-term, after_last, factor_open, factor-atom, went_factor, cond_bang, cond_bad, cond_on}
use Rattle.cond.proofs.sight.Sight.+after_at_cond_at.Goals as goal

pub after_at-overflow_add-e : goal.after_at-overflow_add-e
after_at-overflow_add-e t c = let i = c.byte-b.ensures.1 (omega arith) in omega arith

pub after_at-overflow_mul-factors : goal.after_at-overflow_mul-factors
after_at-overflow_mul-factors t c = let a = c.args in let p = c.requires in let l = rw (← c.marks.ensures) at (factors_low a.acc a.q.0 a.taken p.low p.one) in omega arith

pub after_at-overflow_add-acc : goal.after_at-overflow_add-acc
after_at-overflow_add-acc t c = let a = c.args in let p = c.requires in let l = rw (← c.marks.ensures) at (factors_low a.acc a.q.0 a.taken p.low p.one) in omega arith

pub after_at-cond_at-requires : goal.after_at-cond_at-requires
after_at-cond_at-requires t c =
    let i = c.byte-b.ensures.1 (omega arith) in
    let e = c.end-e.ensures in
    let m = c.decreases in
    let a = c.args in let p = c.requires in let l = rw (← c.marks.ensures) at (factors_low a.acc a.q.0 a.taken p.low p.one) in
    (omega arith, record { low = omega arith; one = omega arith })

pub after_at-returns-then-b-eq46 : goal.after_at-returns-then-b-eq46
after_at-returns-then-b-eq46 t c =
    let a = c.args in
    after-factor a.self.now.view.now a.self.now.declared (byte_at a.self.now.bytes) a.q.0 a.acc a.taken _ _ c.end-e.ensures
    (sym c.byte-b.ensures.0 ∙ c.if-b-eq46.true) (c.byte-b.ensures.1 (omega arith)) (rw c.marks.ensures at c.cond_at.ensures)

pub after_at-overflow_add-e-then-b-eq43 : goal.after_at-overflow_add-e-then-b-eq43
after_at-overflow_add-e-then-b-eq43 t c = let i = c.byte-b.ensures.1 (omega arith) in omega arith

pub after_at-cond_at-requires-then-b-eq43 : goal.after_at-cond_at-requires-then-b-eq43
after_at-cond_at-requires-then-b-eq43 t c =
    let i = c.byte-b.ensures.1 (omega arith) in
    let e = c.end-e.ensures in
    let m = c.decreases in
    let a = c.args in let p = c.requires in let l = rw (← c.marks.ensures) at (terms_low a.acc a.q.0 a.taken p.low p.one) in
    (omega arith, record { low = omega arith; one = omega arith })

pub after_at-returns-then-b-eq43 : goal.after_at-returns-then-b-eq43
after_at-returns-then-b-eq43 t c =
    let a = c.args in
    after-term a.self.now.view.now a.self.now.declared (byte_at a.self.now.bytes) a.q.0 a.acc a.taken _ _ c.end-e.ensures
    (sym c.byte-b.ensures.0 ∙ c.if-b-eq43.true) (c.byte-b.ensures.1 (omega arith)) (rw c.marks.ensures at c.cond_at-then-b-eq43.ensures)

pub after_at-overflow_add-result : goal.after_at-overflow_add-result
after_at-overflow_add-result t c = let a = c.args in let p = c.requires in let l = rw (← c.marks.ensures) at (terms_low a.acc a.q.0 a.taken p.low p.one) in omega arith

pub after_at-returns : goal.after_at-returns
after_at-returns t c =
    let a = c.args in
    rw (c.marks-2.ensures, c.marks.ensures) (after_last a.self.now.view.now a.self.now.declared (byte_at a.self.now.bytes) a.q.0 a.acc a.taken 0 _ c.end-e.ensures
    (λ h. c.if-b-eq46.false (c.byte-b.ensures.0 ∙ h)) (λ h. c.if-b-eq43.false (c.byte-b.ensures.0 ∙ h)))

pub cond_at-overflow_add-at : goal.cond_at-overflow_add-at
cond_at-overflow_add-at t c = let i = c.byte-b.ensures.1 (omega arith) in omega arith

pub cond_at-cond_at-requires : goal.cond_at-cond_at-requires
cond_at-cond_at-requires t c =
    let i = c.byte-b.ensures.1 (omega arith) in
    let m = c.decreases in
    (omega arith, record { low = c.requires.low; one = omega arith })

pub cond_at-returns-then-b-eq33 : goal.cond_at-returns-then-b-eq33
cond_at-returns-then-b-eq33 t c =
    let a = c.args in
    cond_bang a.self.now.view.now a.self.now.declared (byte_at a.self.now.bytes) a.at a.acc a.taken 0 _ (sym c.byte-b.ensures.0 ∙ c.if-b-eq33.true)
    (c.byte-b.ensures.1 (omega arith)) c.requires.one c.cond_at.ensures

pub cond_at-overflow_add-at-then-b-eq40 : goal.cond_at-overflow_add-at-then-b-eq40
cond_at-overflow_add-at-then-b-eq40 t c = let i = c.byte-b.ensures.1 (omega arith) in omega arith

pub cond_at-cond_at-requires-then-b-eq40 : goal.cond_at-cond_at-requires-then-b-eq40
cond_at-cond_at-requires-then-b-eq40 t c =
    let i = c.byte-b.ensures.1 (omega arith) in
    let m = c.decreases in
    (omega arith, record { low = omega arith; one = omega arith })

pub cond_at-returns-then-is_none : goal.cond_at-returns-then-is_none
cond_at-returns-then-is_none t c =
    let a = c.args in
    let y = sym c.byte-b.ensures.0 ∙ c.if-b-eq40.true in
    let i = c.byte-b.ensures.1 (omega arith) in
    let f = factor_open a.self.now.view.now a.self.now.declared (byte_at a.self.now.bytes) a.at _ _ y i c.cond_at-then-b-eq40.ensures c.closed_of-q.ensures in
    cond_bad a.self.now.view.now a.self.now.declared (byte_at a.self.now.bytes) a.at a.acc a.taken _ 0 f (none_yes _ _ c.is_none.ensures c.if-is_none.true)

pub cond_at-after_at-requires : goal.cond_at-after_at-requires
cond_at-after_at-requires t c =
    let a = c.args in
    let y = sym c.byte-b.ensures.0 ∙ c.if-b-eq40.true in
    let i = c.byte-b.ensures.1 (omega arith) in
    let f = factor_open a.self.now.view.now a.self.now.declared (byte_at a.self.now.bytes) a.at _ _ y i c.cond_at-then-b-eq40.ensures c.closed_of-q.ensures in
    let w = went_factor a.self.now.view.now a.self.now.declared a.self.now.bytes a.at _ f (none_no _ _ c.is_none.ensures c.if-is_none.false) in
    let m = c.decreases in
    (omega arith, c.requires)

pub cond_at-returns-then-b-eq40 : goal.cond_at-returns-then-b-eq40
cond_at-returns-then-b-eq40 t c =
    let a = c.args in
    let y = sym c.byte-b.ensures.0 ∙ c.if-b-eq40.true in
    let i = c.byte-b.ensures.1 (omega arith) in
    let f = factor_open a.self.now.view.now a.self.now.declared (byte_at a.self.now.bytes) a.at _ _ y i c.cond_at-then-b-eq40.ensures c.closed_of-q.ensures in
    let w = went_factor a.self.now.view.now a.self.now.declared a.self.now.bytes a.at _ f (none_no _ _ c.is_none.ensures c.if-is_none.false) in
    cond_on a.self.now.view.now a.self.now.declared (byte_at a.self.now.bytes) a.at a.acc a.taken _ _ f (none_no _ _ c.is_none.ensures c.if-is_none.false) w.0 c.after_at.ensures

pub cond_at-returns-then-is_none-2 : goal.cond_at-returns-then-is_none-2
cond_at-returns-then-is_none-2 t c =
    let a = c.args in
    let e = c.byte-b.ensures.0 in
    let f = factor-atom a.self.now.view.now a.self.now.declared (byte_at a.self.now.bytes) a.at _ (λ h. c.if-b-eq33.false (e ∙ h)) (λ h. c.if-b-eq40.false (e ∙ h)) c.atom_at-q.ensures in
    cond_bad a.self.now.view.now a.self.now.declared (byte_at a.self.now.bytes) a.at a.acc a.taken _ 0 f (none_yes _ _ c.is_none-2.ensures c.if-is_none-2.true)

pub cond_at-after_at-requires-2 : goal.cond_at-after_at-requires-2
cond_at-after_at-requires-2 t c =
    let a = c.args in
    let e = c.byte-b.ensures.0 in
    let f = factor-atom a.self.now.view.now a.self.now.declared (byte_at a.self.now.bytes) a.at _ (λ h. c.if-b-eq33.false (e ∙ h)) (λ h. c.if-b-eq40.false (e ∙ h)) c.atom_at-q.ensures in
    let w = went_factor a.self.now.view.now a.self.now.declared a.self.now.bytes a.at _ f (none_no _ _ c.is_none-2.ensures c.if-is_none-2.false) in
    let m = c.decreases in
    (omega arith, c.requires)

pub cond_at-returns : goal.cond_at-returns
cond_at-returns t c =
    let a = c.args in
    let e = c.byte-b.ensures.0 in
    let f = factor-atom a.self.now.view.now a.self.now.declared (byte_at a.self.now.bytes) a.at _ (λ h. c.if-b-eq33.false (e ∙ h)) (λ h. c.if-b-eq40.false (e ∙ h)) c.atom_at-q.ensures in
    let w = went_factor a.self.now.view.now a.self.now.declared a.self.now.bytes a.at _ f (none_no _ _ c.is_none-2.ensures c.if-is_none-2.false) in
    cond_on a.self.now.view.now a.self.now.declared (byte_at a.self.now.bytes) a.at a.acc a.taken _ _ f (none_no _ _ c.is_none-2.ensures c.if-is_none-2.false) w.0 c.after_at-2.ensures
