use Rattle.std.proofs.Common.{◌≡◌, true, false, arith, sym, ◌∙◌}
use Rattle.text.specs.Bytes.{byte_at, is_digit}
use Rattle.text.proofs.Bytes.{digit-is}
use Rattle.text.proofs.Numbers.Ended.{under_way_first, number-none, number-ends, number-long, number-on, number-below}
use Rattle.text.proofs.reading.numeral_at.Goals as goal

pub returns-then-not-is_digit : goal.returns-then-not-is_digit
returns-then-not-is_digit c =
    let d : is_digit (byte_at c.args.s.now c.args.at) ≡ false = rw (← c.byte_at-first.ensures) (sym c.is_digit.ensures ∙ c.if-not-is_digit.true) in
    sym (number-none _ _ _ d)

pub loop-at-init : goal.loop-at-init
loop-at-init c =
    let d : is_digit (byte_at c.args.s.now c.args.at) ≡ true = rw (← c.byte_at-first.ensures) (sym c.is_digit.ensures ∙ c.if-not-is_digit.false) in
    let w = under_way_first c.args.most (byte_at c.args.s.now) c.args.at (omega arith) (omega arith) d in
    rw (c.most_after-left.ensures, c.from-value.ensures, c.byte_at-first.ensures) w

pub returns-then-not-is_digit-2 : goal.returns-then-not-is_digit-2
returns-then-not-is_digit-2 c =
    let d : is_digit (byte_at c.args.s.now c.loop-at.end) ≡ false = rw (← c.byte_at-b.ensures) (sym c.is_digit-in-loop-at.ensures ∙ c.if-not-is_digit-2.true) in
    sym (number-ends _ _ _ _ _ _ c.loop-at.invariant d)

pub returns-then-left-eq0 : goal.returns-then-left-eq0
returns-then-left-eq0 c =
    let d : is_digit (byte_at c.args.s.now c.loop-at.end) ≡ true = rw (← c.byte_at-b.ensures) (sym c.is_digit-in-loop-at.ensures ∙ c.if-not-is_digit-2.false) in
    sym (number-long _ _ _ _ _ _ c.loop-at.invariant c.if-left-eq0.true d)

pub overflow_mul-value : goal.overflow_mul-value
overflow_mul-value c = let b = number-below _ _ _ _ _ _ c.loop-at.invariant in omega arith

pub overflow_add-value : goal.overflow_add-value
overflow_add-value c =
    let d : is_digit (byte_at c.args.s.now c.loop-at.end) ≡ true = rw (← c.byte_at-b.ensures) (sym c.is_digit-in-loop-at.ensures ∙ c.if-not-is_digit-2.false) in
    let i = digit-is (byte_at c.args.s.now c.loop-at.end) d in
    let b = number-below _ _ _ _ _ _ c.loop-at.invariant in
    let e = c.byte_at-b.ensures in
    let w = c.from.ensures in
    omega arith

pub loop-at-preserved : goal.loop-at-preserved
loop-at-preserved c =
    let d : is_digit (byte_at c.args.s.now c.loop-at.end) ≡ true = rw (← c.byte_at-b.ensures) (sym c.is_digit-in-loop-at.ensures ∙ c.if-not-is_digit-2.false) in
    let n = number-on _ _ _ _ _ _ c.loop-at.invariant (omega arith) d in
    rw (c.from.ensures, c.byte_at-b.ensures) n
