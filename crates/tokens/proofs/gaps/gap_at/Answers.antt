use Rattle.std.proofs.Common.{◌≡◌, true, false, sym, ◌∙◌}
use Rattle.text.specs.Bytes.{byte_at}
use Rattle.tokens.specs.Tokens.{is_blank, opens, gap_at}
use Rattle.tokens.proofs.gaps.gap_at.Goals as goal

pub returns-then-is_blank-clause-value : goal.returns-then-is_blank-clause-value
unfolding gap_at
returns-then-is_blank-clause-value c = rw (c.line_after.ensures, ← c.byte_at-b.ensures, ← c.is_blank.ensures, c.if-is_blank.true)

pub returns-then-opens-clause-value : goal.returns-then-opens-clause-value
unfolding gap_at
returns-then-opens-clause-value c =
    let d : is_blank (byte_at c.args.text.now c.args.p.place) ≡ false = rw (← c.byte_at-b.ensures) (sym c.is_blank.ensures ∙ c.if-is_blank.false) in
    let o : opens (byte_at c.args.text.now) c.args.p.place ≡ true = sym c.opens.ensures ∙ c.if-opens.true in
    rw (d, o) c.close_at.ensures.value

pub returns-clause-value : goal.returns-clause-value
unfolding gap_at
returns-clause-value c =
    let d : is_blank (byte_at c.args.text.now c.args.p.place) ≡ false = rw (← c.byte_at-b.ensures) (sym c.is_blank.ensures ∙ c.if-is_blank.false) in
    let o : opens (byte_at c.args.text.now) c.args.p.place ≡ false = sym c.opens.ensures ∙ c.if-opens.false in
    rw (d, o)
