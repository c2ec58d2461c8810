use Rattle.std.proofs.Common.{refl, sym, ◌∙◌, arith}
use Rattle.casebook.proofs.Words.{word-within}
use Rattle.casebook.proofs.field_at.Goals as goal

pub returns-then-end-s : goal.returns-then-end-s
returns-then-end-s c =
    let w = sym c.word_at.ensures ∙ c.in_ok-value.was in
    let i = word-within c.args.s.now c.args.at c.in_ok-value.value c.in_ok-value.end w in
    record { last = c.in_ok-value.end; number = w; ends = refl; onward = omega arith; within = omega arith }
