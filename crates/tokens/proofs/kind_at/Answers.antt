use Rattle.std.proofs.Common.{ℕ, take, drop, sym, ap, ◌∙◌}
use borrow.Author.Tests.{lt-leb}
use Rattle.tokens.specs.Spelling.{word_kind}
use Rattle.tokens.specs.Tokens.{kind_at}
use Rattle.tokens.proofs.Laws.{size_word}
use Rattle.tokens.proofs.kind_at.Goals as goal

pub returns-then-begins : goal.returns-then-begins
unfolding kind_at
returns-then-begins c =
    let p = lt-leb _ _ c.if-text-at.false in
    let q = sym c.opens.ensures ∙ c.if-opens.false in
    let b = sym c.begins.ensures ∙ c.if-begins.true in
    rw (p, q, b) (c.word_kind.ensures ∙ ap word_kind (c.part.ensures ∙ ap (λ (n : ℕ). take n (drop c.args.at c.args.text.now)) (c.requires ∙ size_word c.args.text.now c.args.at p q b)))
