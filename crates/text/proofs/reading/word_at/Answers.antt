use Rattle.std.proofs.Common.{sym, ◌∙◌}
use Rattle.text.specs.Numbers.{word}
use Rattle.text.proofs.Numbers.Ended.{no_word, word_cast, no_cast}
use Rattle.text.proofs.reading.word_at.Goals as goal

pub returns-in_err-value : goal.returns-in_err-value
unfolding word
returns-in_err-value c = c.from_residual.ensures ∙ sym (no_word _ (sym c.numeral_at.ensures ∙ c.in_err-value.was))

pub returns-in_err-ok : goal.returns-in_err-ok
unfolding word
returns-in_err-ok c =
    let n = sym c.numeral_at.ensures ∙ c.in_ok-value.was in
    c.from_residual-in_err-ok.ensures ∙ sym (no_cast _ _ _ _ n c.try_from.ensures (sym c.ok.ensures.value ∙ c.in_err-ok.was))

pub returns : goal.returns
unfolding word
returns c =
    let n = sym c.numeral_at.ensures ∙ c.in_ok-value.was in
    sym (word_cast _ _ _ _ _ n c.try_from.ensures (sym c.ok.ensures.value ∙ c.in_ok-ok.was))
