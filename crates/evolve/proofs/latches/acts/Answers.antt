use mathlib.Core.Path.{sym, ◌∙◌}
use Rattle.line.specs.Words.{latch_of_word}
use Rattle.evolve.proofs.Looks.Also.{acts_if, acts_not}
use Rattle.evolve.proofs.latches.acts.Goals as goal

pub returns-then-not-has_item : goal.returns-then-not-has_item
returns-then-not-has_item c =
    let z = c.args in
    acts_not z.to z.from (latch_of_word z.row) (sym (c.if-not-has_item.true) ∙ c.has_item.ensures)

pub returns : goal.returns
returns c =
    let z = c.args in
    acts_if z.to z.from (latch_of_word z.row) _ (sym (c.if-not-has_item.false) ∙ c.has_item.ensures)
    c.has_item-2.ensures
