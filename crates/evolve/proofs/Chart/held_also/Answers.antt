use mathlib.Core.Path.{sym, ◌∙◌}
use Rattle.evolve.proofs.Looks.Also.{bit_of, also_on, also_unmet, also_idle}
use Rattle.evolve.proofs.Chart.held_also.Goals as goal

pub returns-then-condition_holds : goal.returns-then-condition_holds
returns-then-condition_holds c =
    let v = c.args.view.now in
    let active = sym c.has_item.ensures ∙ c.if-has_item.true in
    let met = sym c.condition_holds.ensures ∙ c.if-condition_holds.true in
    also_on v _ _ _ active met (bit_of _ c.bit_at.ensures)

pub returns-else-condition_holds : goal.returns-else-condition_holds
returns-else-condition_holds c = also_unmet c.args.view.now _ _ (sym c.condition_holds.ensures ∙ c.if-condition_holds.false)

pub returns-else-has_item : goal.returns-else-has_item
returns-else-has_item c = also_idle c.args.view.now _ _ (sym c.has_item.ensures ∙ c.if-has_item.false)
