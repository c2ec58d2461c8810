use Rattle.std.proofs.Common.{rules}
use mathlib.Core.Path.{refl, ◌∙◌}
use Rattle.line.specs.Words.{latch_row}
use Rattle.evolve.specs.Evolution.{switched_on, switched_off}
use Rattle.evolve.specs.Table.{latches_in}
use Rattle.evolve.specs.Parts.{masks_of, switched_also}
use Rattle.evolve.specs.Words.{gather}
use Rattle.evolve.proofs.Looks.Looking.{walked_all, mask_step}
use Rattle.evolve.proofs.Chart.masks.Goals as goal

pub returns : goal.returns
unfolding latches_in masks_of gather switched_on switched_off
returns c =
    let z = c.args in
    let row = latch_row z.self.now.table.now in
    let all = walked_all row (switched_also z.to z.from) (λ ls. masks_of ls z.to z.from) (mask_step z.to z.from) refl 0 in
    c.walk.ensures (λ i. switched_also z.to z.from (row i)) (λ i f r e. search rules) ∙ all _
