use Rattle.std.proofs.Common.{rules}
use mathlib.Core.Path.{refl, ◌∙◌}
use Rattle.evolve.specs.Evolution.{held_outputs}
use Rattle.evolve.specs.Table.{hold_in, holds_in}
use Rattle.evolve.specs.Parts.{held_also}
use Rattle.evolve.specs.Words.{gather}
use Rattle.evolve.proofs.Looks.Looking.{walked_all, held_step}
use Rattle.evolve.proofs.Chart.held.Goals as goal

pub returns : goal.returns
unfolding holds_in held_outputs gather
returns c =
    let z = c.args in
    let v = z.view.now in
    let row = hold_in z.self.now.text.now z.self.now.table.now in
    let all = walked_all row (held_also v) (λ hs. held_outputs hs v) (held_step v) refl 0 in
    c.walk.ensures (λ i. held_also v (row i)) (λ i f r e. search rules) ∙ all _
