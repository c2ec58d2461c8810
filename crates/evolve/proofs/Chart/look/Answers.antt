use Rattle.std.proofs.Common.{rules}
use mathlib.Core.Path.{refl, ◌∙◌}
use Rattle.evolve.specs.Table.{move_in, moves_in}
use Rattle.evolve.specs.Parts.{fired_of, fired_also}
use Rattle.evolve.specs.Words.{gather, some}
use Rattle.evolve.proofs.Looks.Looking.{walked_all, look_step}
use Rattle.evolve.proofs.Chart.look.Goals as goal

pub returns : goal.returns
unfolding moves_in fired_of gather some
returns c =
    let z = c.args in
    let v = z.view.now in
    let row = move_in z.self.now.text.now z.self.now.table.now in
    let all = walked_all row (fired_also v) (λ ms. fired_of ms v) (look_step v) refl 0 in
    c.walk.ensures (λ i. fired_also v (row i)) (λ i f r e. search rules) ∙ all _
