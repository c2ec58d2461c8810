use Rattle.std.proofs.Common.{rules}
use mathlib.Core.Path.{refl, ◌∙◌}
use Rattle.line.specs.Words.{latch_row}
use Rattle.evolve.specs.Evolution.{latchable}
use Rattle.evolve.specs.Table.{latches_in}
use Rattle.evolve.specs.Parts.{named_also}
use Rattle.evolve.specs.Words.{gather}
use Rattle.evolve.proofs.Looks.Looking.{walked_all, name-step}
use Rattle.evolve.proofs.Chart.latchable.Goals as goal

pub returns : goal.returns
unfolding latches_in latchable gather
returns c =
    let row = latch_row c.args.self.now.table.now in
    let all = walked_all row named_also latchable name-step refl 0 in
    c.walk.ensures (λ i. named_also (row i)) (λ i f r e. search rules) ∙ all _
