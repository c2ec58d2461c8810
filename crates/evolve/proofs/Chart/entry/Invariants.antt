use Rattle.evolve.proofs.Stages.Entering.{Entering}
use Rattle.evolve.specs.Table.{net_in}
use Rattle.evolve.specs.Parts.{put}
use Rattle.evolve.proofs.Chart.entry.Given as goal

abbrev pub invariant-loop-u : goal.invariant-loop-u
invariant-loop-u l =
    let v = l.initial.view in
    Entering (net_in l.self.text.now l.self.table.now) (put v l.initial.behind v.inputs) l.d l.view l.behind l.u
