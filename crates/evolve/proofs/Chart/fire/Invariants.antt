use Rattle.evolve.proofs.Stages.Firing.{Firing}
use Rattle.evolve.specs.Table.{net_in}
use Rattle.evolve.proofs.Chart.fire.Given as goal

abbrev pub invariant-loop-k : goal.invariant-loop-k
invariant-loop-k l = Firing (net_in l.self.text.now l.self.table.now) l.initial.view l.most l.view l.k
