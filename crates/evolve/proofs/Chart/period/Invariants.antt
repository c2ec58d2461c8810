use Rattle.evolve.proofs.Stages.Seeking.{Seeking}
use Rattle.evolve.specs.Table.{net_in}
use Rattle.evolve.proofs.Chart.period.Given as goal

abbrev pub invariant-loop-d : goal.invariant-loop-d
invariant-loop-d l = Seeking (net_in l.self.text.now l.self.table.now) l.initial.view l.view l.d
