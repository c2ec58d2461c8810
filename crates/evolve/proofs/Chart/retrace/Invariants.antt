use Rattle.evolve.proofs.Sequence.Tracing.{Tracing}
use Rattle.evolve.specs.Table.{net_in}
use Rattle.evolve.proofs.Chart.retrace.Given as goal

abbrev pub invariant-loop-i : goal.invariant-loop-i
invariant-loop-i l = Tracing (net_in l.self.text.now l.self.table.now) l.initial.view l.count l.place l.initial.trace l.trace l.view l.i
