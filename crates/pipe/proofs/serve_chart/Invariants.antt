use Rattle.std.proofs.Common.{[]}
use Rattle.rig_log.specs.Run.{waiting, progress_of}
use Rattle.pipe.specs.Loop.{Leads}
use Rattle.pipe.proofs.serve_chart.Given as goal

abbrev pub invariant-loop : goal.invariant-loop
invariant-loop g l = Leads l.chart (waiting []) (progress_of l.run)
