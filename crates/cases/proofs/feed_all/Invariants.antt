use Rattle.std.proofs.Common.{[], ◌≡◌, take}
use Rattle.rig_log.specs.Run.{waiting, fed_all, progress_of}
use Rattle.cases.proofs.feed_all.Given as goal

abbrev pub invariant-loop-b : goal.invariant-loop-b
invariant-loop-b g l = progress_of l.run ≡ (fed_all l.chart (waiting []) (take l.b-index l.input)).next
