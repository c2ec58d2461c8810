use Rattle.std.proofs.Common.{length, ◌-◌}
use Rattle.casebook.proofs.run_all.Given as goal

abbrev pub decreases-loop-at : goal.decreases-loop-at
decreases-loop-at g l = length l.s - l.at
