use Rattle.std.proofs.Common.{length, ◌-◌}
use Rattle.cond_cases.proofs.run.Given as goal

abbrev pub decreases-loop-case : goal.decreases-loop-case
decreases-loop-case g l = length l.s - l.at
