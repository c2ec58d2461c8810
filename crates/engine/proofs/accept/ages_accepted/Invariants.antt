use Rattle.engine.specs.State.{ages_accepted}
use lib.ListN.{drop}
use mathlib.Core.Path.{◌≡◌}
use Rattle.engine.proofs.accept.ages_accepted.Given as goal

abbrev pub invariant-loop-j : goal.invariant-loop-j
invariant-loop-j l = ages_accepted l.situation 0 l.fn.ages ≡ ages_accepted l.situation l.j (drop l.j l.fn.ages)
