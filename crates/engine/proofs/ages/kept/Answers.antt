use Rattle.std.proofs.Common.{rules}
use Rattle.evolve.specs.Evolution.{kept}
use Rattle.engine.proofs.ages.kept.Goals as goal

pub returns : goal.returns
unfolding kept
returns c = c.each_age.ensures _ (λ j a r e. search rules)
