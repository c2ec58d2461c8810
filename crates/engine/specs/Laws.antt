-- A way of the proofs: what laws beside the promises speak of.
use mathlib.Core.List.{Permᴰ}
use Rattle.std.specs.Prelude.{◌≡◌, ◌^◌, ◌<◌}
use Rattle.evolve.specs.Demand.{All}
use Rattle.evolve.specs.Laws.{Shuffled}
use Rattle.engine.specs.Plan.{Plan}

-- a plan that names declared items only: each move's steps after, the initial steps, and the outputs of latches
pub record Declares (p : Plan) : Type 0 where
  pub after : All (λ m. m.after < 2 ^ p.net.steps) p.net.moves
  pub initial : p.initial < 2 ^ p.net.steps
  pub outputs : All (λ l. l.output < p.outputs) p.net.latches

-- two plans that differ only in the order of their lines among their own kind
pub record ShuffledPlan (p q : Plan) : Type 0 where
  pub initial : p.initial ≡ q.initial
  pub inputs : p.inputs ≡ q.inputs
  pub outputs : p.outputs ≡ q.outputs
  pub net : Shuffled p.net q.net
  pub holds : Permᴰ p.holds q.holds
