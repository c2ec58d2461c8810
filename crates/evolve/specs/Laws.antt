-- A way of the proofs: what laws beside the promises speak of.
use mathlib.Core.List.{Permᴰ}
use Rattle.std.specs.Prelude.{◌≡◌}
use Rattle.evolve.specs.Net.{Net}

-- two charts that differ only in the order of their lines among their own kind
pub record Shuffled (c d : Net) : Type 0 where
  pub steps : c.steps ≡ d.steps
  pub limit : c.limit ≡ d.limit
  pub moves : Permᴰ c.moves d.moves
  pub latches : Permᴰ c.latches d.latches
