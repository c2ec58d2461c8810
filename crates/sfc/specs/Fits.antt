-- Which charts keep the limits that an SFC text can pass. 01, The chart text; all else that 01 asks of a chart, the chart of a program has by its making.
use Rattle.std.specs.Prelude.{◌≡◌, ◌≤◌, length}
use Rattle.cond.specs.Bounds.{longest}
use Rattle.line.specs.Chart.{Chart, Move, Hold, Latch}
use Rattle.line.specs.Rules.{line_bound}
use Rattle.chart.specs.WellFormed.{Every, Some}

pub record Fits (c : Chart) : Type 0 where
  -- "N 1 to 30", "M and K 0 to 32"
  pub few_steps : c.head.steps ≤ 30
  pub few_inputs : c.head.inputs ≤ 32
  pub few_outputs : c.head.outputs ≤ 32
  -- "up to 64" lines of each kind
  pub few_moves : length c.body.moves ≤ line_bound
  pub few_holds : length c.body.holds ≤ line_bound
  pub few_latches : length c.body.latches ≤ line_bound
  -- "condition 1 to 64 bytes"
  pub short_conditions : Every (λ (m : Move). length m.condition ≤ longest) c.body.moves
  -- "An output has hold or latch lines, not both."
  pub apart : Every (λ (x : Latch). Some (λ (y : Hold). y.output ≡ x.output) c.body.holds → ⊥) c.body.latches
