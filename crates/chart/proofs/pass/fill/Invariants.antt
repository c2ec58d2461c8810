use mathlib.Core.Path.{◌≡◌}
use Prim.Native.Nat.{◌-◌}
use lib.ListN.{length}
use Rattle.line.specs.Words.{table_words}
use Rattle.chart.proofs.Rows.Filling.{Filling}
use Rattle.chart.proofs.pass.fill.Given as goal

abbrev pub invariant-lines : goal.invariant-lines
invariant-lines l = (length l.table ≡ table_words) × Filling l.text l.initial.table l.at l.line_number l.known l.table

abbrev pub decreases-lines : goal.decreases-lines
decreases-lines l = length l.text - l.at
