-- Texts, and their charts, that differ only in the order of their move, hold and latch lines. Demand 3: "Reordering move, hold or latch lines among their own kind".
use Rattle.std.specs.Prelude.{true, ◌≡◌, ℕ}
use mathlib.Core.List.{List, Permᴰ}
use Rattle.text.specs.Keys.{begins}
use Rattle.text.specs.Lines.{Lines, line}
use Rattle.line.specs.Chart.{Chart}
use Rattle.line.specs.Write.{k_move, k_hold, k_latch}

-- two lines of "their own kind", by the key that they begin with
pub data OneKind (w v : List ℕ) : Type 0 where
  both-moves : begins k_move w ≡ true → begins k_move v ≡ true → OneKind w v
  both-holds : begins k_hold w ≡ true → begins k_hold v ≡ true → OneKind w v
  both-latches : begins k_latch w ≡ true → begins k_latch v ≡ true → OneKind w v

-- the lines of a text, and the same lines with two neighbours of one kind exchanged, any number of times
pub data Reordered : Lines → Lines → Type 0 where
  unchanged : (x : Lines) → Reordered x x
  exchanged : (w v : List ℕ) (x : Lines) → OneKind w v → Reordered (line w (line v x)) (line v (line w x))
  behind : (w : List ℕ) {x y : Lines} → Reordered x y → Reordered (line w x) (line w y)
  again : {x y z : Lines} → Reordered x y → Reordered y z → Reordered x z

-- what that makes of charts
pub record Rearranged (c d : Chart) : Type 0 where
  pub same_head : d.head ≡ c.head
  pub moves : Permᴰ c.body.moves d.body.moves
  pub holds : Permᴰ c.body.holds d.body.holds
  pub latches : Permᴰ c.body.latches d.body.latches
