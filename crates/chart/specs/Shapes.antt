-- What fixes `shape` (line/specs/Shape.antt), the line that bytes are: `write_line` and the bound of a number alone.
use Rattle.std.specs.Prelude.{List, ◌≡◌, ℕ, ◌^◌, ◌<◌}
use Rattle.cond.specs.Bounds.{most_digits}
use Rattle.line.specs.Write.{Line, number', initial', move', hold', latch', end', wrong, write_line}
use Rattle.line.specs.Shape.{shape}
use Rattle.chart.specs.WellFormed.{Every}

-- 01, The chart text: "A number is 1 to 7 decimal digits"
abbrev pub Digits7 : ℕ → Type 0
Digits7 v = v < 10 ^ most_digits

-- so are the numbers of a line
abbrev pub Low : Line → Type 0
Low (number' q v) = Digits7 v
Low (initial' l) = Every Digits7 l
Low (move' m) = Every Digits7 m.before × Every Digits7 m.after
Low (hold' x) = Digits7 x.step × Digits7 x.output
Low (latch' x) = Digits7 x.step × Digits7 x.output
Low (end' v) = Digits7 v
Low wrong = Unit {0}

pub record Shaped (w : List ℕ) : Type 0 where
  -- bytes that have a shape are what is written for it
  pub written : (shape w ≡ wrong → ⊥) → (write_line (shape w) ≡ w) × Low (shape w)
  -- what is written for a line has its shape
  pub only : (l : Line) → (l ≡ wrong → ⊥) → Low l → write_line l ≡ w → shape w ≡ l
  -- bytes have no shape exactly if no line is written so
  pub no_line : shape w ≡ wrong → (l : Line) → (l ≡ wrong → ⊥) → Low l → write_line l ≡ w → ⊥
  pub no_shape : ((l : Line) → (l ≡ wrong → ⊥) → Low l → write_line l ≡ w → ⊥) → shape w ≡ wrong
