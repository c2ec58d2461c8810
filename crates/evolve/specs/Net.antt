-- A chart as an evolution knows it: its lines by what they mean, wherever they were read from.
use Rattle.std.specs.Prelude.{List, map, ℕ}
use Rattle.text.specs.Words.{word_of}
use Rattle.cond.specs.Meaning.{Cond}
use Rattle.cond.specs.Judging.{meaning}
use Rattle.line.specs.Chart.{Move, Hold, Latch, Chart}

-- "`move=LIST>LIST:COND` (steps before, steps after)": the lists as words, the condition by its meaning
pub record NetMove : Type 0 where
  pub before : ℕ
  pub after : ℕ
  pub condition : Cond

-- "`hold=STEP:OUTPUT:COND`"
pub record NetHold : Type 0 where
  pub step : ℕ
  pub output : ℕ
  pub condition : Cond

-- All that an evolution knows of its chart. No rule of evolution asks how many steps it has; the bound of demand 3 does.
pub record Net : Type 0 where
  pub steps : ℕ
  pub limit : ℕ
  pub moves : List NetMove
  pub latches : List Latch

-- what the lines of a chart mean
abbrev pub move_of : Move → NetMove
move_of m = record { before = word_of m.before; after = word_of m.after; condition = meaning m.condition }

abbrev pub hold_of : Hold → NetHold
hold_of h = record { step = h.step; output = h.output; condition = meaning h.condition }

unfoldable pub net_of : Chart → Net
net_of c = record { steps = c.head.steps; limit = c.head.limit; moves = map move_of c.body.moves; latches = c.body.latches }
