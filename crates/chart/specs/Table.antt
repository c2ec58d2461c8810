-- A way of the code: what the table of a text holds: the head of its chart and the rows of its lines, with lists as words and each condition where it lies in the
-- text. `chart::read` ensures it, and `plan_is` (engine/proofs/Calls/Texts.antt) makes the chart's plan of it.
use Rattle.std.specs.Prelude.{true, false, List, [], ◌≡◌, ℕ, ◌+◌, ◌*◌, ◌/◌, ◌%◌, ◌^◌, ◌<◌, ◌≤◌, length, get_or}
use Rattle.std.proofs.lemmas.List.Edits.{sets}
use Rattle.text.specs.Words.{word_of}
use Rattle.line.specs.declared.Row.{Row}
use Rattle.line.specs.Chart.{Chart, Hold, Latch}
use Rattle.line.specs.Words.{head_length, head_words_of, moves_from, holds_from, as_row, move_row, hold_row, latch_row}
use Rattle.chart.specs.Reading.{Read, accepted, refused, read_chart}
pub use Rattle.chart.specs.Reading.{no_move}
use Rattle.chart.specs.Rows.{move_word, hold_word, latch_word, words_by, head_area, moves_area, holds_area, latches_area}

-- a refused text has none
abbrev pub with_head : Read → List ℕ → List ℕ
with_head (accepted c) h = sets h 0 (head_words_of c)
with_head (refused a n) h = h

-- a table before and after, area by area: with the head of an answer and with rows
pub record Tabled (a : Read) (rs : List Row) (before after : List ℕ) : Type 0 where
  pub head : head_area after ≡ with_head a (head_area before)
  pub moves : moves_area after ≡ sets (moves_area before) 0 (words_by move_word rs)
  pub holds : holds_area after ≡ sets (holds_area before) 0 (words_by hold_word rs)
  pub latches : latches_area after ≡ sets (latches_area before) 0 (words_by latch_word rs)

-- what stands for an element past a list's end
abbrev pub no_hold : Hold
no_hold = record { step = 0; output = 0; condition = [] }

abbrev pub no_latch : Latch
no_latch = record { step = 0; activation = true; output = 0; on = false }

-- the words of a table that say a chart; those of steps are low, and each condition's bytes lie within the text
pub record TellsChart (t : List ℕ) (c : Chart) (table : List ℕ) : Type 0 where
  pub head : (i : ℕ) → i < head_length → get_or table i 0 ≡ get_or (head_words_of c) i 0
  pub initial-low : word_of c.head.initial < 2 ^ c.head.steps
  pub moves : (i : ℕ) → i < length c.body.moves → move_row t table i ≡ as_row (get_or c.body.moves i no_move)
  pub moves-low : (i : ℕ) → i < length c.body.moves → (word_of (get_or c.body.moves i no_move).before < 2 ^ c.head.steps) × (word_of (get_or c.body.moves i no_move).after < 2 ^ c.head.steps)
  pub moves_lie : (i : ℕ) → i < length c.body.moves → get_or table (moves_from + 3 * i + 2) 0 / 128 + get_or table (moves_from + 3 * i + 2) 0 % 128 ≤ length t
  pub holds : (i : ℕ) → i < length c.body.holds → hold_row t table i ≡ get_or c.body.holds i no_hold
  pub holds_lie : (i : ℕ) → i < length c.body.holds → get_or table (holds_from + i) 0 / 1024 / 128 + get_or table (holds_from + i) 0 / 1024 % 128 ≤ length t
  pub latches : (i : ℕ) → i < length c.body.latches → latch_row table i ≡ get_or c.body.latches i no_latch

-- a text's table says its chart, if it has one
abbrev pub TableSays : List ℕ → List ℕ → Type 0
TableSays t table = (c : Chart) → read_chart t ≡ accepted c → TellsChart t c table
