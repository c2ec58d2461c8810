-- A way of the code: the lines of a text as words, the rows of the table that is lent to the engine. `TableSays` (chart/specs/Table.antt), which `chart::read`
-- ensures, fixes what they say.
-- A table has room for a head of 16 words and for 64 rows of each kind. A move is three words: its steps before, its steps after, and where its condition lies.
-- A hold and a latch are one word each; a latch has 0 for `u` (activation) and 1 for `d`.
use Rattle.std.specs.Prelude.{Bool, true, false, not, List, [], ◌∷◌, ℕ, ◌+◌, ◌-◌, ◌*◌, ◌/◌, ◌%◌, eqb, length, get_or, take, drop}
use Rattle.text.specs.Words.{word_of}
use Rattle.line.specs.declared.Row.{Row}
use Rattle.line.specs.declared.Row.TheVariants.{Move, Hold, Latch, Nothing}
use Rattle.line.specs.Chart as chart
use Rattle.line.specs.Write.{Line, number', initial', move', hold', latch', end', wrong}

-- Words

-- where bytes lie in a text: from * 128 + length
abbrev pub place_word : ℕ → ℕ → ℕ
place_word a n = a % 16384 * 128 + n % 128

-- the part of a text that such a word means
abbrev pub part_at : List ℕ → ℕ → List ℕ
part_at t p = take (p % 128) (drop (p / 128) t)

-- step + 32 * output
abbrev pub item_word : ℕ → ℕ → ℕ
item_word s o = s % 32 + 32 * (o % 32)

abbrev pub flag : Bool → ℕ
flag true = 1
flag false = 0

-- the row of a line of n bytes that stands at place a: a condition is the line's last bytes
abbrev pub row_of : ℕ → ℕ → Line → Row
row_of a n (number' q v) = Nothing
row_of a n (initial' l) = Nothing
row_of a n (move' m) = Move (word_of m.before) (word_of m.after) (place_word (a + (n - length m.condition)) (length m.condition))
row_of a n (hold' x) = Hold (item_word x.step x.output + 1024 * place_word (a + (n - length x.condition)) (length x.condition))
row_of a n (latch' x) = Latch (item_word x.step x.output + 1024 * flag (not x.activation) + 2048 * flag x.on)
row_of a n (end' v) = Nothing
row_of a n wrong = Nothing

-- The head of a table: so many words, the head's numbers with the initial steps as a word, and the counts of lines. Words 6 and 10 are for counters.

abbrev pub head_length : ℕ
head_length = 11

abbrev pub head_words_of : chart.Chart → List ℕ
head_words_of c =
    c.head.version ∷ c.head.steps ∷ word_of c.head.initial ∷ c.head.inputs ∷ c.head.outputs ∷ c.head.limit ∷ 0
    ∷ length c.body.moves ∷ length c.body.holds ∷ length c.body.latches ∷ 0 ∷ []

-- where those of them stand that are asked for

abbrev pub steps_at : ℕ
steps_at = 1

abbrev pub initial_at : ℕ
initial_at = 2

abbrev pub inputs_at : ℕ
inputs_at = 3

abbrev pub outputs_at : ℕ
outputs_at = 4

abbrev pub limit_at : ℕ
limit_at = 5

abbrev pub move_count_at : ℕ
move_count_at = 7

abbrev pub hold_count_at : ℕ
hold_count_at = 8

abbrev pub latch_count_at : ℕ
latch_count_at = 9

-- and where the rows of a kind begin

abbrev pub moves_from : ℕ
moves_from = 16

abbrev pub holds_from : ℕ
holds_from = 208

abbrev pub latches_from : ℕ
latches_from = 272

abbrev pub table_words : ℕ
table_words = 336

-- Rows read back: past the end of a table stand zeros

-- a move with its lists of steps as words
pub record MoveRow : Type 0 where
  pub before : ℕ
  pub after : ℕ
  pub condition : List ℕ

abbrev pub as_row : chart.Move → MoveRow
as_row m = record { before = word_of m.before; after = word_of m.after; condition = m.condition }

unfoldable pub move_row : List ℕ → List ℕ → ℕ → MoveRow
move_row t table i =
    record {
      before = get_or table (moves_from + 3 * i) 0;
      after = get_or table (moves_from + 3 * i + 1) 0;
      condition = part_at t (get_or table (moves_from + 3 * i + 2) 0);
    }

-- the lines that one word stands for
abbrev pub hold_of_word : List ℕ → ℕ → chart.Hold
hold_of_word t w = record { step = w % 32; output = w / 32 % 32; condition = part_at t (w / 1024) }

abbrev pub latch_of_word : ℕ → chart.Latch
latch_of_word w = record { step = w % 32; activation = eqb (w / 1024 % 2) 0; output = w / 32 % 32; on = eqb (w / 2048) 1 }

abbrev pub hold_row : List ℕ → List ℕ → ℕ → chart.Hold
hold_row t table i = hold_of_word t (get_or table (holds_from + i) 0)

abbrev pub latch_row : List ℕ → ℕ → chart.Latch
latch_row table i = latch_of_word (get_or table (latches_from + i) 0)
