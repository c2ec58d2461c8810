-- A way of the code: the rows of a text, the words of the lines that pass, up to the first that does not. `rows_accepted` (proofs/Rows/Lined.antt): those of an
-- accepted text are the rows of its chart's lines.
use Rattle.std.specs.Prelude.{Option, Some, None, cond, List, [], ◌∷◌, ◌++◌, ◌≡◌, ℕ, zero, suc, ◌+◌, ◌-◌, ◌*◌, ◌≤◌, ltb, length, take, drop}
use Rattle.std.proofs.lemmas.List.Edits.{sets}
use Rattle.text.specs.Lines.{Lines, nothing, unended, line, split}
use Rattle.text.specs.declared.lines.Taken.{Taken}
use Rattle.text.specs.declared.lines.Taken.TheVariants.{Line, Open, End}
use Rattle.line.specs.declared.Known.{Known}
use Rattle.line.specs.declared.Row.{Row}
use Rattle.line.specs.declared.Row.TheVariants.{Move, Hold, Latch, Nothing}
use Rattle.line.specs.Chart.{Chart}
use Rattle.line.specs.declared.Kind.{Kind}
use Rattle.line.specs.Write.{kind}
use Rattle.line.specs.Shape.{shape}
use Rattle.line.specs.Rules.{longest_text, line_bound, blank, extended, fault}
use Rattle.line.specs.Words.{row_of, moves_from, holds_from, latches_from}
use Rattle.chart.specs.declared.Part.{Part}
use Rattle.chart.specs.Reading.{Found}

unfoldable pub row_then : ℕ → Row → List Row → List Row
row_then zero r rs = r ∷ rs
row_then (suc a) r rs = []

-- of the lines from a place of the text on
unfoldable pub rows_of_lines : ℕ → Option Kind → Chart → Lines → List Row
rows_of_lines a k c nothing = []
rows_of_lines a k c unended = []
rows_of_lines a k c (line w x) =
    row_then (fault k c (shape w)) (row_of a (length w) (shape w)) (rows_of_lines (a + length w + 1) (kind (shape w)) (extended c (shape w)) x)

-- a text that is too long has none
unfoldable pub rows_of : List ℕ → List Row
rows_of t = cond (ltb longest_text (length t)) [] (rows_of_lines 0 None blank (split t))

-- where a line ends that the reader hands out
abbrev pub end_of : Taken → Option ℕ
end_of (Line e) = Some e
end_of Open = None
end_of End = None

-- The words of a row in each area

abbrev pub move_word : Row → List ℕ
move_word (Move b a p) = b ∷ a ∷ p ∷ []
move_word (Hold w) = []
move_word (Latch w) = []
move_word Nothing = []

abbrev pub hold_word : Row → List ℕ
hold_word (Move b a p) = []
hold_word (Hold w) = w ∷ []
hold_word (Latch w) = []
hold_word Nothing = []

abbrev pub latch_word : Row → List ℕ
latch_word (Move b a p) = []
latch_word (Hold w) = []
latch_word (Latch w) = w ∷ []
latch_word Nothing = []

-- and those of rows
unfoldable pub words_by : (Row → List ℕ) → List Row → List ℕ
words_by f [] = []
words_by f (r ∷ rs) = f r ++ words_by f rs

-- One row stored

-- a line that is counted has a row: 64 lines of each kind fit
abbrev pub HasRow : ℕ → Type 0
HasRow n = (1 ≤ n) × (n ≤ line_bound)

-- the table has room for a row, which is counted already in what is known
abbrev pub Room : Known → Row → Type 0
Room h (Move b a p) = HasRow h.moves
Room h (Hold w) = HasRow h.holds
Room h (Latch w) = HasRow h.latches
Room h Nothing = Unit {0}

-- an area of which n words are taken, with the last of them
abbrev pub last_words : List ℕ → ℕ → List ℕ → List ℕ
last_words t n w = sets t (n - length w) w

-- The areas of a table, one after the other

abbrev pub area : ℕ → ℕ → List ℕ → List ℕ
area from n t = take n (drop from t)

abbrev pub head_area : List ℕ → List ℕ
head_area t = area 0 moves_from t

abbrev pub moves_area : List ℕ → List ℕ
moves_area t = area moves_from (3 * line_bound) t

abbrev pub holds_area : List ℕ → List ℕ
holds_area t = area holds_from line_bound t

abbrev pub latches_area : List ℕ → List ℕ
latches_area t = area latches_from line_bound t

-- a table with a row that is counted in h
pub record Stored (h : Known) (row : Row) (before after : List ℕ) : Type 0 where
  pub head : head_area after ≡ head_area before
  pub moves : moves_area after ≡ last_words (moves_area before) (3 * h.moves) (move_word row)
  pub holds : holds_area after ≡ last_words (holds_area before) h.holds (hold_word row)
  pub latches : latches_area after ≡ last_words (latches_area before) h.latches (latch_word row)

-- the head that is known, as words
abbrev pub known_words : Known → List ℕ
known_words h =
    h.version ∷ h.steps ∷ h.initial ∷ h.inputs ∷ h.outputs ∷ h.limit ∷ 0 ∷ h.moves ∷ h.holds ∷ h.latches ∷ 0 ∷ []

-- where a part that was found lies
abbrev pub part_of : Found → Part
part_of f = record { start = length f.before; length = length f.part }
