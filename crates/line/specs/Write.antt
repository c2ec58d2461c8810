-- The one text of a chart. 01, The chart text: "Key=value lines in this fixed order, each ended by byte 10, no spaces."
use Rattle.std.specs.Prelude.{Bool, true, false, List, [], ◌∷◌, ◌++◌, ℕ, Option, Some, ◌+◌, length}
use Rattle.text.specs.Decimal.{decimal}
use Rattle.text.specs.Keys.{bytes}
pub use Rattle.text.specs.Keys.{colon}
use Rattle.text.specs.Lines.{line_end}
use Rattle.line.specs.Chart.{Head, Move, Hold, Latch, Chart}
use Rattle.line.specs.declared.Kind.{Kind}
use Rattle.line.specs.declared.Kind.TheVariants as kinds
use Rattle.line.specs.Kinds.{HeadNumber, version, steps, inputs, outputs, limit, number_line, number_kind}

-- The keys of the other lines, each with its `=`

abbrev pub k_initial : List ℕ
k_initial = bytes "initial="

abbrev pub k_move : List ℕ
k_move = bytes "move="

abbrev pub k_hold : List ℕ
k_hold = bytes "hold="

abbrev pub k_latch : List ℕ
k_latch = bytes "latch="

abbrev pub k_end : List ℕ
k_end = bytes "end="

-- the bytes between a line's parts: `:` and these, `,` and `>`
abbrev pub comma : ℕ
comma = 44

abbrev pub arrow : ℕ
arrow = 62

-- `u` and `d`
abbrev pub edge_byte : Bool → ℕ
edge_byte true = 117
edge_byte false = 100

-- `1` and `0`
abbrev pub bit_byte : Bool → ℕ
bit_byte true = 49
bit_byte false = 48

-- A line by its kind, and `wrong` for bytes of no kind.
pub data Line : Type 0 where
  number' : HeadNumber → ℕ → Line
  initial' : List ℕ → Line
  move' : Move → Line
  hold' : Hold → Line
  latch' : Latch → Line
  end' : ℕ → Line
  wrong : Line

abbrev pub kind : Line → Option Kind
kind (number' q v) = Some (number_kind q)
kind (initial' l) = Some kinds.Initial
kind (move' m) = Some kinds.Move
kind (hold' x) = Some kinds.Hold
kind (latch' x) = Some kinds.Latch
kind (end' v) = Some kinds.End
kind wrong = Some kinds.Unknown

-- "A list is numbers joined by commas, perhaps empty."

-- after a list's first number: the others, each after a comma
unfoldable pub others : List ℕ → List ℕ
others [] = []
others (v ∷ l) = comma ∷ (decimal v ++ others l)

unfoldable pub list : List ℕ → List ℕ
list [] = []
list (v ∷ l) = decimal v ++ others l

-- "The condition is everything after a move's first colon or a hold's second": what stands before it
abbrev pub move_start : Move → List ℕ
move_start m = k_move ++ (list m.before ++ arrow ∷ (list m.after ++ colon ∷ []))

abbrev pub hold_start : Hold → List ℕ
hold_start x = k_hold ++ (decimal x.step ++ colon ∷ (decimal x.output ++ colon ∷ []))

unfoldable pub write_line : Line → List ℕ
write_line (number' q v) = (number_line q).key ++ decimal v
write_line (initial' l) = k_initial ++ list l
write_line (move' m) = move_start m ++ m.condition
write_line (hold' x) = hold_start x ++ x.condition
write_line (latch' x) =
    k_latch ++ (decimal x.step ++ colon ∷ edge_byte x.activation ∷ colon ∷ (decimal x.output ++ colon ∷ bit_byte x.on ∷ []))
write_line (end' v) = k_end ++ decimal v
write_line wrong = []

unfoldable pub write_lines : List Line → List ℕ
write_lines [] = []
write_lines (l ∷ ls) = write_line l ++ line_end ∷ write_lines ls

-- a line for each element of a list, in front of other lines
unfoldable pub lines : {A : Type 0} → (A → Line) → List A → List Line → List Line
lines f [] r = r
lines f (x ∷ xs) r = f x ∷ lines f xs r

-- "T the total of move, hold and latch lines"
abbrev pub total : Chart → ℕ
total c = length c.body.moves + length c.body.holds + length c.body.latches

-- the lines of a head, in front of others
abbrev pub head_lines : Head → List Line → List Line
head_lines h r =
    number' version h.version ∷ number' steps h.steps ∷ initial' h.initial ∷ number' inputs h.inputs
    ∷ number' outputs h.outputs ∷ number' limit h.limit ∷ r

unfoldable pub lines_of : Chart → List Line
lines_of c = head_lines c.head (lines move' c.body.moves (lines hold' c.body.holds (lines latch' c.body.latches (end' (total c) ∷ []))))

unfoldable pub write : Chart → List ℕ
write c = write_lines (lines_of c)
