-- A way of the code: what its parts hand to each other while they write. All of it comes to `write` (line/specs/Write.antt) of the chart that is made:
-- the contract of `write_chart` (src/lib.rt).
use Rattle.std.specs.Prelude.{Bool, cond, not, ◌&&◌, List, [], ◌∷◌, ◌++◌, ◌≡◌, Some, ℕ, ◌+◌, ◌≤◌, eqb, length}
use Rattle.text.specs.Decimal.{decimal}
use Rattle.text.specs.Words.{has}
use Rattle.text.specs.Writing.{Put}
use Rattle.text.specs.Lines.{line_end}
use Rattle.line.specs.declared.Kind.{Kind}
use Rattle.line.specs.Kinds.{rank}
use Rattle.line.specs.Write.{Line, head_lines, kind, write_line, write_lines, comma, list, others}
use Rattle.outline.specs.declared.Reading.{Reading}
use Rattle.writer.specs.Lines.{counted, word_items}
use Rattle.writer.specs.declared.Written.{Written}

-- Lists, item by item

-- what is written of item j of a word
abbrev pub item_bytes : Bool → ℕ → ℕ → List ℕ
item_bytes first w j = cond (has w j) (cond first (decimal j) (comma ∷ decimal j)) []

-- what is written of the items that are left
abbrev pub rest_of : Bool → List ℕ → List ℕ
rest_of first l = cond first (list l) (others l)

-- item j of a word, in a list that began at `from` and goes on at `at`: it is the first item where nothing of the list is written yet
pub record ItemPut (from at w j : ℕ) (before after : List ℕ) (r : ℕ) : Type 0 where
  pub put : Put at (item_bytes (eqb at from) w j) before after r
  pub first : from ≤ at → eqb r from ≡ (eqb at from && not (has w j))
  pub near : r ≤ at + 3

pub record ListPut (at w : ℕ) (bytes before after : List ℕ) (r : ℕ) : Type 0 where
  pub put : Put at bytes before after r
  pub near : r ≤ at + 96

-- the bytes of a line and of its end
abbrev pub line_bytes : Line → List ℕ
line_bytes l = write_line l ++ (line_end ∷ [])

-- the bytes of the head: what a reading says of it
unfoldable pub head_of : Reading → List ℕ
head_of r =
    write_lines
    (head_lines
    (record {
      version = 1;
      steps = counted r.known.steps;
      initial = word_items r.known.initial;
      inputs = counted r.known.inputs;
      outputs = counted r.known.outputs;
      limit = 1024;
    }) [])

-- Lines of one kind

unfoldable pub of_kind : Kind → List Line → List Line
of_kind k [] = []
of_kind k (l ∷ ls) = cond (eqb (rank (kind l)) (rank (Some k))) (l ∷ of_kind k ls) (of_kind k ls)

-- lines written one after another: their bytes, and how many they are
pub record LinesPut (w : Written) (ls : List Line) (before after : List ℕ) (r : Written) : Type 0 where
  pub put : Put w.at (write_lines ls) before after r.at
  pub lines : r.lines ≡ w.lines + length ls
