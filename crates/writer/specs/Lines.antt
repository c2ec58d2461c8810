-- A way of the code: the chart as it makes it, a line where an action's bracket is closed, and where a condition ends. It is the chart of the program
-- (sfc/specs/Chart.antt): `agrees` (sfc/proofs/Agreeing.antt).
use Rattle.std.specs.Prelude.{Bool, true, false, Option, Some, cond, List, [], ◌∷◌, ◌++◌, ℕ, zero, suc, ◌+◌, min, take}
use Rattle.text.specs.Words.{has}
use Rattle.line.specs.Chart.{Chart, Move, Hold, Latch}
use Rattle.line.specs.Write.{Line, number', initial', move', hold', latch', end', wrong}
use Rattle.tokens.specs.declared.Token.{Token}
use Rattle.tokens.specs.Tokens.{tokens}
use Rattle.outline.specs.declared.Reading.{Reading}
use Rattle.naming.specs.declared.Qualifier.{Qualifier}
use Rattle.naming.specs.declared.Qualifier.TheVariants.{S}
use Rattle.naming.specs.declared.Names.{Names}
use Rattle.outline.specs.Faults.{is_n}
use Rattle.grammar.specs.Rows.{same_phase}
use Rattle.grammar.specs.declared.Phase.TheVariants.{SemicolonDue, EndDue}
use Rattle.outline.specs.Reading.{after_token, nothing_known, reading_of}

-- the items of a word from j on, of which n may be looked at: 01, "Lists rise strictly."
unfoldable pub items_from : ℕ → ℕ → ℕ → List ℕ
items_from zero j w = []
items_from (suc n) j w = cond (has w j) (j ∷ items_from n (j + 1) w) (items_from n (j + 1) w)

abbrev pub word_items : ℕ → List ℕ
word_items w = items_from 32 0 w

abbrev pub is_s : Option Qualifier → Bool
is_s (Some S) = true
is_s _ = false

-- Lines: a line is made where an action's bracket is closed, and where a condition ends.

abbrev pub move_made : Reading → Move
move_made r = record { before = word_items r.part.before; after = word_items r.part.listed; condition = take r.part.condition.size r.part.condition.bytes }

-- "N .. actions": the output is on while the step is active
abbrev pub hold_made : Reading → Hold
hold_made r = record { step = r.part.step; output = r.part.output; condition = 49 ∷ [] }

-- "An S or R action becomes a latch on activation."
abbrev pub latch_made : Reading → Latch
latch_made r = record { step = r.part.step; activation = true; output = r.part.output; on = is_s r.part.qualifier }

abbrev pub action_made : Reading → List Line
action_made r = cond (is_n r.part.qualifier) (hold' (hold_made r) ∷ []) (latch' (latch_made r) ∷ [])

unfoldable pub made : Reading → List Line
made r =
    cond (same_phase r.due.phase EndDue) (move' (move_made r) ∷ [])
    (cond (same_phase r.due.phase SemicolonDue) (action_made r)
    [])

-- "lines are written, in order of appearance"
unfoldable pub lines_from : List ℕ → Reading → List Token → List Line
lines_from s r [] = []
lines_from s r (t ∷ ts) = made (after_token s r t) ++ lines_from s (after_token s r t) ts

abbrev pub lines_made : List ℕ → List Line
lines_made s = lines_from s nothing_known (tokens s)

unfoldable pub moves_made : List Line → List Move
moves_made [] = []
moves_made (number' q v ∷ ls) = moves_made ls
moves_made (initial' l ∷ ls) = moves_made ls
moves_made (move' m ∷ ls) = m ∷ moves_made ls
moves_made (hold' x ∷ ls) = moves_made ls
moves_made (latch' x ∷ ls) = moves_made ls
moves_made (end' v ∷ ls) = moves_made ls
moves_made (wrong ∷ ls) = moves_made ls

unfoldable pub holds_made : List Line → List Hold
holds_made [] = []
holds_made (number' q v ∷ ls) = holds_made ls
holds_made (initial' l ∷ ls) = holds_made ls
holds_made (move' m ∷ ls) = holds_made ls
holds_made (hold' x ∷ ls) = x ∷ holds_made ls
holds_made (latch' x ∷ ls) = holds_made ls
holds_made (end' v ∷ ls) = holds_made ls
holds_made (wrong ∷ ls) = holds_made ls

unfoldable pub latches_made : List Line → List Latch
latches_made [] = []
latches_made (number' q v ∷ ls) = latches_made ls
latches_made (initial' l ∷ ls) = latches_made ls
latches_made (move' m ∷ ls) = latches_made ls
latches_made (hold' x ∷ ls) = latches_made ls
latches_made (latch' x ∷ ls) = x ∷ latches_made ls
latches_made (end' v ∷ ls) = latches_made ls
latches_made (wrong ∷ ls) = latches_made ls

-- how many names have a number
abbrev pub counted : Names → ℕ
counted n = min n.count 32

-- "The chart gets limit 1,024."
unfoldable pub drawn_of : List ℕ → Chart
drawn_of s =
    record {
      head = record {
        version = 1;
        steps = counted (reading_of s).known.steps;
        initial = word_items (reading_of s).known.initial;
        inputs = counted (reading_of s).known.inputs;
        outputs = counted (reading_of s).known.outputs;
        limit = 1024;
      };
      body = record { moves = moves_made (lines_made s); holds = holds_made (lines_made s); latches = latches_made (lines_made s) };
    }
