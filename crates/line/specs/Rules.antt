-- The rules of a line, judged against the chart so far. 01, Answer numbers, 2 to 4 and 6 to 9: "lowest number within it".
use Rattle.std.specs.Prelude.{Bool, true, false, cond, not, ◌&&◌, ◌||◌, List, [], ◌∷◌, ◌++◌, ℕ, Option, Some, ◌+◌, eqb, leb, length}
use Rattle.cond.specs.declared.Declared.{Declared}
use Rattle.cond.specs.Lowest.{given, lower}
use Rattle.cond.specs.Judging.{judged}
use Rattle.line.specs.declared.Kind.{Kind}
use Rattle.line.specs.Chart.{Head, Move, Hold, Latch, Chart}
use Rattle.line.specs.Kinds.{HeadNumber, version, steps, inputs, outputs, limit, number_line, number_kind, rank, follows}
use Rattle.line.specs.Write.{Line, number', initial', move', hold', latch', end', wrong, kind, total}

-- The chart so far, and with a line more

-- a head by its numbers and its list: a number more is written here, in `number_of` and in its row of `number_line`
abbrev pub head_by : (HeadNumber → ℕ) → List ℕ → Head
head_by n l = record { version = n version; steps = n steps; initial = l; inputs = n inputs; outputs = n outputs; limit = n limit }

abbrev pub number_of : HeadNumber → Head → ℕ
number_of version h = h.version
number_of steps h = h.steps
number_of inputs h = h.inputs
number_of outputs h = h.outputs
number_of limit h = h.limit

abbrev pub blank : Chart
blank = record { head = head_by (λ q. 0) []; body = record { moves = []; holds = []; latches = [] } }

unfoldable pub with_number : HeadNumber → ℕ → Head → Head
with_number q v h = head_by (λ r. cond (eqb (rank (Some (number_kind r))) (rank (Some (number_kind q)))) v (number_of r h)) h.initial

abbrev pub with_initial : List ℕ → Head → Head
with_initial l h = head_by (λ q. number_of q h) l

abbrev pub with_lines : Chart → List Move → List Hold → List Latch → Chart
with_lines c ms hs xs = record { head = c.head; body = record { moves = ms; holds = hs; latches = xs } }

unfoldable pub extended : Chart → Line → Chart
extended c (number' q v) = record { head = with_number q v c.head; body = c.body }
extended c (initial' l) = record { head = with_initial l c.head; body = c.body }
extended c (move' m) = with_lines c (c.body.moves ++ (m ∷ [])) c.body.holds c.body.latches
extended c (hold' x) = with_lines c c.body.moves (c.body.holds ++ (x ∷ [])) c.body.latches
extended c (latch' x) = with_lines c c.body.moves c.body.holds (c.body.latches ++ (x ∷ []))
extended c (end' v) = c
extended c wrong = c

-- Tests

-- "Lists rise strictly.": each number is at least `low`, and above the one before it
unfoldable pub rising : ℕ → List ℕ → Bool
rising low [] = true
rising low (v ∷ l) = leb low v && rising (v + 1) l

-- some number is not among n declared ones
unfoldable pub beyond : ℕ → List ℕ → Bool
beyond n [] = false
beyond n (v ∷ l) = leb n v || beyond n l

abbrev pub empty : List ℕ → Bool
empty [] = true
empty (v ∷ l) = false

-- some hold has the output
unfoldable pub is_held : ℕ → List Hold → Bool
is_held o [] = false
is_held o (x ∷ xs) = eqb x.output o || is_held o xs

-- what a chart declares to its conditions
abbrev pub declared_by : Chart → Declared
declared_by c = record { steps = c.head.steps; inputs = c.head.inputs }

-- "text at most 16,384 bytes"
abbrev pub longest_text : ℕ
longest_text = 16384

-- "up to 64" lines of a kind
abbrev pub line_bound : ℕ
line_bound = 64

-- 3 "head number (also a `chart=` number but 1) or list rule broken, 65th line of a kind"; 4, 6 and 7 of a condition are cond's `judged`;
-- 6 "undeclared step, input or output"; 8 "latch on an output that has a hold"; 9 "`end` total wrong".
unfoldable pub rules : Chart → Line → ℕ
rules c (number' q v) = given 3 (not (leb (number_line q).from v && leb v (number_line q).to))
rules c (initial' l) = lower (given 3 (empty l || not (rising 0 l))) (given 6 (beyond c.head.steps l))
rules c (move' m) =
    lower (given 3 (leb line_bound (length c.body.moves)))
    (lower (given 3 (not (rising 0 m.before && rising 0 m.after) || (empty m.before && empty m.after)))
    (lower (judged (declared_by c) false m.condition)
    (given 6 (beyond c.head.steps m.before || beyond c.head.steps m.after))))
rules c (hold' x) =
    lower (given 3 (leb line_bound (length c.body.holds)))
    (lower (judged (declared_by c) true x.condition)
    (given 6 (leb c.head.steps x.step || leb c.head.outputs x.output)))
rules c (latch' x) =
    lower (given 3 (leb line_bound (length c.body.latches)))
    (lower (given 6 (leb c.head.steps x.step || leb c.head.outputs x.output))
    (given 8 (is_held x.output c.body.holds)))
rules c (end' v) = given 9 (not (eqb v (total c)))
rules c wrong = 0

-- with 2 "line not of its shape .. or place", after a line of kind k
unfoldable pub fault : Option Kind → Chart → Line → ℕ
fault k c l = lower (given 2 (not (follows k (kind l)))) (rules c l)
