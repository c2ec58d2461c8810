-- The answer to a text, and the chart that an accepted text is: one fold over its lines, each judged against the chart so far.
-- 01, Answer numbers: "Answer 1 comes first; then the first faulty line, lowest number within it."
use Rattle.std.specs.Prelude.{Result, Ok, Err, Option, None, cond, ◌&&◌, List, [], ◌++◌, ℕ, zero, suc, ◌+◌, ◌-◌, leb, ltb, length, get_or, take}
use Rattle.text.specs.Lines.{Lines, nothing, unended, line, split}
use Rattle.line.specs.Chart.{Move, Chart}
use Rattle.line.specs.declared.Kind.{Kind}
use Rattle.line.specs.Kinds.{is_end}
use Rattle.line.specs.Write.{move', move_start, kind, head_lines, lines, write_lines}
use Rattle.line.specs.Shape.{shape}
use Rattle.line.specs.Rules.{longest_text, blank, extended, fault}
use Rattle.chart.specs.declared.Refusal.{Refusal}
use Rattle.chart.specs.declared.Refusal.TheVariants.{TooLong, Line}
use Rattle.chart.specs.declared.Verdict.{Verdict}
use Rattle.cond.specs.Faults.{number}

-- accepted with its chart, or refused with a number and a line
pub data Read : Type 0 where
  accepted : Chart → Read
  refused : ℕ → ℕ → Read

-- a fault at line n, or what follows
unfoldable pub onward : ℕ → ℕ → Read → Read
onward zero n r = r
onward (suc a) n r = refused (suc a) n

-- The lines from the n-th on, after a line of kind k and with the chart c so far. "Lines count from 1; a missing line counts at the number it would
-- have"; 2 "no final byte 10, anything after `end`".
unfoldable pub read_from : ℕ → Option Kind → Chart → Lines → Read
read_from n k c nothing = cond (is_end k) (accepted c) (refused 2 n)
read_from n k c unended = refused 2 n
read_from n k c (line w x) = onward (fault k c (shape w)) n (read_from (n + 1) (kind (shape w)) (extended c (shape w)) x)

-- 1 "text over 16,384 bytes", "line 0"
unfoldable pub read_chart : List ℕ → Read
read_chart t = cond (ltb longest_text (length t)) (refused 1 0) (read_from 1 None blank (split t))

-- number and line of what the check returns
abbrev pub shown : Result Unit Refusal → Verdict
shown (Ok u) = record { number = 0; line = 0 }
shown (Err TooLong) = record { number = 1; line = 0 }
shown (Err (Line n f)) = record { number = number f; line = n }

-- the answer of the check: 0 with line 0, or the refusal
abbrev pub verdict_of : Read → Verdict
verdict_of (accepted c) = record { number = 0; line = 0 }
verdict_of (refused a n) = record { number = a; line = n }

unfoldable pub verdict : List ℕ → Verdict
verdict t = verdict_of (read_chart t)

-- The lookup. 01: "given a move's number, counted from 1 among the move lines, returns that very part of the caller's text holding its condition."

-- a part of a text: what comes before it, and its bytes
pub record Found : Type 0 where
  pub before : List ℕ
  pub part : List ℕ

-- "For a refused text, number 0 or one too high it returns the empty part at the text's start."
abbrev pub at_start : Found
at_start = record { before = []; part = [] }

-- the k-th move; past the end of a list stands `no_move`
abbrev pub no_move : Move
no_move = record { before = []; after = []; condition = [] }

abbrev pub nth_move : Chart → ℕ → Move
nth_move c k = get_or c.body.moves (k - 1) no_move

-- before its condition come the head, the k - 1 move lines before it, and its own line up to the first colon
abbrev pub before_move : Chart → ℕ → List ℕ
before_move c k = write_lines (head_lines c.head (lines move' (take (k - 1) c.body.moves) [])) ++ move_start (nth_move c k)

unfoldable pub found_in : Read → ℕ → Found
found_in (accepted c) k =
    cond (leb 1 k && leb k (length c.body.moves)) (record { before = before_move c k; part = (nth_move c k).condition }) at_start
found_in (refused a n) k = at_start

unfoldable pub looked_up : List ℕ → ℕ → Found
looked_up t k = found_in (read_chart t) k
