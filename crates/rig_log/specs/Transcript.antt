-- The whole run: from a chart's text and the bytes of the input to the bytes of the output. 01, Rig log. What `entry_of` makes of a line is told by
-- `Says` (Forms.antt): see `line_read` (proofs/Promises.antt).
use Rattle.std.specs.Prelude.{Bool, true, false, List, [], ◌++◌, ℕ, ◌+◌, eqb, ltb, Option, Some, None}
use Rattle.text.specs.Lines.{Lines, nothing, unended, line, split}
use Rattle.engine.specs.declared.State.{State}
use Rattle.engine.specs.declared.Answer.{Answer}
use Rattle.engine.specs.Texts.{started, evented}
use Rattle.rig_log.specs.declared.Entry.{Entry}
use Rattle.rig_log.specs.declared.Entry.TheVariants.{Go, Event}
use Rattle.rig_log.specs.Forms.{block, bad_line}
use Rattle.rig_log.specs.Entries.{entry_of}

-- the block of an answer
unfoldable pub block_of : Answer → List ℕ
block_of a = block a.number a.count a.state.situation a.outputs

-- the number of the line after line n; a line number stays at the largest that is written
abbrev pub next_line : ℕ → ℕ
next_line n = line_if (ltb n 18446744073709551615) n
  where
    line_if : Bool → ℕ → ℕ
    line_if true n = n + 1
    line_if false n = n

module _ (chart : List ℕ) where
  -- the answers to a `go` and to an `ev` line; the program lends no trace
  abbrev pub go_answer : ℕ → Answer
  go_answer w = (started chart w []).answer

  abbrev pub ev_answer : State → ℕ → ℕ → Answer
  ev_answer s e w = (evented chart s e w []).answer

  -- "then `ev=E:W` lines": line n, with the state held and what the rest writes from the next state.
  -- "a wrong `ev` line, prints `bad=` with its line number and ends the run"; "Other refusals continue from the state held."
  unfoldable pub ev_line : Option Entry → ℕ → State → (State → List ℕ) → List ℕ
  ev_line (Some (Event e w)) n s rest = block_of (ev_answer s e w) ++ rest (ev_answer s e w).state
  ev_line (Some (Go w)) n s rest = bad_line n
  ev_line None n s rest = bad_line n

  unfoldable pub events : ℕ → State → Lines → List ℕ
  events n s nothing = []
  events n s unended = bad_line n
  events n s (line w x) = ev_line (entry_of w) n s (λ t. events (next_line n) t x)

  -- "A refused start ends it after its block, with no `bad=`."
  unfoldable pub go_on : Bool → List ℕ → List ℕ
  go_on true rest = rest
  go_on false rest = []

  -- "A wrong or missing `go` line .. prints `bad=` with its line number"
  unfoldable pub go_line : Option Entry → (State → List ℕ) → List ℕ
  go_line (Some (Go w)) rest = block_of (go_answer w) ++ go_on (eqb (go_answer w).number 0) (rest (go_answer w).state)
  go_line (Some (Event e w)) rest = bad_line 1
  go_line None rest = bad_line 1

  unfoldable pub from_lines : Lines → List ℕ
  from_lines nothing = bad_line 1
  from_lines unended = bad_line 1
  from_lines (line w x) = go_line (entry_of w) (λ s. events 2 s x)

  unfoldable pub transcript : List ℕ → List ℕ
  transcript input = from_lines (split input)
