-- A way of the code: the same run byte by byte, as a live rig sends them. What it says is fixed by `chain_transcript` (proofs/Promises.antt):
-- whatever results the calls of a run have, what they say is the transcript (Transcript.antt).
use Rattle.std.specs.Prelude.{cond, List, [], ◌∷◌, ◌++◌, ◌≡◌, ℕ, eqb, take, Option, Some, None}
use Rattle.text.specs.Writing.{Fitted}
use Rattle.text.specs.Lines.{line_end}
use Rattle.engine.specs.declared.State.{State}
use Rattle.engine.specs.declared.Answer.{Answer}
use Rattle.rig_log.specs.declared.Entry.{Entry}
use Rattle.rig_log.specs.declared.Entry.TheVariants.{Go, Event}
use Rattle.rig_log.specs.declared.Line.{Line}
use Rattle.rig_log.specs.declared.Run.{Run}
use Rattle.rig_log.specs.declared.Phase.{Phase}
use Rattle.rig_log.specs.declared.Phase.TheVariants.{Waiting, Running, Over}
use Rattle.rig_log.specs.Forms.{bad_line}
use Rattle.rig_log.specs.Entries.{entry_of}
use Rattle.rig_log.specs.Transcript.{block_of, next_line, go_answer, ev_answer}

-- Where a run stands: before its `go`, at line n with the state held, or over; with the bytes of the line so far.
pub data Progress : Type 0 where
  waiting : List ℕ → Progress
  running : ℕ → State → List ℕ → Progress
  over : Progress

-- what is said at a byte, and where the run then stands
pub record Step : Type 0 where
  pub says : List ℕ
  pub next : Progress

-- a byte more of a line; no line of the log has more than 32
abbrev pub grown : List ℕ → ℕ → List ℕ
grown p b = take 32 (p ++ (b ∷ []))

abbrev pub silent : Progress → Step
silent q = record { says = []; next = q }

abbrev pub bad : ℕ → Step
bad n = record { says = bad_line n; next = over }

-- where a run stands after its start was answered
abbrev pub begun : Answer → Progress
begun a = cond (eqb a.number 0) (running 2 a.state []) over

module _ (chart : List ℕ) where
  unfoldable pub go_step : Option Entry → Step
  go_step (Some (Go w)) = record { says = block_of (go_answer chart w); next = begun (go_answer chart w) }
  go_step (Some (Event e w)) = bad 1
  go_step None = bad 1

  unfoldable pub ev_step : ℕ → State → Option Entry → Step
  ev_step n s (Some (Event e w)) = record { says = block_of (ev_answer chart s e w); next = running (next_line n) (ev_answer chart s e w).state [] }
  ev_step n s (Some (Go w)) = bad n
  ev_step n s None = bad n

  unfoldable pub fed : Progress → ℕ → Step
  fed (waiting p) b = cond (eqb b line_end) (go_step (entry_of p)) (silent (waiting (grown p b)))
  fed (running n s p) b = cond (eqb b line_end) (ev_step n s (entry_of p)) (silent (running n s (grown p b)))
  fed over b = silent over

  -- bytes fed one after another: all that is said, and where the run then stands
  unfoldable pub fed_all : Progress → List ℕ → Step
  fed_all q [] = silent q
  fed_all q (b ∷ t) = record { says = (fed q b).says ++ (fed_all (fed q b).next t).says; next = (fed_all (fed q b).next t).next }

-- Where the input ends, a line that is begun is wrong, and a `go` that has not come is missing.
unfoldable pub finished : Progress → List ℕ
finished (waiting p) = bad_line 1
finished (running n s []) = []
finished (running n s (b ∷ p)) = bad_line n
finished over = []

-- The bytes of the code's line: as many of the array's as its length says, and no more than there are.
abbrev pub partial : Line → List ℕ
partial l = take l.length l.bytes

-- The code's run, by its phase and the bytes of its line.
abbrev pub progress : Phase → List ℕ → Progress
progress Waiting p = waiting p
progress (Running n s) p = running n s p
progress Over p = over

abbrev pub progress_of : Run → Progress
progress_of r = progress r.phase (partial r.line)

-- a call that makes a step: the run then stands where the step leads, and what it says stands at the front of the room
pub record Stepped (s : Step) (before after : List ℕ) (run : Run) (r : ℕ) : Type 0 where
  pub next : progress_of run ≡ s.next
  pub says : Fitted 0 s.says before after r
