-- The promises of the two calls on chart texts. What they rest on stands in Calls, Answers, Orders, Accepts and Worked.
use Prim.Native.Nat.{ℕ}
use mathlib.Core.Bool.{true}
use mathlib.Core.List.{List}
use mathlib.Core.Path.{◌≡◌, sym, ◌∙◌}
use lib.Dec.{T}
use Rattle.text.specs.Lines.{split}
use Rattle.line.specs.Chart.{Chart}
use Rattle.chart.specs.Reading.{accepted, read_chart}
use Rattle.chart.specs.Reordered.{Reordered, Rearranged}
use Rattle.chart.proofs.Promises.{accepted-only, reordered_accepted}
use Rattle.evolve.specs.Demand.{Demand3}
use Rattle.evolve.specs.Trace.{Wrote}
use Rattle.engine.specs.declared.State.{State}
use Rattle.engine.specs.declared.Answer.{Answer}
use Rattle.engine.specs.Plan.{plan_of}
use Rattle.engine.specs.State.{inputs_accepted, state_accepted, event_accepted, zero_state, start_view, event_view}
use Rattle.engine.specs.Answers.{Gives}
use Rattle.engine.specs.Texts.{started, evented}
use Rattle.engine.specs.Outputs.{FinalOnly}
use Rattle.engine.specs.Refusals.{start_numbers, event_numbers, Refusal, StartInTurn, EventInTurn}
use Rattle.engine.specs.Cases.{all_right, small_charts}
use Rattle.engine.proofs.Calls.Answering.{gives_one}
use Rattle.engine.proofs.Calls.Texts.{start_is, event-is}
use Rattle.engine.proofs.Answers.Demands.{declares, start_demand3, event_demand3}
use Rattle.engine.proofs.Answers.Outputs.{start-final, event-final}
use Rattle.engine.proofs.Answers.Refusals.{start_refuses, event_refuses, start_turn, event_turn, start_no_5, event_no_5}
use Rattle.engine.proofs.Answers.Traces.{start_writes, event_writes, start_any, event_any}
use Rattle.engine.proofs.Orders.Reorder.{start_shuffled, event_shuffled}
use Rattle.engine.proofs.Orders.Rearranging.{shuffled}
use Rattle.engine.proofs.Accepts.GoesOn.{start_goes, event_goes}
use Rattle.engine.proofs.Worked.{worked}

-- Demand 1: "Each refusal has a number .., gives back the state it was given (start gives the zero state), shows all outputs off, and leaves the trace
-- as 01 .. says."

pub start-refusal : (text : List ℕ) (i : ℕ) (t : List ℕ) → Refusal text start_numbers zero_state t (started text i t)
start-refusal = start_refuses

pub event-refusal : (text : List ℕ) (s : State) (elapsed i : ℕ) (t : List ℕ) → Refusal text event_numbers s t (evented text s elapsed i t)
event-refusal = event_refuses

-- 02, P5: "Number 5 isn't used again"

pub start-never_5 : (text : List ℕ) (i : ℕ) (t : List ℕ) → (started text i t).answer.number ≡ 5 → ⊥
start-never_5 text i t = start_no_5 _ (start-refusal text i t).number

pub event-never_5 : (text : List ℕ) (s : State) (elapsed i : ℕ) (t : List ℕ) → (evented text s elapsed i t).answer.number ≡ 5 → ⊥
event-never_5 text s elapsed i t = event_no_5 _ (event-refusal text s elapsed i t).number

-- The answer does not depend on the lent trace, neither on its words nor on its length

pub start_any_trace : (text : List ℕ) (i : ℕ) (t u : List ℕ) → (started text i t).answer ≡ (started text i u).answer
start_any_trace = start_any

pub event_any_trace : (text : List ℕ) (s : State) (elapsed i : ℕ) (t u : List ℕ) → (evented text s elapsed i t).answer ≡ (evented text s elapsed i u).answer
event_any_trace = event_any

-- Of a call on an accepted text

module _ (text : List ℕ) (c : Chart) (is : read_chart text ≡ accepted c) where
  -- 01, Answer numbers: "then 10, 11, 12 or 13"

  pub start_in_turn : (i : ℕ) (t : List ℕ) → StartInTurn (plan_of c) i (started text i t).answer.number
  start_in_turn i t = rw (start_is text c is i t) (start_turn (plan_of c) i t)

  pub event_in_turn : (s : State) (elapsed i : ℕ) (t : List ℕ)
      → EventInTurn (plan_of c) s (record { elapsed = elapsed; inputs = i }) (evented text s elapsed i t).answer.number
  event_in_turn s elapsed i t = rw (event-is text c is s elapsed i t) (event_turn (plan_of c) s (record { elapsed = elapsed; inputs = i }) t)

  -- "Answers 0, 12 and 13 write situations s1, s2, ... up to the reported count or the slice's length, whichever is less"

  pub start_wrote : (i : ℕ) (t : List ℕ) → inputs_accepted (plan_of c) i ≡ true
      → Wrote (plan_of c).net (start_view (plan_of c) i) (started text i t).answer.count t (started text i t).trace
  start_wrote i t h = rw (start_is text c is i t) (start_writes (plan_of c) i t h)

  pub event_wrote : (s : State) (elapsed i : ℕ) (t : List ℕ) → state_accepted (plan_of c) s ≡ true
      → event_accepted (plan_of c) (record { elapsed = elapsed; inputs = i }) ≡ true
      → Wrote (plan_of c).net (event_view s (record { elapsed = elapsed; inputs = i })) (evented text s elapsed i t).answer.count t
      (evented text s elapsed i t).trace
  event_wrote s elapsed i t h k = rw (event-is text c is s elapsed i t) (event_writes (plan_of c) s (record { elapsed = elapsed; inputs = i }) t h k)

  -- Demand 3: "For an accepted chart of n steps, with state and event (or start inputs) accepted"

  pub start_demand : (i : ℕ) (t : List ℕ) → inputs_accepted (plan_of c) i ≡ true
      → Demand3 (plan_of c).net (start_view (plan_of c) i) (started text i t).answer.number (started text i t).answer.count
  start_demand i t h = rw (start_is text c is i t) (start_demand3 (plan_of c) (declares c (accepted-only text c is).0) i t h)

  pub event_demand : (s : State) (elapsed i : ℕ) (t : List ℕ) → state_accepted (plan_of c) s ≡ true
      → event_accepted (plan_of c) (record { elapsed = elapsed; inputs = i }) ≡ true
      → Demand3 (plan_of c).net (event_view s (record { elapsed = elapsed; inputs = i })) (evented text s elapsed i t).answer.number
      (evented text s elapsed i t).answer.count
  event_demand s elapsed i t h k =
      let d = declares c (accepted-only text c is).0 in
      rw (event-is text c is s elapsed i t) (event_demand3 (plan_of c) d s (record { elapsed = elapsed; inputs = i }) t h k)

  -- 01, Evolution 8: "Passed situations show no hold."

  pub start-shows : (i : ℕ) (t : List ℕ) → (started text i t).answer.number ≡ 0 → FinalOnly (plan_of c) (start_view (plan_of c) i) (started text i t).answer
  start-shows i t = rw (start_is text c is i t) (start-final (plan_of c) i t)

  pub event-shows : (s : State) (elapsed i : ℕ) (t : List ℕ) → (evented text s elapsed i t).answer.number ≡ 0
      → FinalOnly (plan_of c) (event_view s (record { elapsed = elapsed; inputs = i })) (evented text s elapsed i t).answer
  event-shows s elapsed i t = rw (event-is text c is s elapsed i t) (event-final (plan_of c) s (record { elapsed = elapsed; inputs = i }) t)

  -- A run goes on: the state of an answer 0 is one that the chart's next event accepts

  pub start-accepted : (i : ℕ) (t : List ℕ) → (started text i t).answer.number ≡ 0 → state_accepted (plan_of c) (started text i t).answer.state ≡ true
  start-accepted i t = rw (start_is text c is i t) (start_goes (plan_of c) (declares c (accepted-only text c is).0) i t)

  pub event-accepted : (s : State) (elapsed i : ℕ) (t : List ℕ) → (evented text s elapsed i t).answer.number ≡ 0
      → state_accepted (plan_of c) (evented text s elapsed i t).answer.state ≡ true
  event-accepted s elapsed i t =
      let d = declares c (accepted-only text c is).0 in
      rw (event-is text c is s elapsed i t) (event_goes (plan_of c) d s (record { elapsed = elapsed; inputs = i }) t)

-- Demand 3: "Reordering move, hold or latch lines among their own kind changes none of these answers": number, count, state, outputs and trace.

-- two accepted texts whose charts differ only in the order of lines
module _ (s t : List ℕ) (c d : Chart) (p : read_chart s ≡ accepted c) (q : read_chart t ≡ accepted d) (r : Rearranged c d) where
  pub start_rearranged : (i : ℕ) (trace : List ℕ) → started s i trace ≡ started t i trace
  start_rearranged i trace = start_is s c p i trace ∙ start_shuffled (plan_of c) (plan_of d) (shuffled c d r) i trace ∙ sym (start_is t d q i trace)

  pub event_rearranged : (g : State) (elapsed i : ℕ) (trace : List ℕ) → evented s g elapsed i trace ≡ evented t g elapsed i trace
  event_rearranged g elapsed i trace =
      event-is s c p g elapsed i trace ∙ event_shuffled (plan_of c) (plan_of d) (shuffled c d r) g (record { elapsed = elapsed; inputs = i }) trace
      ∙ sym (event-is t d q g elapsed i trace)

-- On the lines of two texts, of which the first is accepted. Nothing is supposed of the second: `reordered_accepted` (chart/proofs/Promises.antt) says that it is
-- accepted too.
module _ (s t : List ℕ) (c : Chart) (p : read_chart s ≡ accepted c) (r : Reordered (split s) (split t)) where
  pub start_reordered : (i : ℕ) (trace : List ℕ) → started s i trace ≡ started t i trace
  start_reordered = let o = reordered_accepted s t c p r in start_rearranged s t c o.0 p o.1 o.2

  pub event_reordered : (g : State) (elapsed i : ℕ) (trace : List ℕ) → evented s g elapsed i trace ≡ evented t g elapsed i trace
  event_reordered = let o = reordered_accepted s t c p r in event_rearranged s t c o.0 p o.1 o.2

-- 01: "uniqueness is proved": two results that meet a call's contract on the same inputs are equal

pub start_unique : (text : List ℕ) (i : ℕ) (t : List ℕ) (a b : Answer) (u v : List ℕ) → Gives (started text i t) a u → Gives (started text i t) b v
    → (a ≡ b) × (u ≡ v)
start_unique text i t = gives_one (started text i t)

pub event_unique : (text : List ℕ) (s : State) (elapsed i : ℕ) (t : List ℕ) (a b : Answer) (u v : List ℕ) → Gives (evented text s elapsed i t) a u
    → Gives (evented text s elapsed i t) b v → (a ≡ b) × (u ≡ v)
event_unique text s elapsed i t = gives_one (evented text s elapsed i t)

-- 01, Small charts, A to L: "proved over the definitions as one table with a single theorem"
pub cases : T (all_right small_charts)
cases = worked
