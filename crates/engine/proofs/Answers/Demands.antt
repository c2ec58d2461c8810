-- Demand 3 for the two calls, on a chart's plan.
use Prim.Native.Nat.{ℕ, ◌^◌, ◌<◌}
use mathlib.Core.Path.{◌≡◌, refl}
use mathlib.Core.Bool.{true, and-eq-true_iff}
use mathlib.Core.List.{List, [], ◌∷◌, map}
use borrow.Author.Tests.{ltb-true}
use Rattle.cond.specs.declared.View.{View}
use Rattle.cond.specs.declared.Declared.{Declared}
use Rattle.line.specs.Chart.{Chart, Move, Hold, Latch}
use Rattle.line.specs.Rules.{declared_by}
use Rattle.chart.specs.WellFormed.{Every, every_cons, MoveRules, LatchRules, WellFormed}
use Rattle.chart.proofs.Rows.Low.{list-low}
use Rattle.evolve.specs.declared.End.{End}
use Rattle.evolve.specs.declared.End.TheVariants.{Rest, Loops, Cut}
use Rattle.evolve.specs.Net.{move_of, net_of}
use Rattle.evolve.specs.Evolution.{end_number, end_count}
use Rattle.evolve.specs.Search.{evolve}
use Rattle.evolve.specs.Demand.{All, Demand3, StepsDeclared}
use Rattle.evolve.proofs.Promises.{evolve_demand}
use Rattle.engine.specs.declared.State.{State}
use Rattle.engine.specs.declared.Occurrence.{Occurrence}
use Rattle.engine.specs.Plan.{Plan, plan_of}
use Rattle.engine.specs.Laws.{Declares}
use Rattle.engine.specs.State.{inputs_accepted, state_accepted, event_accepted, zero_state, event_view, start_view}
use Rattle.engine.specs.Answers.{refusing, answered, resting, evolved, start_on, event_on}

-- The number and the count of an evolution's answer are those of its end

module _ (p : Plan) (v : View) (g : State) (t : List ℕ) where
  answered-number : (e : End) → (answered p v g t e).answer.number ≡ end_number e
  unfolding answered resting refusing
  answered-number (Rest k) = refl
  answered-number (Loops j) = refl
  answered-number (Cut l) = refl

  evolved-number : (evolved p v g t).answer.number ≡ end_number (evolve p.net v)
  unfolding evolved
  evolved-number = answered-number (evolve p.net v)

  answered_count : (e : End) → (answered p v g t e).answer.count ≡ end_count e
  unfolding answered resting refusing
  answered_count (Rest k) = refl
  answered_count (Loops j) = refl
  answered_count (Cut l) = refl

  evolved_count : (evolved p v g t).answer.count ≡ end_count (evolve p.net v)
  unfolding evolved
  evolved_count = answered_count (evolve p.net v)

-- A well-formed chart's plan names declared items only: the steps after its moves, the outputs of its latches, and the whole

afters : (d : Declared) (ms : List Move) → Every (MoveRules d) ms → All (λ m. m.after < 2 ^ d.steps) (map move_of ms)
afters d [] e = tt
afters d (m ∷ ms) (every_cons r e) = (list-low d.steps r.after, afters d ms e)

latched : (steps outputs : ℕ) (hs : List Hold) (ls : List Latch) → Every (LatchRules steps outputs hs) ls → All (λ l. l.output < outputs) ls
latched steps outputs hs [] e = tt
latched steps outputs hs (l ∷ ls) (every_cons r e) = (r.output, latched steps outputs hs ls e)

pub declares : (c : Chart) → WellFormed c → Declares (plan_of c)
unfolding plan_of net_of
declares c f =
    record {
      after = afters (declared_by c) c.body.moves f.moves;
      initial = list-low c.head.steps f.initial;
      outputs = latched c.head.steps c.head.outputs c.body.holds c.body.latches f.latches;
    }

-- Demand 3, where what an evolution begins in is declared

module _ (p : Plan) (d : Declares p) where
  -- a start begins in the initial steps, an event in the situation of an accepted state

  pub start-begins : (i : ℕ) → StepsDeclared p.net (start_view p i)
  unfolding start_view
  start-begins i = record { after = d.after; situation = d.initial }

  pub event-begins : (s : State) (e : Occurrence) → state_accepted p s ≡ true → StepsDeclared p.net (event_view s e)
  unfolding state_accepted event_view
  event-begins s e h =
      let a = ((and-eq-true_iff _ _).0 h).0 in
      let b = ((and-eq-true_iff _ _).0 a).0 in
      let c = ((and-eq-true_iff _ _).0 b).0 in
      record { after = d.after; situation = ltb-true s.situation (2 ^ p.net.steps) ((and-eq-true_iff _ _).0 c).0 }

  -- then of an evolution's answer, and of the two calls

  evolved_demand : (v : View) (g : State) (t : List ℕ) → StepsDeclared p.net v
      → Demand3 p.net v (evolved p v g t).answer.number (evolved p v g t).answer.count
  evolved_demand v g t b = rw (evolved-number p v g t, evolved_count p v g t) (evolve_demand p.net v b)

  pub start_demand3 : (i : ℕ) (t : List ℕ) → inputs_accepted p i ≡ true
      → Demand3 p.net (start_view p i) (start_on p i t).answer.number (start_on p i t).answer.count
  unfolding start_on
  start_demand3 i t h = rw h (evolved_demand (start_view p i) zero_state t (start-begins i))

  pub event_demand3 : (s : State) (e : Occurrence) (t : List ℕ) → state_accepted p s ≡ true → event_accepted p e ≡ true
      → Demand3 p.net (event_view s e) (event_on p s e t).answer.number (event_on p s e t).answer.count
  unfolding event_on
  event_demand3 s e t h k = rw (h, k) (evolved_demand (event_view s e) s t (event-begins s e h))
