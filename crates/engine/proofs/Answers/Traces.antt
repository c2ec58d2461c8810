-- The lent trace: what it holds afterwards, and that no answer depends on it.
use Prim.Native.Nat.{ℕ}
use mathlib.Core.Bool.{Bool, true, false, cond}
use mathlib.Core.List.{List}
use mathlib.Core.Path.{◌≡◌, refl}
use Rattle.cond.specs.declared.View.{View}
use Rattle.chart.specs.Reading.{Read, accepted, refused, read_chart}
use Rattle.evolve.specs.declared.End.{End}
use Rattle.evolve.specs.declared.End.TheVariants.{Rest, Loops, Cut}
use Rattle.evolve.specs.Search.{evolve}
use Rattle.evolve.specs.Trace.{Wrote}
use Rattle.evolve.proofs.Sequence.Wrote.{traced_wrote}
use Rattle.engine.specs.declared.State.{State}
use Rattle.engine.specs.declared.Occurrence.{Occurrence}
use Rattle.engine.specs.Plan.{Plan, plan_of}
use Rattle.engine.specs.State.{inputs_accepted, state_accepted, event_accepted, zero_state, start_view, event_view}
use Rattle.engine.specs.Answers.{refusing, resting, answered, evolved, start_on, event_on}
use Rattle.engine.specs.Texts.{start_read, event_read, started, evented}

-- The trace of an evolution's answer holds its situations up to the reported count, and is as it was after that

module _ (p : Plan) where
  answered_wrote : (v : View) (g : State) (t : List ℕ) (e : End) → Wrote p.net v (answered p v g t e).answer.count t (answered p v g t e).trace
  unfolding answered resting refusing
  answered_wrote v g t (Rest k) = traced_wrote p.net v k t
  answered_wrote v g t (Loops j) = traced_wrote p.net v j t
  answered_wrote v g t (Cut l) = traced_wrote p.net v l t

  evolved_wrote : (v : View) (g : State) (t : List ℕ) → Wrote p.net v (evolved p v g t).answer.count t (evolved p v g t).trace
  unfolding evolved
  evolved_wrote v g t = answered_wrote v g t (evolve p.net v)

  pub start_writes : (i : ℕ) (t : List ℕ) → inputs_accepted p i ≡ true → Wrote p.net (start_view p i) (start_on p i t).answer.count t (start_on p i t).trace
  unfolding start_on
  start_writes i t h = rw h (evolved_wrote (start_view p i) zero_state t)

  pub event_writes : (s : State) (e : Occurrence) (t : List ℕ) → state_accepted p s ≡ true → event_accepted p e ≡ true
      → Wrote p.net (event_view s e) (event_on p s e t).answer.count t (event_on p s e t).trace
  unfolding event_on
  event_writes s e t h k = rw (h, k) (evolved_wrote (event_view s e) s t)

-- Two calls that differ in the lent trace only have one answer

module _ (t u : List ℕ) where
  -- an evolution

  answered_any : (p : Plan) (v : View) (g : State) (e : End) → (answered p v g t e).answer ≡ (answered p v g u e).answer
  unfolding answered refusing
  answered_any p v g (Rest k) = refl
  answered_any p v g (Loops j) = refl
  answered_any p v g (Cut l) = refl

  evolved_any : (p : Plan) (v : View) (g : State) → (evolved p v g t).answer ≡ (evolved p v g u).answer
  unfolding evolved
  evolved_any p v g = answered_any p v g (evolve p.net v)

  -- a call by what is read of its text

  start_by : (r : Read) (i : ℕ) → (start_read r i t).answer ≡ (start_read r i u).answer
  unfolding start_read start_on refusing
  start_by (accepted c) i = go (inputs_accepted (plan_of c) i)
    where
      v : View
      v = start_view (plan_of c) i

      go : (b : Bool) → (cond b (evolved (plan_of c) v zero_state t) (refusing 11 0 zero_state t)).answer
          ≡ (cond b (evolved (plan_of c) v zero_state u) (refusing 11 0 zero_state u)).answer
      go true = evolved_any (plan_of c) v zero_state
      go false = refl
  start_by (refused n l) i = refl

  event_by : (r : Read) (s : State) (e : Occurrence) → (event_read r s e t).answer ≡ (event_read r s e u).answer
  unfolding event_read event_on refusing
  event_by (accepted c) s e = go (state_accepted (plan_of c) s) (event_accepted (plan_of c) e)
    where
      v : View
      v = event_view s e

      go : (a b : Bool) → (cond a (cond b (evolved (plan_of c) v s t) (refusing 11 0 s t)) (refusing 10 0 s t)).answer
          ≡ (cond a (cond b (evolved (plan_of c) v s u) (refusing 11 0 s u)) (refusing 10 0 s u)).answer
      go true true = evolved_any (plan_of c) v s
      go true false = refl
      go false b = refl
  event_by (refused n l) s e = refl

-- the two calls on a text

pub start_any : (text : List ℕ) (i : ℕ) (t u : List ℕ) → (started text i t).answer ≡ (started text i u).answer
unfolding started
start_any text i t u = start_by t u (read_chart text) i

pub event_any : (text : List ℕ) (s : State) (elapsed i : ℕ) (t u : List ℕ) → (evented text s elapsed i t).answer ≡ (evented text s elapsed i u).answer
unfolding evented
event_any text s elapsed i t u = event_by t u (read_chart text) s (record { elapsed = elapsed; inputs = i })
