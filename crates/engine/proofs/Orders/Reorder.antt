-- "Reordering move, hold or latch lines among their own kind changes none of these answers": on a chart's plan.
use Prim.Native.Nat.{ℕ}
use mathlib.Core.Path.{◌≡◌, ◌∙◌, ap, ap₂}
use mathlib.Core.Bool.{Bool, true, cond, ◌&&◌}
use mathlib.Core.List.{List}
use lib.Bits.{bit_or}
use lib.Dec.{leb}
use Rattle.cond.specs.declared.View.{View}
use Rattle.evolve.specs.Words.{all_in, bit}
use Rattle.evolve.specs.declared.End.{End}
use Rattle.evolve.specs.declared.End.TheVariants.{Rest, Loops, Cut}
use Rattle.evolve.specs.Evolution.{at, latchable, kept}
use Rattle.evolve.specs.Search.{evolve}
use Rattle.evolve.proofs.Lines.Order.{gather_perm, at_same, evolve-same, traced-same, held_same}
use Rattle.engine.specs.declared.State.{State}
use Rattle.engine.specs.declared.Occurrence.{Occurrence}
use Rattle.engine.specs.declared.Answer.{Answer}
use Rattle.engine.specs.Plan.{Plan}
use Rattle.engine.specs.State.{fits, longest_elapsed, ages_accepted, inputs_accepted, state_accepted, event_accepted, zero_state, event_view, start_view}
use Rattle.engine.specs.Laws.{ShuffledPlan}
use Rattle.engine.specs.Answers.{Outcome, refusing, resting, answered, evolved, start_on, event_on}

module _ (p q : Plan) (r : ShuffledPlan p q) where
  -- The answer of an evolution: at rest, at each end, and at its own end

  resting-same : (g : State) (k : ℕ) (u : View) → resting p g k u ≡ resting q g k u
  unfolding resting
  resting-same g k u =
      ap (λ (x : ℕ). record {
        number = 0;
        count = k;
        state =
            record {
              situation = u.moment.situation;
              inputs = u.inputs;
              latched = u.moment.latched;
              ages = kept g.situation u.moment u.ages;
            };
        outputs = bit_or u.moment.latched x;
      }) (held_same p.holds q.holds r.holds u)

  answered-same : (v : View) (g : State) (t : List ℕ) (e : End) → answered p v g t e ≡ answered q v g t e
  unfolding answered
  answered-same v g t (Rest k) =
      ap₂ (λ (a : Answer) (b : List ℕ). record { answer = a; trace = b })
      (resting-same g k (at p.net v k) ∙ ap (resting q g k) (at_same p.net q.net r.net v k))
      (traced-same p.net q.net r.net v k 0 t)
  answered-same v g t (Loops j) = ap (refusing 12 j g) (traced-same p.net q.net r.net v j 0 t)
  answered-same v g t (Cut l) = ap (refusing 13 l g) (traced-same p.net q.net r.net v l 0 t)

  evolved-same : (v : View) (g : State) (t : List ℕ) → evolved p v g t ≡ evolved q v g t
  unfolding evolved
  evolved-same v g t =
      answered-same v g t (evolve p.net v) ∙ ap (answered q v g t) (evolve-same p.net q.net r.net v)

  -- The same inputs, events and states are accepted, and a start begins in the same view

  inputs-same : (i : ℕ) → inputs_accepted p i ≡ inputs_accepted q i
  unfolding inputs_accepted
  inputs-same i = ap (λ (n : ℕ). fits n i) r.inputs

  event-same : (e : Occurrence) → event_accepted p e ≡ event_accepted q e
  unfolding event_accepted
  event-same e = ap (λ (b : Bool). leb e.elapsed longest_elapsed && b) (inputs-same e.inputs)

  latchable-same : latchable p.net.latches ≡ latchable q.net.latches
  unfolding latchable
  latchable-same = gather_perm (λ l. true) (λ l. bit l.output) r.net.latches

  state-same : (s : State) → state_accepted p s ≡ state_accepted q s
  unfolding state_accepted
  state-same s =
      λ j. fits (r.net.steps j) s.situation && fits (r.inputs j) s.inputs && fits (r.outputs j) s.latched && all_in s.latched (latchable-same j)
      && ages_accepted s.situation 0 s.ages

  start-view-same : (i : ℕ) → start_view p i ≡ start_view q i
  unfolding start_view
  start-view-same i = rw r.initial

  -- The two calls give the same

  pub start_shuffled : (i : ℕ) (t : List ℕ) → start_on p i t ≡ start_on q i t
  unfolding start_on
  start_shuffled i t =
      ap₂ (λ (b : Bool) (o : Outcome). cond b o (refusing 11 0 zero_state t)) (inputs-same i)
      (evolved-same (start_view p i) zero_state t ∙ ap (λ (v : View). evolved q v zero_state t) (start-view-same i))

  pub event_shuffled : (s : State) (e : Occurrence) (t : List ℕ) → event_on p s e t ≡ event_on q s e t
  unfolding event_on
  event_shuffled s e t =
      ap₂ (λ (b : Bool) (o : Outcome). cond b o (refusing 10 0 s t)) (state-same s)
      (ap₂ (λ (b : Bool) (o : Outcome). cond b o (refusing 11 0 s t)) (event-same e) (evolved-same (event_view s e) s t))
