-- No output of a passed situation shows.
use Prim.Native.Nat.{ℕ}
use mathlib.Core.Path.{◌≡◌, refl, ◌∙◌, ap}
use mathlib.Core.Bool.{Bool, true, false, cond, ◌||◌}
use mathlib.Core.List.{List}
use native.Mathlib.Omega.{arith}
use Rattle.text.specs.Words.{has}
use Rattle.text.proofs.Items.{has_or}
use Rattle.cond.specs.declared.View.{View}
use Rattle.evolve.specs.declared.End.{End}
use Rattle.evolve.specs.declared.End.TheVariants.{Rest, Loops, Cut}
use Rattle.evolve.specs.Evolution.{at, held_outputs}
use Rattle.evolve.specs.Search.{evolve}
use Rattle.evolve.proofs.Ending.Demands.{rest_stable}
use Rattle.evolve.proofs.Lines.Shown.{held_shows}
use Rattle.engine.specs.declared.State.{State}
use Rattle.engine.specs.declared.Occurrence.{Occurrence}
use Rattle.engine.specs.Plan.{Plan}
use Rattle.engine.specs.State.{inputs_accepted, state_accepted, event_accepted, zero_state, event_view, start_view}
use Rattle.engine.specs.Answers.{Outcome, refusing, resting, answered, evolved, start_on, event_on}
use Rattle.engine.specs.Outputs.{FinalOnly}

module _ (p : Plan) (v : View) (g : State) (t : List ℕ) where
  -- an answer 0 shows what is latched and held in the view in which the evolution rests
  answered-final : (e : End) → evolve p.net v ≡ e → (answered p v g t e).answer.number ≡ 0 → FinalOnly p v (answered p v g t e).answer
  unfolding answered resting refusing
  answered-final (Rest k) q h =
      let u : View = at p.net v k in
      let w : ℕ = u.moment.latched in
      record {
        rests = rest_stable p.net v k q;
        final = refl;
        latched = refl;
        word = refl;
        output = λ o. has_or w (held_outputs p.holds u) o ∙ ap (λ (b : Bool). has w o || b) (held_shows p.holds u o);
      }
  answered-final (Loops j) q h = absurd (omega arith)
  answered-final (Cut l) q h = absurd (omega arith)

  evolved-final : (evolved p v g t).answer.number ≡ 0 → FinalOnly p v (evolved p v g t).answer
  unfolding evolved
  evolved-final h = answered-final (evolve p.net v) refl h

-- so the two calls, which answer 0 by an evolution only

pub start-final : (p : Plan) (i : ℕ) (t : List ℕ) → (start_on p i t).answer.number ≡ 0 → FinalOnly p (start_view p i) (start_on p i t).answer
unfolding start_on refusing
start-final p i t = go (inputs_accepted p i)
  where
    o : Outcome
    o = evolved p (start_view p i) zero_state t

    go : (b : Bool) → (cond b o (refusing 11 0 zero_state t)).answer.number ≡ 0 → FinalOnly p (start_view p i) (cond b o (refusing 11 0 zero_state t)).answer
    go true h = evolved-final p (start_view p i) zero_state t h
    go false h = absurd (omega arith)

pub event-final : (p : Plan) (s : State) (e : Occurrence) (t : List ℕ) → (event_on p s e t).answer.number ≡ 0 → FinalOnly p (event_view s e) (event_on p s e t).answer
unfolding event_on refusing
event-final p s e t = go (state_accepted p s) (event_accepted p e)
  where
    o : Outcome
    o = evolved p (event_view s e) s t

    go : (a b : Bool) → (cond a (cond b o (refusing 11 0 s t)) (refusing 10 0 s t)).answer.number ≡ 0
        → FinalOnly p (event_view s e) (cond a (cond b o (refusing 11 0 s t)) (refusing 10 0 s t)).answer
    go true true h = evolved-final p (event_view s e) s t h
    go true false h = absurd (omega arith)
    go false b h = absurd (omega arith)
