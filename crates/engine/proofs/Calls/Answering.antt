-- What the branches of a call return is what the definition says.
use Prim.Native.Nat.{ℕ}
use mathlib.Core.Path.{◌≡◌, refl, sym, ap, ◌∙◌, subst}
use mathlib.Core.List.{List}
use mathlib.Core.Bool.{true, false}
use Rattle.cond.specs.declared.View.{View}
use Rattle.evolve.specs.declared.End.{End}
use Rattle.evolve.specs.declared.End.TheVariants.{Rest, Loops, Cut}
use Rattle.evolve.specs.Evolution.{traced, end_count}
use Rattle.evolve.specs.Search.{evolve, left_off}
use Rattle.engine.specs.declared.State.{State}
use Rattle.engine.specs.declared.Occurrence.{Occurrence}
use Rattle.engine.specs.declared.Answer.{Answer}
use Rattle.engine.specs.Plan.{Plan}
use Rattle.engine.specs.State.{inputs_accepted, state_accepted, event_accepted, zero_state, event_view, start_view}
use Rattle.engine.specs.Answers.{Outcome, Gives, refusal, refusing, answered, evolved, start_on, event_on}
use Rattle.engine.specs.Parts.{answer_in}

-- two results that meet one contract are equal
pub gives_one : (o : Outcome) (a b : Answer) (u v : List ℕ) → Gives o a u → Gives o b v → (a ≡ b) × (u ≡ v)
gives_one o a b u v p q = (p.0 ∙ sym q.0, p.1 ∙ sym q.1)

pub gives_of : (o x : Outcome) (r : Answer) (u : List ℕ) → o ≡ x → Gives x r u → Gives o r u
gives_of o x r u e h = (h.0 ∙ ap (λ (y : Outcome). y.answer) (sym e), h.1 ∙ ap (λ (y : Outcome). y.trace) (sym e))

-- an evolution from v: how it ends, the view in which it left off, the trace of its firings, and the answer to its end
module _ (p : Plan) (v : View) (g : State) (t : List ℕ) where
  ended-trace : (e : End) → (answered p v g t e).trace ≡ traced p.net v (end_count e) 0 t
  unfolding answered refusing
  ended-trace (Rest k) = refl
  ended-trace (Loops j) = refl
  ended-trace (Cut l) = refl

  -- the answer where it left off
  ended-answer : (e : End) → answer_in p (left_off p.net v e) g e ≡ (answered p v g t e).answer
  unfolding answer_in answered refusing left_off
  ended-answer (Rest k) = refl
  ended-answer (Loops j) = refl
  ended-answer (Cut l) = refl

  pub evolved-gives : (e : End) (u : View) (r : Answer) (w : List ℕ) → e ≡ evolve p.net v → u ≡ left_off p.net v e
      → w ≡ traced p.net v (end_count e) 0 t → r ≡ answer_in p u g e → Gives (evolved p v g t) r w
  unfolding evolved
  evolved-gives e u r w is left wrote h = (
    h ∙ ap (λ (x : View). answer_in p x g e) left ∙ ended-answer e ∙ ap (λ (x : End). (answered p v g t x).answer) is,
    wrote ∙ sym (ended-trace e) ∙ ap (λ (x : End). (answered p v g t x).trace) is,
  )

-- a start
module _ (p : Plan) (i : ℕ) (t : List ℕ) where
  pub start-refused : (r : Answer) (s : State) → inputs_accepted p i ≡ false → s ≡ zero_state → r ≡ refusal 11 0 s → Gives (start_on p i t) r t
  unfolding start_on refusing
  start-refused r s h z e = gives_of _ (refusing 11 0 zero_state t) r t (rw h) (e ∙ ap (refusal 11 0) z, refl)

  pub start-evolved : (r : Answer) (u : List ℕ) (v : View) (s : State) → inputs_accepted p i ≡ true → v ≡ start_view p i → s ≡ zero_state
      → Gives (evolved p v s t) r u → Gives (start_on p i t) r u
  unfolding start_on
  start-evolved r u v s h q z e =
      gives_of _ (evolved p (start_view p i) zero_state t) r u (rw h) (subst (λ (x : State). Gives (evolved p (start_view p i) x t) r u) z
      (subst (λ (x : View). Gives (evolved p x s t) r u) q e))

-- an event
module _ (p : Plan) (s : State) (e : Occurrence) (t : List ℕ) where
  pub state-refused : (r : Answer) → state_accepted p s ≡ false → r ≡ refusal 10 0 s → Gives (event_on p s e t) r t
  unfolding event_on refusing
  state-refused r h q = gives_of _ (refusing 10 0 s t) r t (rw h) (q, refl)

  pub event-refused : (r : Answer) → state_accepted p s ≡ true → event_accepted p e ≡ false → r ≡ refusal 11 0 s → Gives (event_on p s e t) r t
  unfolding event_on refusing
  event-refused r h k q = gives_of _ (refusing 11 0 s t) r t (rw (h, k)) (q, refl)

  pub event-evolved : (r : Answer) (u : List ℕ) (v : View) → state_accepted p s ≡ true → event_accepted p e ≡ true → v ≡ event_view s e
      → Gives (evolved p v s t) r u → Gives (event_on p s e t) r u
  unfolding event_on
  event-evolved r u v h k q x =
      gives_of _ (evolved p (event_view s e) s t) r u (rw (h, k)) (subst (λ (y : View). Gives (evolved p y s t) r u) q x)
