-- The state and its 33 words say the same, and a refused event leaves the words as they were.
use Prim.Native.Nat.{ℕ}
use mathlib.Core.Path.{◌≡◌, refl, sym, ap, ◌∙◌}
use mathlib.Core.Bool.{Bool, true, false, and-eq-true_iff}
use mathlib.Core.List.{List, [], ◌∷◌}
use native.Mathlib.Omega.{arith}
use borrow.Author.Tests.{eqb-true}
use lib.ListN.{length}
use lib.Seq.{take_all}
use Rattle.engine.specs.declared.State.{State}
use Rattle.engine.specs.Answers.{Outcome}
use Rattle.engine.specs.Texts.{evented}
use Rattle.engine.proofs.Promises.{event-refusal}
use Rattle.host.specs.State.{state_in, words_of}
use Rattle.host.specs.Calls.{hosted_if, lengths_fit, hosted_event}

pub state_through_words : (s : State) → length s.ages ≡ 30 → state_in (words_of s) ≡ s
unfolding state_in words_of
state_through_words s e = let a = take_all 30 s.ages (omega arith) in λ t. record { situation = s.situation; inputs = s.inputs; latched = s.latched; ages = a t }

pub words_through_state : (w : List ℕ) → length w ≡ 33 → words_of (state_in w) ≡ w
unfolding state_in words_of
words_through_state [] e = absurd (omega arith)
words_through_state (a ∷ []) e = absurd (omega arith)
words_through_state (a ∷ b ∷ []) e = absurd (omega arith)
words_through_state (a ∷ b ∷ c ∷ l) e = ap (λ (x : List ℕ). a ∷ b ∷ c ∷ x) (take_all 30 l (omega arith))

pub state-kept : (text : List ℕ) (elapsed inputs : ℕ) (state out trace : List ℕ)
    → ((evented text (state_in state) elapsed inputs trace).answer.number ≡ 0 → ⊥) → (hosted_event text elapsed inputs state out trace).state ≡ state
unfolding hosted_event hosted_if
state-kept text elapsed inputs state out trace h = go (lengths_fit state out) refl
  where
    o : Outcome
    o = evented text (state_in state) elapsed inputs trace

    go : (b : Bool) → b ≡ lengths_fit state out → (hosted_if b o state out trace).state ≡ state
    go false q = refl
    go true q =
        ap words_of ((event-refusal text (state_in state) elapsed inputs trace).state h)
        ∙ words_through_state state (eqb-true _ _ ((and-eq-true_iff _ _).0 (sym q)).0)
