-- The promises of the boundary. What they rest on stands in Inverse.
use Prim.Native.Nat.{ℕ}
use mathlib.Core.Path.{◌≡◌}
use mathlib.Core.List.{List}
use lib.ListN.{length}
use Rattle.engine.specs.declared.State.{State}
use Rattle.engine.specs.State.{age_count}
use Rattle.engine.specs.Texts.{evented}
use Rattle.host.specs.State.{state_in, words_of}
use Rattle.host.specs.Calls.{hosted_event}
use Rattle.host.proofs.Inverse.{state_through_words, words_through_state, state-kept}

-- a state and its 33 words say the same, both ways

pub state-again : (s : State) → length s.ages ≡ age_count → state_in (words_of s) ≡ s
state-again = state_through_words

pub words_again : (w : List ℕ) → length w ≡ 33 → words_of (state_in w) ≡ w
words_again = words_through_state

-- 01: "Every answer but 0 is a refusal": then an event leaves the lent state as it was, whatever the slices' lengths
pub refusal-keeps : (text : List ℕ) (elapsed inputs : ℕ) (state out trace : List ℕ)
    → ((evented text (state_in state) elapsed inputs trace).answer.number ≡ 0 → ⊥) → (hosted_event text elapsed inputs state out trace).state ≡ state
refusal-keeps = state-kept
