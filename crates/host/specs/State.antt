-- The state as lent words: situation, inputs, latched, then the thirty ages.
use Rattle.std.specs.Prelude.{List, ◌∷◌, ℕ, get_or, take, drop}
use Rattle.engine.specs.declared.State.{State}
use Rattle.engine.specs.State.{age_count}

-- the state that 33 words stand for
unfoldable pub state_in : List ℕ → State
state_in w = record { situation = get_or w 0 0; inputs = get_or w 1 0; latched = get_or w 2 0; ages = take age_count (drop 3 w) }

-- the words of a state
unfoldable pub words_of : State → List ℕ
words_of s = s.situation ∷ s.inputs ∷ s.latched ∷ s.ages
