-- What a condition of SFC text says. 02, P4: "conditions with AND, OR, NOT, TRUE, FALSE and brackets".
use Rattle.std.specs.Prelude.{Bool, true, false, not, ◌&&◌, ◌||◌, List, [], ◌∷◌}
use Rattle.tokens.specs.declared.Token.{Token}
use Rattle.grammar.specs.Program.{Expr, true', false', variable, not', brackets, and', or', step, transition, Program}

-- Whether a condition holds, where `value` says of each name whether the variable of that name is on: TRUE always holds and FALSE never, a name holds if its
-- variable is on, NOT turns a value round, AND wants both sides, OR at least one, and brackets only say what belongs together.
unfoldable pub evaluates : (Token → Bool) → Expr → Bool
evaluates value true' = true
evaluates value false' = false
evaluates value (variable t) = value t
evaluates value (not' e) = not (evaluates value e)
evaluates value (brackets e) = evaluates value e
evaluates value (and' e f) = evaluates value e && evaluates value f
evaluates value (or' e f) = evaluates value e || evaluates value f

-- the conditions of a program's transitions, in order
unfoldable pub conditions_of : Program → List Expr
conditions_of [] = []
conditions_of (step initial n actions ∷ p) = conditions_of p
conditions_of (transition before after c ∷ p) = c ∷ conditions_of p

-- two lists of one length go together, place by place
pub data Pairs {A B : Type 0} (R : A → B → Type 0) : List A → List B → Type 0 where
  pairs_nil : Pairs R [] []
  pairs_cons : {x : A} {y : B} {l : List A} {m : List B} → R x y → Pairs R l m → Pairs R (x ∷ l) (y ∷ m)
