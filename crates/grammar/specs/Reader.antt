-- How a program is read: by recursion on the grammar, a token ahead.
use Rattle.std.specs.Prelude.{Bool, true, false, cond, not, ◌&&◌, List, [], ◌∷◌, ℕ, zero, suc, ◌+◌, ◌*◌, length, Option, Some, None}
use Rattle.tokens.specs.declared.Kind.{Kind}
use Rattle.tokens.specs.declared.Token.{Token}
use Rattle.tokens.specs.Tokens.{tokens}
use Rattle.naming.specs.declared.Qualifier.{Qualifier}
use Rattle.naming.specs.Names.{qualifier}
use Rattle.grammar.specs.Program.{Action, Expr, true', false', variable, not', brackets, and', or', Item, step, Program}
use Rattle.grammar.specs.Program as program
use Rattle.tokens.specs.declared.Kind.TheVariants.{InitialStep, Step, EndStep, Transition, From, To, EndTransition, And, Or, Not, True, False, Name, Assign, Colon, Semicolon, Open, Close, Comma, End}
use Rattle.tokens.specs.Kinds.{same_kind}

-- a part that was read, with the tokens after it, or none
pub data Got (A : Type 0) : Type 0 where
  got : A → List Token → Got A
  none : Got A

-- what is read where a test passes, and nothing where it fails
unfoldable pub only_if : {A : Type 0} → Bool → Got A → Got A
only_if true o = o
only_if false o = none

-- what is read after a token of a kind
unfoldable pub after_kind : {A : Type 0} → Kind → List Token → (List Token → Got A) → Got A
after_kind k [] f = none
after_kind k (t ∷ us) f = only_if (same_kind t.kind k) (f us)

-- what is read after a name, which is handed on
unfoldable pub after_name : {A : Type 0} → List Token → (Token → List Token → Got A) → Got A
after_name [] f = none
after_name (t ∷ us) f = only_if (same_kind t.kind Name) (f t us)

-- what is read, changed, and then what is read after it
unfoldable pub then : {A B : Type 0} → Got A → (A → List Token → Got B) → Got B
then (got x us) f = f x us
then none f = none

-- Conditions

unfoldable pub joined_by : (Expr → Expr → Expr) → Expr → Got Expr → Got Expr
joined_by j e (got f us) = got (j e f) us
joined_by j e none = none

-- after a part: where the joining word stands there, what f reads after it, joined to the part
unfoldable pub more_after : (Expr → Expr → Expr) → Kind → (List Token → Got Expr) → Expr → List Token → Got Expr
more_after j k f e [] = got e []
more_after j k f e (t ∷ us) = cond (same_kind t.kind k) (joined_by j e (f us)) (got e (t ∷ us))

unfoldable pub operand_by : (List Token → Got Expr) → Token → List Token → Got Expr
operand_by f t us =
    cond (same_kind t.kind True) (got true' us)
    (cond (same_kind t.kind False) (got false' us)
    (cond (same_kind t.kind Name) (got (variable t) us)
    (only_if (same_kind t.kind Open) (then (f us) (λ e vs. after_kind Close vs (λ ws. got (brackets e) ws))))))

unfoldable pub operand_in : (List Token → Got Expr) → List Token → Got Expr
operand_in f [] = none
operand_in f (t ∷ us) = operand_by f t us

unfoldable pub factor_in : (List Token → Got Expr) → List Token → Got Expr
factor_in f [] = none
factor_in f (t ∷ us) = cond (same_kind t.kind Not) (then (operand_in f us) (λ e vs. got (not' e) vs)) (operand_by f t us)

-- the readers of terms and conditions, with fuel
unfoldable mutual
  pub term_in : ℕ → List Token → Got Expr
  term_in zero us = none
  term_in (suc n) us = then (factor_in (λ vs. cond_in n vs) us) (λ e vs. more_after and' And (λ ws. term_in n ws) e vs)

  pub cond_in : ℕ → List Token → Got Expr
  cond_in zero us = none
  cond_in (suc n) us = then (term_in n us) (λ e vs. more_after or' Or (λ ws. cond_in n ws) e vs)

-- each reader goes down at most two levels for a token
abbrev pub cond_of : List Token → Got Expr
cond_of us = cond_in (2 * length us + 2) us

-- Lists of steps

unfoldable pub others_of : List Token → Got (List Token)
others_of [] = none
others_of (t ∷ []) = none
others_of (t ∷ c ∷ us) =
    only_if (same_kind t.kind Name)
    (cond (same_kind c.kind Comma) (then (others_of us) (λ ns vs. got (t ∷ ns) vs)) (only_if (same_kind c.kind Close) (got (t ∷ []) us)))

unfoldable pub steps_of : List Token → Got (List Token)
steps_of [] = none
steps_of (t ∷ us) =
    cond (same_kind t.kind Name) (got (t ∷ []) us)
    (only_if (same_kind t.kind Open) (after_name us (λ n vs. after_kind Comma vs (λ ws. then (others_of ws) (λ ns xs. got (n ∷ ns) xs)))))

-- Steps and transitions

-- the qualifier that a token is, if it is one
unfoldable pub qualifier_by : Option Qualifier → Got Qualifier
qualifier_by None = none
qualifier_by (Some q) = got q []

module _ (s : List ℕ) where
  -- of the five tokens of an action
  unfoldable pub action_of : Token → Token → Token → Token → Token → Got Action
  action_of v o w c z =
      only_if ((same_kind v.kind Name && same_kind o.kind Open) && (same_kind w.kind Name && (same_kind c.kind Close && same_kind z.kind Semicolon)))
      (then (qualifier_by (qualifier s w)) (λ q _. got (record { variable = v; qualifier = q }) []))

  -- actions as long as names stand there
  unfoldable pub actions_of : List Token → Got (List Action)
  actions_of [] = got [] []
  actions_of (v ∷ []) = only_if (not (same_kind v.kind Name)) (got [] (v ∷ []))
  actions_of (v ∷ o ∷ []) = only_if (not (same_kind v.kind Name)) (got [] (v ∷ o ∷ []))
  actions_of (v ∷ o ∷ w ∷ []) = only_if (not (same_kind v.kind Name)) (got [] (v ∷ o ∷ w ∷ []))
  actions_of (v ∷ o ∷ w ∷ c ∷ []) = only_if (not (same_kind v.kind Name)) (got [] (v ∷ o ∷ w ∷ c ∷ []))
  actions_of (v ∷ o ∷ w ∷ c ∷ z ∷ us) =
      cond (same_kind v.kind Name) (then (action_of v o w c z) (λ a _. then (actions_of us) (λ acts vs. got (a ∷ acts) vs)))
      (got [] (v ∷ o ∷ w ∷ c ∷ z ∷ us))

  -- after INITIAL_STEP or STEP
  unfoldable pub step_of : Bool → List Token → Got Item
  step_of initial us =
      after_name us (λ n vs. after_kind Colon vs (λ ws. then (actions_of ws) (λ acts xs. after_kind EndStep xs (λ ys. got (step initial n acts) ys))))

  -- after TRANSITION
  unfoldable pub transition_of : List Token → Got Item
  transition_of us =
      after_kind From us (λ vs. then (steps_of vs) (λ before ws. after_kind To ws (λ xs. then (steps_of xs) (λ next ys. after_kind Assign ys (λ zs.
      then (cond_of zs) (λ e r. after_kind Semicolon r (λ q. after_kind EndTransition q (λ o. got (program.transition before next e) o))))))))

  unfoldable pub item_of : Token → List Token → Got Item
  item_of t us =
      cond (same_kind t.kind InitialStep) (step_of true us)
      (cond (same_kind t.kind Step) (step_of false us)
      (only_if (same_kind t.kind Transition) (transition_of us)))

  -- the last token is the end
  unfoldable pub program_from : ℕ → List Token → Got Program
  program_from zero us = none
  program_from (suc n) [] = none
  program_from (suc n) (t ∷ []) = only_if (same_kind t.kind End) (got [] [])
  program_from (suc n) (t ∷ u ∷ us) = then (item_of t (u ∷ us)) (λ i vs. then (program_from n vs) (λ p ws. got (i ∷ p) ws))

  -- the program that a text is
  unfoldable pub program_of : Got Program
  program_of = program_from (length (tokens s) + 1) (tokens s)
