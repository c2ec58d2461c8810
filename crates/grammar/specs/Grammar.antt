-- The grammar of the subset: which tokens are which program. Each type says of its part that it stands at the front of some tokens, and which are left.
--   text       = { step | transition } ;
--   step       = ( "INITIAL_STEP" | "STEP" ) name ":" { action } "END_STEP" ;
--   action     = name "(" ( "N" | "S" | "R" ) ")" ";" ;
--   transition = "TRANSITION" "FROM" steps "TO" steps ":=" cond ";" "END_TRANSITION" ;
--   steps      = name | "(" name "," name { "," name } ")" ;
--   cond       = term { "OR" term } ;
--   term       = factor { "AND" factor } ;
--   factor     = [ "NOT" ] ( "TRUE" | "FALSE" | name | "(" cond ")" ) ;
use Rattle.std.specs.Prelude.{Bool, true, false, List, [], ◌∷◌, ◌≡◌, ℕ, Some}
use Rattle.tokens.specs.declared.Kind.{Kind}
use Rattle.tokens.specs.declared.Token.{Token}
use Rattle.naming.specs.declared.Qualifier.{Qualifier}
use Rattle.naming.specs.Names.{qualifier}
use Rattle.grammar.specs.Program.{Action, Expr, true', false', variable, not', brackets, and', or', Item, step, Program}
use Rattle.grammar.specs.Program as program
use Rattle.tokens.specs.declared.Kind.TheVariants.{InitialStep, Step, EndStep, Transition, From, To, EndTransition, And, Or, Not, True, False, Name, Assign, Colon, Semicolon, Open, Close, Comma, End}

-- a token of a kind
abbrev pub Is : Token → Kind → Type 0
Is t k = t.kind ≡ k

-- Conditions

pub data ConditionPart : Type 0 where
  operand factor term condition : ConditionPart

pub data Reads : ConditionPart → List Token → List Token → Expr → Type 0 where
  -- "TRUE" | "FALSE" | name | "(" cond ")"
  truth : {t : Token} {us : List Token} → Is t True → Reads operand (t ∷ us) us true'
  falsity : {t : Token} {us : List Token} → Is t False → Reads operand (t ∷ us) us false'
  a_name : {t : Token} {us : List Token} → Is t Name → Reads operand (t ∷ us) us (variable t)
  bracketed : {o c : Token} {us vs : List Token} {e : Expr} → Is o Open → Reads condition us (c ∷ vs) e → Is c Close → Reads operand (o ∷ us) vs (brackets e)
  -- factor = [ "NOT" ] ..
  plain : {us vs : List Token} {e : Expr} → Reads operand us vs e → Reads factor us vs e
  negated : {t : Token} {us vs : List Token} {e : Expr} → Is t Not → Reads operand us vs e → Reads factor (t ∷ us) vs (not' e)
  -- term = factor { "AND" factor }
  one-factor : {us vs : List Token} {e : Expr} → Reads factor us vs e → Reads term us vs e
  more_factors : {t : Token} {us vs ws : List Token} {e f : Expr} → Reads factor us (t ∷ vs) e → Is t And → Reads term vs ws f → Reads term us ws (and' e f)
  -- cond = term { "OR" term }
  one-term : {us vs : List Token} {e : Expr} → Reads term us vs e → Reads condition us vs e
  more_terms : {t : Token} {us vs ws : List Token} {e f : Expr} → Reads term us (t ∷ vs) e → Is t Or → Reads condition vs ws f → Reads condition us ws (or' e f)

-- Lists of steps

-- name { "," name } ")"
pub data Others : List Token → List Token → List Token → Type 0 where
  last : {t c : Token} {us : List Token} → Is t Name → Is c Close → Others (t ∷ c ∷ us) us (t ∷ [])
  more_names : {t c : Token} {us vs ns : List Token} → Is t Name → Is c Comma → Others us vs ns → Others (t ∷ c ∷ us) vs (t ∷ ns)

-- name | "(" name "," name { "," name } ")"
pub data Steps : List Token → List Token → List Token → Type 0 where
  one : {t : Token} {us : List Token} → Is t Name → Steps (t ∷ us) us (t ∷ [])
  several : {o t c : Token} {us vs ns : List Token} → Is o Open → Is t Name → Is c Comma → Others us vs ns → Steps (o ∷ t ∷ c ∷ us) vs (t ∷ ns)

-- Actions

module _ (s : List ℕ) where
  -- a name that stands as a qualifier: "N" | "S" | "R"
  pub record Qualifies (t : Token) (q : Qualifier) : Type 0 where
    pub is_name : Is t Name
    pub is : qualifier s t ≡ Some q

  -- { name "(" ( "N" | "S" | "R" ) ")" ";" }
  pub data Actions : List Token → List Token → List Action → Type 0 where
    no_actions : {us : List Token} → Actions us us []
    more_actions : {v o w c z : Token} {q : Qualifier} {us vs : List Token} {acts : List Action}
        → Is v Name → Is o Open → Qualifies w q → Is c Close → Is z Semicolon → Actions us vs acts
        → Actions (v ∷ o ∷ w ∷ c ∷ z ∷ us) vs (record { variable = v; qualifier = q } ∷ acts)

  -- the word before a step's name
  abbrev pub step_kind : Bool → Kind
  step_kind true = InitialStep
  step_kind false = Step

  -- step | transition
  pub data ReadsItem : List Token → List Token → Item → Type 0 where
    a_step : {k n c e : Token} {us vs : List Token} {acts : List Action} (initial : Bool)
        → Is k (step_kind initial) → Is n Name → Is c Colon → Actions us (e ∷ vs) acts → Is e EndStep
        → ReadsItem (k ∷ n ∷ c ∷ us) vs (step initial n acts)
    a_transition : {k f t a z e : Token} {us vs ws xs before after : List Token} {c : Expr}
        → Is k Transition → Is f From → Steps us (t ∷ vs) before → Is t To → Steps vs (a ∷ ws) after → Is a Assign
        → Reads condition ws (z ∷ e ∷ xs) c → Is z Semicolon → Is e EndTransition
        → ReadsItem (k ∷ f ∷ us) xs (program.transition before after c)

  -- text = { step | transition }, and then the end
  pub data ReadsText : List Token → Program → Type 0 where
    the_end : {t : Token} → Is t End → ReadsText (t ∷ []) []
    more-items : {us vs : List Token} {i : Item} {p : Program} → ReadsItem us vs i → ReadsText vs p → ReadsText us (i ∷ p)
