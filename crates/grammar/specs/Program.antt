-- An SFC program as a value. 02, P4: "INITIAL_STEP, STEP, and TRANSITION FROM .. TO .. := .. ; END_TRANSITION, conditions with AND, OR, NOT, TRUE,
-- FALSE and brackets, and N, S and R actions."
use Rattle.std.specs.Prelude.{Bool, List}
use Rattle.tokens.specs.declared.Token.{Token}
use Rattle.naming.specs.declared.Qualifier.{Qualifier}

-- A name is held as the token at which it stands, so that its place, its spelling and its line are known.

-- "N, S and R actions"
pub record Action : Type 0 where
  pub variable : Token
  pub qualifier : Qualifier

-- "conditions with AND, OR, NOT, TRUE, FALSE and brackets": brackets are kept, so they are a part of the value
pub data Expr : Type 0 where
  true' false' : Expr
  variable : Token → Expr
  not' brackets : Expr → Expr
  and' or' : Expr → Expr → Expr

-- a step, initial or not, with its actions; a transition with its steps before, its steps after and its condition
pub data Item : Type 0 where
  step : Bool → Token → List Action → Item
  transition : List Token → List Token → Expr → Item

abbrev pub Program : Type 0
Program = List Item
