-- The chart that a program becomes. 02, P4: "Names map to numbers, and lines are written, in order of appearance, brackets kept"
use Rattle.std.specs.Prelude.{Bool, true, false, cond, List, [], ◌∷◌, ◌++◌, ℕ, zero, suc, ◌+◌, length}
use Rattle.text.specs.Decimal.{decimal}
use Rattle.text.specs.Members.{is_among}
use Rattle.line.specs.Chart.{Chart, Move, Hold, Latch}
use Rattle.tokens.specs.declared.Token.{Token}
use Rattle.naming.specs.Names.{number_in, names_of}
use Rattle.naming.specs.declared.Qualifier.{Qualifier}
use Rattle.naming.specs.declared.Qualifier.TheVariants.{N, S, R}
use Rattle.grammar.specs.Program.{Action, Expr, true', false', variable, not', brackets, and', or', step, transition, Program}

-- Which names are which

-- steps, where they are declared or listed
unfoldable pub step_tokens : Program → List Token
step_tokens [] = []
step_tokens (step initial n actions ∷ p) = n ∷ step_tokens p
step_tokens (transition before after c ∷ p) = before ++ (after ++ step_tokens p)

unfoldable pub initial_tokens : Program → List Token
initial_tokens [] = []
initial_tokens (step true n actions ∷ p) = n ∷ initial_tokens p
initial_tokens (step false n actions ∷ p) = initial_tokens p
initial_tokens (transition before after c ∷ p) = initial_tokens p

-- "A variable that an action drives is an output"
unfoldable pub driven_by : List Action → List Token
driven_by [] = []
driven_by (a ∷ actions) = a.variable ∷ driven_by actions

unfoldable pub output_tokens : Program → List Token
output_tokens [] = []
output_tokens (step initial n actions ∷ p) = driven_by actions ++ output_tokens p
output_tokens (transition before after c ∷ p) = output_tokens p

-- "every other one is an input": those that conditions name
unfoldable pub asked_by : Expr → List Token
asked_by true' = []
asked_by false' = []
asked_by (variable t) = t ∷ []
asked_by (not' e) = asked_by e
asked_by (brackets e) = asked_by e
asked_by (and' e f) = asked_by e ++ asked_by f
asked_by (or' e f) = asked_by e ++ asked_by f

unfoldable pub input_tokens : Program → List Token
input_tokens [] = []
input_tokens (step initial n actions ∷ p) = input_tokens p
input_tokens (transition before after c ∷ p) = asked_by c ++ input_tokens p

-- "the map is printed": the names of each kind, by their numbers, each as it appears first
pub record Map : Type 0 where
  pub steps : List Token
  pub inputs : List Token
  pub outputs : List Token

unfoldable pub map_of : List ℕ → Program → Map
map_of s p = record { steps = names_of s (step_tokens p); inputs = names_of s (input_tokens p); outputs = names_of s (output_tokens p) }

-- Numbers

-- 01, "Lists rise strictly.": of the n numbers from j on, those that a list has
unfoldable pub ascending_from : ℕ → ℕ → List ℕ → List ℕ
ascending_from zero j l = []
ascending_from (suc n) j l = cond (is_among j l) (j ∷ ascending_from n (j + 1) l) (ascending_from n (j + 1) l)

abbrev pub ascending : ℕ → List ℕ → List ℕ
ascending n l = ascending_from n 0 l

unfoldable pub numbers_of : List ℕ → List Token → List Token → List ℕ
numbers_of s names [] = []
numbers_of s names (t ∷ ts) = number_in s t names ∷ numbers_of s names ts

module _ (s : List ℕ) (m : Map) where
  -- the steps of a list, by their numbers
  abbrev pub step_list : List Token → List ℕ
  step_list ts = ascending (length m.steps) (numbers_of s m.steps ts)

  -- Conditions: NOT, AND, OR, TRUE and FALSE are `!` `.` `+` `1` `0`, an input is `i` and its number, "brackets kept"
  unfoldable pub spell : Expr → List ℕ
  spell true' = 49 ∷ []
  spell false' = 48 ∷ []
  spell (variable t) = 105 ∷ decimal (number_in s t m.inputs)
  spell (not' e) = 33 ∷ spell e
  spell (brackets e) = 40 ∷ (spell e ++ 41 ∷ [])
  spell (and' e f) = spell e ++ 46 ∷ spell f
  spell (or' e f) = spell e ++ 43 ∷ spell f

  -- a transition is a move
  unfoldable pub moves_of : Program → List Move
  moves_of [] = []
  moves_of (step initial n actions ∷ p) = moves_of p
  moves_of (transition before after c ∷ p) = record { before = step_list before; after = step_list after; condition = spell c } ∷ moves_of p

  -- an N action is a hold without a condition, `1`
  abbrev pub hold_for : Token → Token → Hold
  hold_for n v = record { step = number_in s n m.steps; output = number_in s v m.outputs; condition = 49 ∷ [] }

  unfoldable pub hold_if : Qualifier → Token → Token → List Hold → List Hold
  hold_if N n v others = hold_for n v ∷ others
  hold_if S n v others = others
  hold_if R n v others = others

  unfoldable pub step_holds : Token → List Action → List Hold
  step_holds n [] = []
  step_holds n (a ∷ actions) = hold_if a.qualifier n a.variable (step_holds n actions)

  unfoldable pub holds_of : Program → List Hold
  holds_of [] = []
  holds_of (step initial n actions ∷ p) = step_holds n actions ++ holds_of p
  holds_of (transition before after c ∷ p) = holds_of p

  -- "An S or R action becomes a latch on activation."
  abbrev pub latch_for : Token → Token → Bool → Latch
  latch_for n v on = record { step = number_in s n m.steps; activation = true; output = number_in s v m.outputs; on = on }

  unfoldable pub latch_if : Qualifier → Token → Token → List Latch → List Latch
  latch_if N n v others = others
  latch_if S n v others = latch_for n v true ∷ others
  latch_if R n v others = latch_for n v false ∷ others

  unfoldable pub step_latches : Token → List Action → List Latch
  step_latches n [] = []
  step_latches n (a ∷ actions) = latch_if a.qualifier n a.variable (step_latches n actions)

  unfoldable pub latches_of : Program → List Latch
  latches_of [] = []
  latches_of (step initial n actions ∷ p) = step_latches n actions ++ latches_of p
  latches_of (transition before after c ∷ p) = latches_of p

  -- "The chart gets limit 1,024."
  unfoldable pub chart_by : Program → Chart
  chart_by p =
      record {
        head = record {
          version = 1;
          steps = length m.steps;
          initial = step_list (initial_tokens p);
          inputs = length m.inputs;
          outputs = length m.outputs;
          limit = 1024;
        };
        body = record { moves = moves_of p; holds = holds_of p; latches = latches_of p };
      }

abbrev pub chart_of : List ℕ → Program → Chart
chart_of s p = chart_by s (map_of s p) p
