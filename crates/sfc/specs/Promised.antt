-- What the theorems of the import say.
use Rattle.std.specs.Prelude.{true, false, List, ◌∷◌, ◌++◌, ◌≡◌, ℕ, ◌+◌, ◌≤◌, ◌<◌, length, get_or}
use Rattle.text.specs.Words.{has}
use Rattle.cond.specs.declared.View.{View}
use Rattle.cond.specs.Judging.{held_by}
use Rattle.line.specs.Chart.{Move}
use Rattle.line.specs.Rules.{longest_text}
use Rattle.chart.specs.Reading.{read_chart, accepted}
use Rattle.chart.specs.WellFormed.{Every}
use Rattle.tokens.specs.declared.Token.{Token}
use Rattle.tokens.specs.Spelling.{same_word}
use Rattle.tokens.specs.Tokens.{token_bytes, tokens}
use Rattle.naming.specs.Names.{number_in}
use Rattle.grammar.specs.Program.{Expr, Program}
use Rattle.grammar.specs.Grammar.{ReadsText}
use Rattle.sfc.specs.declared.Place.{Place}
use Rattle.sfc.specs.Chart.{step_tokens, input_tokens, output_tokens, map_of, chart_of}
use Rattle.sfc.specs.Meaning.{evaluates, conditions_of, Pairs}
use Rattle.sfc.specs.Import.{program_in, chart_in, map_in, result_of}

-- The map: "Names map to numbers .. in order of appearance"

-- a name's number, and that the name of that number is the same name, in any case
pub record HasNumber (s : List ℕ) (names : List Token) (t : Token) : Type 0 where
  pub below : number_in s t names < length names
  pub is : (d : Token) → same_word (token_bytes s (get_or names (number_in s t names) d)) (token_bytes s t) ≡ true

-- two numbers are those of two names
abbrev pub Differ : List ℕ → List Token → Type 0
Differ s l = (i j : ℕ) (d : Token) → i < j → j < length l → same_word (token_bytes s (get_or l i d)) (token_bytes s (get_or l j d)) ≡ false

-- t is one of ts, and no name before it is the same
pub record FirstAppearance (s : List ℕ) (ts : List Token) (t : Token) : Type 0 where
  pub before : List Token
  pub later : List Token
  pub is : ts ≡ before ++ t ∷ later
  pub new : Every (λ u. same_word (token_bytes s u) (token_bytes s t) ≡ false) before

-- a list in front of more
pub record FrontOf (k l : List Token) : Type 0 where
  pub more : List Token
  pub is : l ≡ k ++ more

-- the names of a kind, of which a chart declares some count
pub record NameRules (s : List ℕ) (ts names : List Token) (count : ℕ) : Type 0 where
  -- each number below the count has its name, and no other number has one
  pub all : length names ≡ count
  pub every_name : Every (HasNumber s names) ts
  pub names_differ : Differ s names
  pub place-number : (i : ℕ) (d : Token) → i < count → number_in s (get_or names i d) names ≡ i
  pub first_appearance : Every (FirstAppearance s ts) names

-- the three kinds of names
pub record MapRules (s : List ℕ) (p : Program) : Type 0 where
  pub steps : NameRules s (step_tokens p) (map_of s p).steps (chart_of s p).head.steps
  pub inputs : NameRules s (input_tokens p) (map_of s p).inputs (chart_of s p).head.inputs
  pub outputs : NameRules s (output_tokens p) (map_of s p).outputs (chart_of s p).head.outputs

-- the place of a name lies in the caller's text, and within 16,384 bytes
pub record LiesInside (s : List ℕ) (p : Place) : Type 0 where
  pub inside : p.start + p.length ≤ length s
  pub low : p.start + p.length ≤ longest_text

-- A success

-- what the text of a success is
pub record Brought (s : List ℕ) (room : ℕ) : Type 0 where
  -- the room is long enough
  pub lent : longest_text ≤ room
  -- the text is of the grammar, as the program that is read
  pub reads : ReadsText s (tokens s) (program_in s)
  -- the result is an accepted chart: that of the program
  pub chart : read_chart (result_of s room) ≡ accepted (chart_in s)
  -- a condition of the result holds in a view exactly if the SFC condition holds when each name stands for its input
  pub meaning : Pairs (λ (e : Expr) (x : Move). (v : View) → held_by v x.condition ≡ evaluates (λ t. has v.inputs (number_in s t (map_in s).inputs)) e)
      (conditions_of (program_in s)) (chart_in s).body.moves
  -- the map is the program's, and is one to one
  pub map : map_in s ≡ map_of s (program_in s)
  pub one-to-one : MapRules s (program_in s)
