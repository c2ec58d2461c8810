-- Which charts are well formed: 01's rules, to be ticked off one by one. Each field quotes the rule it is.
use Rattle.std.specs.Prelude.{Bool, true, false, List, [], ◌∷◌, ◌≡◌, ℕ, ◌≤◌, ◌<◌, length}
use Rattle.text.specs.Bytes.{byte_at}
use Rattle.cond.specs.declared.Declared.{Declared}
use Rattle.cond.specs.Bounds.{longest}
use Rattle.cond.specs.Meaning.{Cond, undeclared, edged}
use Rattle.cond.specs.Grammar.{condition, Spans}
use Rattle.line.specs.Chart.{Chart, Move, Hold, Latch}
use Rattle.line.specs.Kinds.{HeadNumber, number_line}
use Rattle.line.specs.Write.{write}
use Rattle.line.specs.Rules.{longest_text, line_bound, number_of, declared_by}

-- every element of a list is so
pub data Every {A : Type 0} (P : A → Type 0) : List A → Type 0 where
  every_nil : Every P []
  every_cons : {x : A} {l : List A} → P x → Every P l → Every P (x ∷ l)

-- some element of a list is so
pub data Some {A : Type 0} (P : A → Type 0) : List A → Type 0 where
  some-here : {x : A} {l : List A} → P x → Some P (x ∷ l)
  some-later : {x : A} {l : List A} → Some P l → Some P (x ∷ l)

-- "Lists rise strictly."
pub data Rising : List ℕ → Type 0 where
  rising_nil : Rising []
  rising-one : {v : ℕ} → Rising (v ∷ [])
  rising-more : {u v : ℕ} {l : List ℕ} → u < v → Rising (v ∷ l) → Rising (u ∷ v ∷ l)

-- a list of steps, of which n are declared: "Steps, inputs and outputs are numbered from 0."
pub record StepList (n : ℕ) (l : List ℕ) : Type 0 where
  pub rises : Rising l
  pub declared : Every (λ v. v < n) l

-- the bytes of a condition, in a hold or not
pub record Condition (d : Declared) (hold : Bool) (s : List ℕ) : Type 0 where
  -- "condition 1 to 64 bytes"; that it has one follows from the grammar
  pub short : length s ≤ longest
  -- "Its grammar": all of its bytes are one `cond`
  pub meaning : Cond
  pub grammar : Spans (byte_at s) condition 0 (length s) meaning
  -- 6 "undeclared step, input or output"
  pub declared : undeclared d meaning ≡ false
  -- 7 "edge atom in a hold"
  pub no_edge : hold ≡ true → edged meaning ≡ false

pub record MoveRules (d : Declared) (m : Move) : Type 0 where
  pub before : StepList d.steps m.before
  pub after : StepList d.steps m.after
  -- "A move may have one empty list, not both."
  pub not_both : m.before ≡ [] → m.after ≡ [] → ⊥
  pub condition : Condition d false m.condition

pub record HoldRules (d : Declared) (outputs : ℕ) (x : Hold) : Type 0 where
  pub step : x.step < d.steps
  pub output : x.output < outputs
  pub condition : Condition d true x.condition

pub record LatchRules (steps outputs : ℕ) (holds : List Hold) (x : Latch) : Type 0 where
  pub step : x.step < steps
  pub output : x.output < outputs
  -- "An output has hold or latch lines, not both."
  pub not_held : Some (λ (y : Hold). y.output ≡ x.output) holds → ⊥

-- the number of a line of the head is within its bounds
abbrev pub InBounds : HeadNumber → ℕ → Type 0
InBounds q v = ((number_line q).from ≤ v) × (v ≤ (number_line q).to)

pub record WellFormed (c : Chart) : Type 0 where
  -- "N 1 to 30, M and K 0 to 32, L 1 to 1,024"; `chart=1`
  pub numbers : (q : HeadNumber) → InBounds q (number_of q c.head)
  -- "`initial` is not empty. Lists rise strictly."
  pub starts : c.head.initial ≡ [] → ⊥
  pub initial : StepList c.head.steps c.head.initial
  -- "up to 64 `move=LIST>LIST:COND`"
  pub few_moves : length c.body.moves ≤ line_bound
  pub moves : Every (MoveRules (declared_by c)) c.body.moves
  -- "up to 64 `hold=STEP:OUTPUT:COND`"
  pub few_holds : length c.body.holds ≤ line_bound
  pub holds : Every (HoldRules (declared_by c) c.head.outputs) c.body.holds
  -- "up to 64 `latch=STEP:E:OUTPUT:V`"
  pub few_latches : length c.body.latches ≤ line_bound
  pub latches : Every (LatchRules c.head.steps c.head.outputs c.body.holds) c.body.latches
  -- "text at most 16,384 bytes"
  pub short : length (write c) ≤ longest_text
