-- What is promised of the answers about a condition's bytes, told by the grammar and the meaning alone.
-- `judged_exactly`, `four_exactly` and `held_exactly` (proofs/Promises.antt): the two calls answer so, and not otherwise.
use Rattle.std.specs.Prelude.{Bool, true, false, List, ◌≡◌, ℕ, ◌≤◌, ◌<◌, length}
use Rattle.text.specs.Bytes.{byte_at}
use Rattle.cond.specs.declared.Declared.{Declared}
use Rattle.cond.specs.Bounds.{longest}
use Rattle.cond.specs.declared.View.{View}
use Rattle.cond.specs.Meaning.{Cond, true_in, undeclared, edged}
use Rattle.cond.specs.Grammar.{condition, Spans}

-- "Its grammar": all of the bytes are one `cond`, which says c
abbrev pub SpansAll : List ℕ → Cond → Type 0
SpansAll s c = Spans (byte_at s) condition 0 (length s) c

-- bytes that stand for a condition: "1 to 64 bytes"; that there is one follows from the grammar
pub record StandsFor (s : List ℕ) (c : Cond) : Type 0 where
  pub short : length s ≤ longest
  pub spans : SpansAll s c

-- 01, Answer numbers, "Given exactly when", "lowest number within it": of a condition in a chart that declares d, standing in a hold or not.
-- 02, P5: "Strike the deep-bracket answer": "Number 5 isn't used again".
pub data Judgement (d : Declared) (hold : Bool) (s : List ℕ) : ℕ → Type 0 where
  -- 4 "condition empty, too long or not of the grammar (T out of range too)"
  too_long : longest < length s → Judgement d hold s 4
  no_condition : ((c : Cond) → SpansAll s c → ⊥) → Judgement d hold s 4
  -- 6 "undeclared step, input or output"
  not_declared : (c : Cond) → StandsFor s c → undeclared d c ≡ true → Judgement d hold s 6
  -- 7 "edge atom in a hold"
  edge_in_hold : (c : Cond) → StandsFor s c → undeclared d c ≡ false → hold ≡ true → edged c ≡ true → Judgement d hold s 7
  -- 0, none of these
  faultless : (c : Cond) → StandsFor s c → undeclared d c ≡ false → (hold ≡ true → edged c ≡ false) → Judgement d hold s 0

-- bytes that hold in a view: they stand for a condition that is true there
pub record Holding (v : View) (s : List ℕ) : Type 0 where
  pub says : Cond
  pub stands : StandsFor s says
  pub is_true : true_in v says ≡ true
