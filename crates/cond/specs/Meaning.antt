-- Conditions and their meaning. 01, The chart text: "cond: terms joined by `+` (or)"; "term: factors joined by `.` (and)";
-- "factor: `!` factor, or `(` cond `)`, or an atom".
use Rattle.std.specs.Prelude.{Bool, true, false, not, ◌&&◌, ◌||◌, ℕ, leb, get_or}
use Rattle.text.specs.Words.{has}
use Rattle.cond.specs.declared.Declared.{Declared}
use Rattle.cond.specs.declared.View.{View}

-- Atoms that name a step or an input.
pub data AtomKind : Type 0 where
  step input step_up_kind step_down_kind input_up_kind input_down_kind : AtomKind
  delay : ℕ → AtomKind

-- What is to be known of an atom of a kind.
pub record Rule : Type 0 where
  -- whether it is true of an item
  pub true_of : View → ℕ → Bool
  -- how many such items the chart declares
  pub among : Declared → ℕ
  -- whether it is an edge, which no hold may have
  pub edge : Bool

-- 01, Evolution 5: "`T/xS` holds when S is in the current situation and its age, after time was added, is at least T."
abbrev pub lasted : View → ℕ → ℕ → Bool
lasted v k t = has v.moment.situation k && leb t (get_or v.ages k 0)

-- 01, The chart text: "`xS` step active, `iI` input on, `uxS` `dxS` `uiI` `diI` rising and falling edges, `T/xS` on-delay".
-- 01, Evolution 4: "`ux`, `dx` compare the current situation with the one before it"; input edges "compare old and new".
abbrev pub rule : AtomKind → Rule
rule step = record { true_of = λ v k. has v.moment.situation k; among = λ d. d.steps; edge = false }
rule input = record { true_of = λ v k. has v.inputs k; among = λ d. d.inputs; edge = false }
rule step_up_kind = record { true_of = λ v k. has v.moment.situation k && not (has v.moment.previous k); among = λ d. d.steps; edge = true }
rule step_down_kind = record { true_of = λ v k. has v.moment.previous k && not (has v.moment.situation k); among = λ d. d.steps; edge = true }
rule input_up_kind = record { true_of = λ v k. has v.inputs k && not (has v.old k); among = λ d. d.inputs; edge = true }
rule input_down_kind = record { true_of = λ v k. has v.old k && not (has v.inputs k); among = λ d. d.inputs; edge = true }
rule (delay t) = record { true_of = λ v k. lasted v k t; among = λ d. d.steps; edge = false }

pub data Cond : Type 0 where
  always never : Cond
  item : AtomKind → ℕ → Cond
  neg : Cond → Cond
  both either : Cond → Cond → Cond

-- whether a condition is true in a view
unfoldable pub true_in : View → Cond → Bool
true_in v always = true
true_in v never = false
true_in v (item k n) = (rule k).true_of v n
true_in v (neg c) = not (true_in v c)
true_in v (both c d) = true_in v c && true_in v d
true_in v (either c d) = true_in v c || true_in v d

-- whether it names an item that is not declared: items "are numbered from 0"
unfoldable pub undeclared : Declared → Cond → Bool
undeclared h always = false
undeclared h never = false
undeclared h (item k n) = leb ((rule k).among h) n
undeclared h (neg c) = undeclared h c
undeclared h (both c d) = undeclared h c || undeclared h d
undeclared h (either c d) = undeclared h c || undeclared h d

-- whether it has an edge atom
unfoldable pub edged : Cond → Bool
edged always = false
edged never = false
edged (item k n) = (rule k).edge
edged (neg c) = edged c
edged (both c d) = edged c || edged d
edged (either c d) = edged c || edged d
