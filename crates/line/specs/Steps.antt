-- A way of the code: what is known of the chart so far, what a line comes to, and what is known of a list.
-- The contract of `judge` is in these words; `check` and `read` (crates/chart) are told without them.
use Rattle.std.specs.Prelude.{Bool, true, false, cond, not, ◌&&◌, ◌||◌, List, [], ◌∷◌, ◌≡◌, ℕ, Option, Some, None, Result, Ok, Err, ◌+◌, ◌-◌, ◌≤◌, eqb, leb, length, drop}
use Rattle.std.specs.Int.Bits.{bit_or}
use Rattle.text.specs.Words.{bit_at, word_of}
use Rattle.cond.specs.declared.Declared.{Declared}
use Rattle.cond.specs.declared.faults.Fault.{Fault}
use Rattle.cond.specs.Faults.{number}
use Rattle.cond.specs.Lowest.{given, lower}
use Rattle.line.specs.declared.Kind.{Kind}
use Rattle.line.specs.declared.Known.{Known}
use Rattle.line.specs.declared.shapes.MoveShape.{MoveShape}
use Rattle.line.specs.declared.Tally.{Tally}
use Rattle.line.specs.declared.Row.{Row}
use Rattle.line.specs.Chart.{Hold, Chart}
use Rattle.line.specs.Kinds.{inputs, outputs, limit, follows}
use Rattle.line.specs.Write.{Line, move', wrong, kind}
use Rattle.line.specs.Rules.{line_bound, extended, fault}
use Rattle.line.specs.Shape.{Listed, got, none, or_else}
use Rattle.line.specs.Words.{place_word, row_of}

-- What is known of the chart so far, after a line of kind k

-- the outputs that holds name, joined to those of w
unfoldable pub held_from : ℕ → List Hold → ℕ
held_from w [] = w
held_from w (x ∷ xs) = held_from (bit_or w (bit_at x.output)) xs

abbrev pub known : Option Kind → Chart → Known
known k c =
    record {
      version = c.head.version;
      steps = c.head.steps;
      initial = word_of c.head.initial;
      inputs = c.head.inputs;
      outputs = c.head.outputs;
      limit = c.head.limit;
      moves = length c.body.moves;
      holds = length c.body.holds;
      latches = length c.body.latches;
      last = k;
      held = held_from 0 c.body.holds;
    }

-- what it declares to a condition
abbrev pub declared_in : Known → Declared
declared_in h = record { steps = h.steps; inputs = h.inputs }

-- What a call answers by the number of a fault: where that is 0 a value, and then `next` is known; else the number, and what is known stays

abbrev pub Outcome : {A : Type 0} → ℕ → A → Known → Known → Known → Result A Fault → Type 0
Outcome f x next before after (Ok y) = (f ≡ 0) × (y ≡ x) × (after ≡ next)
Outcome f x next before after (Err e) = (number e ≡ f) × (after ≡ before)

-- the chart so far has no more outputs than the word for those that holds name has bits
abbrev pub Fitting : Chart → Type 0
Fitting c = c.head.outputs ≤ 32

-- a line l of n bytes at place a, whatever the chart so far and the kind of its last line: its row, and the chart with it
abbrev pub Judged : ℕ → ℕ → Line → Known → Known → Result Row Fault → Type 0
Judged a n l before after r =
    (k : Option Kind) (c : Chart) → Fitting c → before ≡ known k c
    → Outcome (fault k c l) (row_of a n l) (known (kind l) (extended c l)) before after r

-- a line whose row does not tell its place
abbrev pub Placeless : Line → Known → Known → Result Row Fault → Type 0
Placeless l before after r = (a n : ℕ) → Judged a n l before after r

-- a line of kind k, of which other faults are found, and which becomes the last
abbrev pub Entered : Kind → ℕ → Known → Known → Result Unit Fault → Type 0
Entered k found before after r = Outcome (lower (given 2 (not (follows before.last (Some k)))) found) tt (record before { last = Some k }) before after r

-- 3 "65th line of a kind", of which there are n
abbrev pub full : ℕ → ℕ
full n = given 3 (leb line_bound n)

-- the number of a line of kind k, which goes from `low` to `high`; without a number the line is wrong
abbrev pub NumberOf : Kind → ℕ → ℕ → Option ℕ → Known → Known → Result ℕ Fault → Type 0
NumberOf k low high (Some v) before after r =
    Outcome (lower (given 2 (not (follows before.last (Some k)))) (given 3 (not (leb low v && leb v high)))) v (record before { last = Some k }) before after r
NumberOf k low high None before after r = Outcome 2 0 before before after r

-- a line with a key of the head after `initial`
abbrev pub tail_shape : List ℕ → Line
tail_shape w = or_else inputs w (or_else outputs w (or_else limit w wrong))

-- Lists: one more than the last number, whether they rise, whether an item is not declared, and their word

abbrev pub one_more : ℕ → Tally → ℕ → Tally
one_more n t v = record { low = v + 1; rising = t.rising && leb t.low v; undeclared = t.undeclared || leb n v; word = bit_or t.word (bit_at v) }

unfoldable pub tally : ℕ → Tally → List ℕ → Tally
tally n t [] = t
tally n t (v ∷ l) = tally n (one_more n t v) l

abbrev pub no_items : Tally
no_items = record { low = 0; rising = true; undeclared = false; word = 0 }

abbrev pub items_of : ℕ → Tally → Listed → Option (Tally × ℕ)
items_of n t (got l e) = Some (tally n t l, e)
items_of n t none = None

-- a move as it was read where n steps are declared: its lists are tallied, and its condition stands from `rest` on
pub record MoveRead (n : ℕ) (w : List ℕ) (l : Line) (x : MoveShape) : Type 0 where
  pub before : List ℕ
  pub after : List ℕ
  pub tallied-before : x.before ≡ tally n no_items before
  pub tallied-after : x.after ≡ tally n no_items after
  pub within : x.rest ≤ length w
  pub is : l ≡ move' (record { before = before; after = after; condition = drop x.rest w })

-- a move at place a whose lists, whatever they are, were tallied as those of x
abbrev pub MoveOf : ℕ → MoveShape → List ℕ → Known → Known → Result Row Fault → Type 0
MoveOf a x w before after r =
    (l : Line) → MoveRead before.steps w l x → Judged a (length w) l before after r

-- whether a byte is the first of two, or the second
abbrev pub either : ℕ → ℕ → ℕ → Option Bool
either b first second = cond (eqb b first) (Some true) (cond (eqb b second) (Some false) None)

-- where the bytes from e on of a line at place a lie, as a word
abbrev pub rest_word : ℕ → List ℕ → ℕ → ℕ
rest_word a w e = place_word (a + (length w - length (drop e w))) (length (drop e w))
