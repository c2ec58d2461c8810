-- The pass over a text, which fills the table: what is left to read gives the whole.
use mathlib.Core.List.{List, [], ◌∷◌}
use mathlib.Core.Path.{◌≡◌, refl, sym, ap, ◌∙◌}
use Prim.Native.Nat.{ℕ, zero, suc, ◌+◌, ◌-◌, ◌*◌, ◌<◌, ◌≤◌}
use native.Mathlib.Omega.{arith}
use borrow.Author.Tests.{ne_eqb}
use lib.ListN.{length, take, drop, length-append, drop_of_length-le}
use lib.Seq.{sets}
use Rattle.text.specs.Lines.{unended, split}
use Rattle.text.specs.Places.{EndsAt}
use Rattle.text.proofs.Places.{split_at, line-long}
use Rattle.line.specs.declared.Row.{Row}
use Rattle.line.specs.Chart.{Chart}
use Rattle.std.proofs.Common.{Option, Some, None, Result, Ok, Err}
use Rattle.cond.specs.declared.faults.Fault.{Fault}
use Rattle.cond.specs.declared.faults.Fault.TheVariants.{Shape, Bound, Grammar, Undeclared, EdgeInHold, LatchOfHeld, Total}
use Rattle.cond.specs.Faults.{number}
use Rattle.line.specs.declared.Kind.{Kind}
use Rattle.line.specs.declared.Kind.TheVariants.{Version, Steps, Initial, Inputs, Outputs, Limit, Move, Hold, Latch, End, Unknown}
use Rattle.line.specs.declared.Known.{Known}
use Rattle.line.specs.contracts.KindPartialEq.TheImpl.{eq-value}
use Rattle.std.specs.Option.{option_eq}
use mathlib.Core.Bool.{false, not}
use Rattle.line.specs.Kinds.{HeadNumber, version, steps, inputs, outputs, limit, rank}
use Rattle.line.specs.Write.{Line, number', initial', move', hold', latch', end', wrong, kind}
use Rattle.line.specs.Shape.{shape}
use Rattle.line.specs.Rules.{line_bound, blank, with_number, extended, rules, fault}
use Rattle.line.specs.Words.{head_words_of, row_of, moves_from, holds_from, latches_from}
use Rattle.line.specs.Steps.{known, Outcome, Fitting, Judged}
use Rattle.line.proofs.Answers.{rules_zero}
use Rattle.chart.specs.declared.Verdict.{Verdict}
use Rattle.chart.specs.Reading.{Read, accepted, refused, onward, read_from, verdict_of}
use Rattle.chart.specs.Rows.{row_then, rows_of_lines, move_word, hold_word, latch_word, words_by, HasRow, Room, last_words, known_words}
use Rattle.chart.specs.Rows.{head_area, moves_area, holds_area, latches_area, Stored}
use Rattle.chart.specs.Table.{with_head, Tabled}
use Rattle.chart.proofs.Lines.Ruled.{number-rules, move_rules, hold-rules, latch-rules}
use Rattle.chart.proofs.Rows.Areas.{sets_append, sets-within, sets-before}

-- A line without a fault: it has a row, and each area as many words more as the row has in it

pub record Counts (c : Chart) (a n : ℕ) (l : Line) : Type 0 where
  pub room : Room (known (kind l) (extended c l)) (row_of a n l)
  pub moves : 3 * length (extended c l).body.moves ≡ 3 * length c.body.moves + length (move_word (row_of a n l))
  pub holds : length (extended c l).body.holds ≡ length c.body.holds + length (hold_word (row_of a n l))
  pub latches : length (extended c l).body.latches ≡ length c.body.latches + length (latch_word (row_of a n l))
  pub fits : Fitting (extended c l)

-- "65th line of a kind" is a fault, so the counted line has a row
has_row : (n m : ℕ) → n < line_bound → m ≡ n + 1 → HasRow m
has_row n m l e = (omega arith, omega arith)

number_fits : (c : Chart) (q : HeadNumber) (v : ℕ) → Fitting c → rules c (number' q v) ≡ 0 → Fitting (extended c (number' q v))
unfolding extended with_number
number_fits c version v o r = o
number_fits c steps v o r = o
number_fits c inputs v o r = o
number_fits c outputs v o r = (number-rules c outputs v r).1
number_fits c limit v o r = o

counts : (a n : ℕ) (c : Chart) (l : Line) → Fitting c → rules c l ≡ 0 → Counts c a n l
unfolding extended
counts a n c (number' q v) o r = record { room = tt; moves = omega arith; holds = omega arith; latches = omega arith; fits = number_fits c q v o r }
counts a n c (initial' l) o r = record { room = tt; moves = omega arith; holds = omega arith; latches = omega arith; fits = o }
counts a n c (move' m) o r =
    let e = length-append c.body.moves (m ∷ []) in
    record { room = has_row _ _ (move_rules c m r).0 e; moves = omega arith; holds = omega arith; latches = omega arith; fits = o }
counts a n c (hold' x) o r =
    let e = length-append c.body.holds (x ∷ []) in
    record { room = has_row _ _ (hold-rules c x r).0 e; moves = omega arith; holds = omega arith; latches = omega arith; fits = o }
counts a n c (latch' x) o r =
    let e = length-append c.body.latches (x ∷ []) in
    record { room = has_row _ _ (latch-rules c x r).0 e; moves = omega arith; holds = omega arith; latches = omega arith; fits = o }
counts a n c (end' v) o r = record { room = tt; moves = omega arith; holds = omega arith; latches = omega arith; fits = o }
counts a n c wrong o r = record { room = tt; moves = omega arith; holds = omega arith; latches = omega arith; fits = o }

-- An area with a row more

module _ (f : Row → List ℕ) (t : List ℕ) (i : ℕ) (rs : List Row) where
  row_more : (t' : List ℕ) (j : ℕ) (r : Row) → j ≡ i + length (f r) → t' ≡ last_words t j (f r) → sets t i (words_by f (r ∷ rs)) ≡ sets t' j (words_by f rs)
  unfolding words_by
  row_more t' j r e q = let d : j - length (f r) ≡ i = omega arith in sets_append (f r) (words_by f rs) t i ∙ rw (q, d, e)

-- all rows of a text, and those from a place on, after a line of a kind and with the chart so far
abbrev all_rows : List ℕ → List Row
all_rows s = rows_of_lines 0 None blank (split s)

abbrev rows_left : List ℕ → ℕ → Option Kind → Chart → List Row
rows_left s at k c = rows_of_lines at k c (split (drop at s))

-- each fault has a number
pub numbered : (f : Fault) → 0 < number f
numbered Shape = omega arith
numbered Bound = omega arith
numbered Grammar = omega arith
numbered Undeclared = omega arith
numbered EdgeInHold = omega arith
numbered LatchOfHeld = omega arith
numbered Total = omega arith

-- only the last kind has its rank
rank_end : (k : Option Kind) → rank k ≡ 12 → k ≡ Some End
rank_end None e = absurd (omega arith)
rank_end (Some Version) e = absurd (omega arith)
rank_end (Some Steps) e = absurd (omega arith)
rank_end (Some Initial) e = absurd (omega arith)
rank_end (Some Inputs) e = absurd (omega arith)
rank_end (Some Outputs) e = absurd (omega arith)
rank_end (Some Limit) e = absurd (omega arith)
rank_end (Some Move) e = absurd (omega arith)
rank_end (Some Hold) e = absurd (omega arith)
rank_end (Some Latch) e = absurd (omega arith)
rank_end (Some End) e = refl
rank_end (Some Unknown) e = absurd (omega arith)

-- `==` of the last kind
pub last_is : (k : Option Kind) → false ≡ not (option_eq eq-value.it k (Some End)) → k ≡ Some End
last_is None e = cc
last_is (Some Version) e = cc
last_is (Some Steps) e = cc
last_is (Some Initial) e = cc
last_is (Some Inputs) e = cc
last_is (Some Outputs) e = cc
last_is (Some Limit) e = cc
last_is (Some Move) e = cc
last_is (Some Hold) e = cc
last_is (Some Latch) e = cc
last_is (Some End) e = refl
last_is (Some Unknown) e = cc

-- The pass under way, from a table on: the chart so far, and the kind of its last line

pub record Filling (s before : List ℕ) (at n : ℕ) (h : Known) (table : List ℕ) : Type 0 where
  pub chart : Chart
  pub last : Option Kind
  pub is : h ≡ known last chart
  pub fits : Fitting chart
  pub within : at ≤ length s
  pub few : n ≤ at + 1
  pub same : read_from 1 None blank (split s) ≡ read_from n last chart (split (drop at s))
  pub head : head_area table ≡ head_area before
  pub moves : sets (moves_area before) 0 (words_by move_word (all_rows s)) ≡ sets (moves_area table) (3 * length chart.body.moves) (words_by move_word (rows_left s at last chart))
  pub holds : sets (holds_area before) 0 (words_by hold_word (all_rows s)) ≡ sets (holds_area table) (length chart.body.holds) (words_by hold_word (rows_left s at last chart))
  pub latches : sets (latches_area before) 0 (words_by latch_word (all_rows s)) ≡ sets (latches_area table) (length chart.body.latches) (words_by latch_word (rows_left s at last chart))

pub filling_start : (s table : List ℕ) → Filling s table 0 1 (known None blank) table
filling_start s table =
    record {
      chart = blank;
      last = None;
      is = refl;
      fits = omega arith;
      within = omega arith;
      few = omega arith;
      same = refl;
      head = refl;
      moves = refl;
      holds = refl;
      latches = refl;
    }

-- the answer to a text, and its table
abbrev FilledFrom : List ℕ → List ℕ → Verdict → List ℕ → Type 0
FilledFrom s before r after =
    (r ≡ verdict_of (read_from 1 None blank (split s))) × Tabled (read_from 1 None blank (split s)) (all_rows s) before after

-- a table with the head of an answer, and the rows of another
record Topped (a : Read) (table after : List ℕ) : Type 0 where
  head : head_area after ≡ with_head a (head_area table)
  moves : moves_area after ≡ moves_area table
  holds : holds_area after ≡ holds_area table
  latches : latches_area after ≡ latches_area table

-- with the head of a chart stored at its start
topped : (c : Chart) (table after : List ℕ) → after ≡ sets table 0 (head_words_of c) → Topped (accepted c) table after
topped c table after e =
    rw e
    (record {
      head = sets-within 0 moves_from (head_words_of c) table 0 0 refl (omega arith);
      moves = sets-before moves_from (3 * line_bound) (head_words_of c) table 0 (omega arith);
      holds = sets-before holds_from line_bound (head_words_of c) table 0 (omega arith);
      latches = sets-before latches_from line_bound (head_words_of c) table 0 (omega arith);
    })

-- and with none
as_it_is : (a n : ℕ) (table : List ℕ) → Topped (refused a n) table table
as_it_is a n table = record { head = refl; moves = refl; holds = refl; latches = refl }

module _ {s before : List ℕ} {at n : ℕ} {h : Known} {table : List ℕ} (j : Filling s before at n h table) where
  -- the pass ends here: with this answer, and with no rows more
  ends : (a : Read) {after : List ℕ} → Topped a table after → read_from n j.last j.chart (split (drop at s)) ≡ a → rows_left s at j.last j.chart ≡ []
      → FilledFrom s before (verdict_of a) after
  unfolding words_by
  ends a o p q =
      let e = sym (j.same ∙ p) in (
        ap verdict_of e,
        record {
          head = o.head ∙ ap (with_head a) j.head ∙ ap (λ (b : Read). with_head b (head_area before)) e;
          moves = o.moves ∙ sym (j.moves ∙ rw q);
          holds = o.holds ∙ sym (j.holds ∙ rw q);
          latches = o.latches ∙ sym (j.latches ∙ rw q);
        },
      )

  pub ends_done : length s ≤ at → h.last ≡ Some End → {after : List ℕ} → after ≡ sets table 0 (known_words h)
      → FilledFrom s before (record { number = 0; line = 0 }) after
  unfolding read_from split rows_of_lines
  ends_done l q {after} e =
      let z : j.last ≡ Some End = rw j.is at q in
      let o = topped j.chart table after (e ∙ ap (λ (k : Known). sets table 0 (known_words k)) j.is) in
      ends (accepted j.chart) o (rw (drop_of_length-le s l, z)) (rw (drop_of_length-le s l))

  pub ends_lacking : length s ≤ at → (h.last ≡ Some End → ⊥) → FilledFrom s before (record { number = 2; line = n }) table
  unfolding read_from split rows_of_lines
  ends_lacking l q =
      let z : rank j.last ≡ 12 → ⊥ = λ o. q (ap (λ (k : Known). k.last) j.is ∙ rank_end j.last o) in
      ends (refused 2 n) (as_it_is 2 n table) (rw (drop_of_length-le s l, ne_eqb _ _ z)) (rw (drop_of_length-le s l))

  pub ends_open : split (drop at s) ≡ unended → FilledFrom s before (record { number = 2; line = n }) table
  unfolding read_from rows_of_lines
  ends_open q = ends (refused 2 n) (as_it_is 2 n table) (rw q) (rw q)

  module _ {e : ℕ} (y : EndsAt s at e) where
    abbrev the_line : List ℕ
    the_line = take (e - at) (drop at s)

    abbrev found : ℕ
    found = fault j.last j.chart (shape the_line)

    abbrev the_row : Row
    the_row = row_of at (length the_line) (shape the_line)

    abbrev the_chart : Chart
    the_chart = extended j.chart (shape the_line)

    -- one line more, which was judged
    module _ (l : e < length s) (h' : Known) (r : Result Row Fault) (g : Judged at (length the_line) (shape the_line) h h' r) where
      -- with a fault
      pub ends-fault : (f : Fault) → r ≡ Err f → FilledFrom s before (record { number = number f; line = n }) table
      unfolding read_from onward rows_of_lines row_then
      ends-fault f q = go (number f) refl (numbered f) (sym (rw q at g j.last j.chart j.fits j.is).0)
        where
          go : (a : ℕ) → number f ≡ a → 0 < a → found ≡ number f → FilledFrom s before (record { number = number f; line = n }) table
          go zero i o t = absurd (omega arith)
          go (suc a) i o t = rw i (ends (refused (suc a) n) (as_it_is (suc a) n table) (rw (split_at s at e y l, t ∙ i)) (rw (split_at s at e y l, t ∙ i)))

      -- or with a row
      module _ {row : Row} (q : r ≡ Ok row) where
        told : Outcome found the_row (known (kind (shape the_line)) the_chart) h h' (Ok row)
        told = rw q at g j.last j.chart j.fits j.is

        counted : Counts j.chart at (length the_line) (shape the_line)
        counted = counts at (length the_line) j.chart (shape the_line) j.fits (rules_zero j.last j.chart (shape the_line) told.0)

        pub room_for : Room h' row
        room_for = rw (told.1, told.2) counted.room

        pub filling_next : {after : List ℕ} → Stored h' row table after → Filling s before (e + 1) (n + 1) h' after
        unfolding read_from onward rows_of_lines row_then
        filling_next {after} st =
            let d = counted in
            let u = y.from in
            let b = j.few in
            record {
              chart = the_chart;
              last = kind (shape the_line);
              is = told.2;
              fits = d.fits;
              within = omega arith;
              few = omega arith;
              same = j.same ∙ rw (split_at s at e y l, told.0);
              head = st.head ∙ j.head;
              moves = j.moves ∙ rw (split_at s at e y l, told.0, v) (row_more move_word (moves_area table) _ _ (moves_area after) _ the_row d.moves (rw (told.1, told.2) at st.moves));
              holds = j.holds ∙ rw (split_at s at e y l, told.0, v) (row_more hold_word (holds_area table) _ _ (holds_area after) _ the_row d.holds (rw (told.1, told.2) at st.holds));
              latches = j.latches ∙ rw (split_at s at e y l, told.0, v) (row_more latch_word (latches_area table) _ _ (latches_area after) _ the_row d.latches (rw (told.1, told.2) at st.latches));
            }
          where
            v : at + length the_line + 1 ≡ e + 1
            v = let z = line-long s at e y l in let u = y.from in omega arith
