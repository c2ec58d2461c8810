-- What the engine may rely on: the table of an accepted text says its chart.
use mathlib.Core.List.{List}
use mathlib.Core.Path.{◌≡◌, refl, sym, ap, ◌∙◌}
use Prim.Native.Nat.{ℕ, ◌+◌, ◌*◌, ◌<◌, ◌≤◌}
use native.Mathlib.Omega.{arith}
use borrow.Author.Tests.{lt-ltb, le-ltb}
use lib.ListN.{length, get_or, drop, get_or-append}
use lib.Seq.{sets, sets-eq}
use Rattle.text.specs.Lines.{split}
use Rattle.line.specs.Chart.{Chart}
use Rattle.std.proofs.Common.{None}
use Rattle.line.specs.Rules.{longest_text, line_bound, blank}
use Rattle.line.specs.Words.{head_length, head_words_of, moves_from, holds_from, latches_from, table_words, move_row}
use Rattle.chart.specs.declared.Verdict.{Verdict}
use Rattle.chart.specs.Reading.{Read, accepted, read_from, read_chart, verdict_of, verdict}
use Rattle.chart.specs.Rows.{rows_of_lines, rows_of, move_word, hold_word, latch_word, words_by, area, head_area}
use Rattle.chart.specs.Table.{with_head, Tabled, no_move, TellsChart, TableSays}
use Rattle.chart.proofs.Fold.Whole.{not_accepted}
use Rattle.chart.proofs.Rows.Areas.{area_length, area-word}
use Rattle.chart.proofs.Rows.Low.{list-low, every_at}
use Rattle.chart.proofs.Rows.Kinds.{keeps, move_count, move_before, move_after, move_place_lem, move_lies, latch_count, latch_row}
use Rattle.chart.proofs.Rows.Kinds.{hold_count, hold-word, hold_lies, hold_parts, hold_row}

-- words that were stored in an area from its start on
module _ (from n : ℕ) (before after w : List ℕ) (room : from + n ≤ length before) (e : area from n after ≡ sets (area from n before) 0 w) where
  stored : length w ≤ n → (i : ℕ) → i < length w → get_or after (from + i) 0 ≡ get_or w i 0
  stored l i h =
      let m = area_length from n before room in
      area-word from n after i (omega arith) ∙ ap (λ (z : List ℕ). get_or z i 0) (e ∙ sets-eq w (area from n before) 0 (omega arith))
      ∙ get_or-append w (drop (0 + length w) (area from n before)) 0 i h

-- The table of an accepted text
module _ (t : List ℕ) (c : Chart) (q : read_chart t ≡ accepted c) (before after : List ℕ) (long : length before ≡ table_words)
    (f : Tabled (read_chart t) (rows_of t) before after) where
  in_head : (i : ℕ) → i < head_length → get_or after i 0 ≡ get_or (head_words_of c) i 0
  in_head i h =
      let e : 0 + i ≡ i = omega arith in
      ap (λ (j : ℕ). get_or after j 0) (sym e)
      ∙ stored 0 moves_from before after (head_words_of c) (omega arith) (f.head ∙ ap (λ (a : Read). with_head a (head_area before)) q) (omega arith) i h

  pub in_moves : (k j : ℕ) → k ≡ moves_from + j → j < 3 * length c.body.moves → get_or after k 0 ≡ get_or (words_by move_word (rows_of t)) j 0
  in_moves k j e h =
      let n = move_count t c q in
      let few = (keeps t c q).few_moves in
      ap (λ (i : ℕ). get_or after i 0) e ∙ stored moves_from (3 * line_bound) before after (words_by move_word (rows_of t)) (omega arith) f.moves (omega arith) j (omega arith)

  in_holds : (j : ℕ) → j < length c.body.holds → get_or after (holds_from + j) 0 ≡ get_or (words_by hold_word (rows_of t)) j 0
  in_holds j h =
      let n = hold_count t c q in
      let few = (keeps t c q).few_holds in
      stored holds_from line_bound before after (words_by hold_word (rows_of t)) (omega arith) f.holds (omega arith) j (omega arith)

  in_latches : (j : ℕ) → j < length c.body.latches → get_or after (latches_from + j) 0 ≡ get_or (words_by latch_word (rows_of t)) j 0
  in_latches j h =
      let n = latch_count t c q in
      let few = (keeps t c q).few_latches in
      stored latches_from line_bound before after (words_by latch_word (rows_of t)) (omega arith) f.latches (omega arith) j (omega arith)

  -- the third word of a move
  in_place : (i : ℕ) → i < length c.body.moves → get_or after (moves_from + 3 * i + 2) 0 ≡ get_or (words_by move_word (rows_of t)) (3 * i + 2) 0
  in_place i h = in_moves (moves_from + 3 * i + 2) (3 * i + 2) (omega arith) (omega arith)

  chart-said : TellsChart t c after
  unfolding move_row
  chart-said =
      record {
        head = in_head;
        initial-low = list-low c.head.steps (keeps t c q).initial;
        moves = λ i h.
            rw (
              in_moves (moves_from + 3 * i) (3 * i) refl (omega arith),
              in_moves (moves_from + 3 * i + 1) (3 * i + 1) (omega arith) (omega arith),
              in_place i h,
              move_before t c q i no_move h,
              move_after t c q i no_move h,
              move_place_lem t c q i no_move h,
              (move_lies t c q i no_move h).is,
            );
        moves-low = λ i h. (let r = every_at no_move (keeps t c q).moves i h in (list-low c.head.steps r.before, list-low c.head.steps r.after));
        moves_lie = λ i h. rw (in_place i h, move_place_lem t c q i no_move h) (move_lies t c q i no_move h).within;
        holds = λ i h. rw (in_holds i h) (hold_row t c q i h);
        holds_lie = λ i h. (let p = hold_parts t c q i h in rw (in_holds i h, hold-word t c q i h, p.rest) (hold_lies t c q i h).within);
        latches = λ i h. rw (in_latches i h) (latch_row t c q i h);
      }

-- What is read of a text, as the contract of `read` has it

abbrev ReadOf : List ℕ → List ℕ → Verdict → List ℕ → Type 0
ReadOf t before r after = (r ≡ verdict t) × (Tabled (read_chart t) (rows_of t) before after × TableSays t after)

pub read-long : (t table : List ℕ) → longest_text < length t → ReadOf t table (record { number = 1; line = 0 }) table
unfolding verdict read_chart rows_of words_by
read-long t table l =
    let z = lt-ltb longest_text (length t) l in
    (rw z, (record { head = rw z; moves = rw z; holds = rw z; latches = rw z }, λ c q. absurd (not_accepted 1 0 c (rw z at q))))

pub read_short : (t before : List ℕ) {after : List ℕ} {r : Verdict} → length before ≡ table_words → length t ≤ longest_text
    → (r ≡ verdict_of (read_from 1 None blank (split t))) × Tabled (read_from 1 None blank (split t)) (rows_of_lines 0 None blank (split t)) before after
    → ReadOf t before r after
unfolding verdict read_chart rows_of
read_short t before {after} long l g =
    let z = le-ltb longest_text (length t) l in
    let f : Tabled (read_chart t) (rows_of t) before after = rw z g.1 in
    (rw z g.0, (f, λ c q. chart-said t c q before after long f))
