-- The part that the lookup yields: as the word of its place in the table, and in the text.
use mathlib.Core.List.{List, ◌∷◌, ◌++◌}
use mathlib.Core.Path.{◌≡◌, refl, sym, ap, ◌∙◌}
use Prim.Native.Nat.{ℕ, ◌+◌, ◌-◌, ◌*◌, ◌/◌, ◌%◌, ◌<◌, ◌≤◌}
use native.Mathlib.Omega.{arith}
use lib.ListN.{length, get_or, take, drop, length-append}
use lib.Seq.{take-append_seam, drop-append_seam}
use Rattle.text.specs.Lines.{line_end}
use Rattle.line.specs.Chart.{Chart}
use Rattle.line.specs.Rules.{longest_text}
use Rattle.line.specs.Words.{moves_from, table_words, place_word}
use Rattle.chart.specs.declared.Part.{Part}
use Rattle.std.proofs.Common.{Result, Ok, Err}
use Rattle.chart.specs.declared.Refusal.{Refusal}
use Rattle.chart.specs.declared.Refusal.TheVariants.{TooLong, Line}
use Rattle.chart.specs.declared.Verdict.{Verdict}
use Rattle.chart.proofs.Rows.Filling.{numbered}
use Rattle.chart.specs.Reading.{Read, accepted, refused, read_chart, verdict_of, shown, verdict, at_start, nth_move, before_move, looked_up}
use Rattle.chart.specs.Parts.{after_move}
use Rattle.chart.specs.Rows.{rows_of, part_of}
use Rattle.chart.specs.Table.{Tabled, TableSays}
use Rattle.chart.proofs.Fold.Faults.{number_read}
use Rattle.chart.proofs.Fold.Found.{found_part}
use Rattle.chart.proofs.Fold.Round.{accepted-only}
use Rattle.chart.proofs.Rows.Places.{place_parts}
use Rattle.chart.proofs.Rows.Low.{every_at}
use Rattle.chart.proofs.Rows.Kinds.{move_place_lem}
use Rattle.chart.proofs.Rows.Said.{in_moves}

-- a refusal has a number
refusal-numbered : (f : Refusal) → (shown (Err f)).number ≡ 0 → ⊥
refusal-numbered TooLong e = absurd (omega arith)
refusal-numbered (Line n f) e = let l = numbered f in absurd (omega arith)

module _ (t : List ℕ) (k : ℕ) where
  -- A text that is refused, and one that is accepted

  pub none-refused : (r : Result Unit Refusal) → shown r ≡ verdict t → ((u : Unit {0}) → r ≡ Ok u → ⊥) → part_of at_start ≡ part_of (looked_up t k)
  unfolding verdict
  none-refused (Ok u) e o = absurd (o u refl)
  none-refused (Err f) e o = go (read_chart t) refl (λ z. refusal-numbered f (ap (λ (v : Verdict). v.number) e ∙ z))
    where
      go : (r : Read) → read_chart t ≡ r → ((verdict_of r).number ≡ 0 → ⊥) → part_of at_start ≡ part_of (looked_up t k)
      go (accepted c) e g = absurd (g refl)
      go (refused a n) e g = rw ((found_part t k).refused-text a n e)

  module _ (c : Chart) (q : read_chart t ≡ accepted c) where
    module _ (a : 1 ≤ k) (b : k ≤ length c.body.moves) where
      word_there : (before after : List ℕ) → length before ≡ table_words → Tabled (read_chart t) (rows_of t) before after
          → get_or after (moves_from + 3 * k - 1) 0 ≡ place_word (length (looked_up t k).before) (length (looked_up t k).part)
      word_there before after long s =
          let f = (found_part t k).condition c q a b in
          rw (f.0, f.1)
          (in_moves t c q before after long s (moves_from + 3 * k - 1) (3 * (k - 1) + 2) (omega arith) (omega arith) ∙ move_place_lem t c q (k - 1) _ (omega arith))

      -- a condition stands early enough and is short enough for a word
      small : (length (looked_up t k).before < longest_text) × (length (looked_up t k).part < 128)
      small =
          let w = (accepted-only t c q).0 in
          let f = (found_part t k).condition c q a b in
          let s = rw (← (accepted-only t c q).1) at w.short in
          let few : length (nth_move c k).condition ≤ 64 = (every_at _ w.moves (k - 1) (omega arith)).condition.short in
          let m = ap length f.2 ∙ length-append (before_move c k) _ in
          let n = length-append (nth_move c k).condition (line_end ∷ after_move c k) in
          rw (f.0, f.1) (omega arith, omega arith)

-- A text with answer 0, from which the code goes on, and its table

pub record Headed (t table : List ℕ) : Type 0 where
  pub chart : Chart
  pub is : read_chart t ≡ accepted chart
  pub moves : get_or table 7 0 ≡ length chart.body.moves

pub headed : (t table : List ℕ) (r : Result Unit Refusal) {u : Unit {0}} → r ≡ Ok u → shown r ≡ verdict t → TableSays t table → Headed t table
headed t table r q e s = let d = number_read t (ap (λ (v : Verdict). v.number) (sym e ∙ ap shown q)) in record { chart = d.chart; is = d.is; moves = (s d.chart d.is).head 7 (omega arith) }

module _ (t : List ℕ) (k : ℕ) {table : List ℕ} (d : Headed t table) where
  pub number-0 : k ≡ 0 → part_of at_start ≡ part_of (looked_up t k)
  number-0 e = rw ((found_part t k).number_0 e)

  pub too-high : get_or table 7 0 < k → part_of at_start ≡ part_of (looked_up t k)
  too-high l = rw ((found_part t k).too_high d.chart d.is (rw d.moves at l))

  module _ (o : k ≡ 0 → ⊥) (l : k ≤ get_or table 7 0) where
    range : (1 ≤ k) × (k ≤ length d.chart.body.moves)
    range = let e = d.moves in (omega arith, omega arith)

    pub row_inside : k ≤ 64
    row_inside = let r = range in let f = (accepted-only t d.chart d.is).0.few_moves in omega arith

    pub part_there : (before : List ℕ) → length before ≡ table_words → Tabled (read_chart t) (rows_of t) before table → (p : Part)
        → p ≡ record { start = get_or table (moves_from + 3 * k - 1) 0 / 128; length = get_or table (moves_from + 3 * k - 1) 0 % 128 } → p ≡ part_of (looked_up t k)
    part_there before long s p e =
        let m = small t k d.chart d.is range.0 range.1 in
        let w = place_parts (length (looked_up t k).before) (length (looked_up t k).part) m.0 m.1 in
        e ∙ rw (word_there t k d.chart d.is range.0 range.1 before table long s, w.0, w.1)

-- What was found lies within the text

module _ (t : List ℕ) (k : ℕ) where
  abbrev found_before : List ℕ
  found_before = (looked_up t k).before

  abbrev found : List ℕ
  found = (looked_up t k).part

  pub found_within : length found_before + length found ≤ length t
  found_within =
      let f = found_part t k in
      let m = ap length f.part ∙ length-append found_before (found ++ f.after) in
      let n = length-append found f.after in
      omega arith

  pub found_is : take (length found) (drop (length found_before) t) ≡ found
  found_is =
      let f = found_part t k in
      ap (λ (y : List ℕ). take (length found) (drop (length found_before) y)) f.part ∙ rw (drop-append_seam found_before (found ++ f.after)) (take-append_seam found f.after)
