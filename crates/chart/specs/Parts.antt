-- Which part of a text the lookup yields. 01: "that very part of the caller's text holding its condition": of two moves with equal conditions, the k-th
-- one's.
use Rattle.std.specs.Prelude.{List, [], ◌∷◌, ◌++◌, ◌≡◌, ℕ, ◌+◌, ◌<◌, ◌≤◌, length, drop}
use Rattle.std.specs.Borrow.{Bor}
use Rattle.text.specs.Lines.{line_end}
use Rattle.line.specs.Chart.{Chart}
use Rattle.line.specs.Write.{move', hold', latch', end', lines, total, write_lines}
use Rattle.chart.specs.Reading.{accepted, refused, read_chart, at_start, nth_move, before_move, looked_up}

-- after the k-th move's line: the move lines after it, and all other lines after the moves
abbrev pub after_move : Chart → ℕ → List ℕ
after_move c k =
    write_lines (lines move' (drop k c.body.moves) (lines hold' c.body.holds (lines latch' c.body.latches (end' (total c) ∷ []))))

pub record FoundPart (t : List ℕ) (k : ℕ) : Type 0 where
  -- for every text and number: a part of the text, and what follows it
  pub after : List ℕ
  pub part : t ≡ (looked_up t k).before ++ ((looked_up t k).part ++ after)
  -- "given a move's number, counted from 1 among the move lines": its condition, which ends its line
  pub condition : (c : Chart) → read_chart t ≡ accepted c → 1 ≤ k → k ≤ length c.body.moves
      → ((looked_up t k).before ≡ before_move c k) × ((looked_up t k).part ≡ (nth_move c k).condition)
      × (t ≡ before_move c k ++ ((nth_move c k).condition ++ line_end ∷ after_move c k))
  -- "For a refused text, number 0 or one too high it returns the empty part at the text's start."
  pub refused-text : (a n : ℕ) → read_chart t ≡ refused a n → looked_up t k ≡ at_start
  pub number_0 : k ≡ 0 → looked_up t k ≡ at_start
  pub too_high : (c : Chart) → read_chart t ≡ accepted c → length c.body.moves < k → looked_up t k ≡ at_start

-- the contract of `lookup`: the bytes of the part, and where in the text it lies
abbrev pub Looks : Bor (List ℕ) → ℕ → Bor (List ℕ) → Type 0
Looks text k r =
    (r.now ≡ (looked_up text.now k).part)
    × ((r.ref_ptr.0 ≡ text.ref_ptr.0) × (r.ref_ptr.1 ≡ text.ref_ptr.1 + length (looked_up text.now k).before))
