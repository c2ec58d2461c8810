-- A way of the code: the chart that stands in a lent table, with the text that its conditions lie in. `plan_is` (engine/proofs/Calls/Texts.antt) fixes what
-- it yields: in the table of an accepted text it is the text's chart.
use Rattle.std.specs.Prelude.{ℕ, zero, suc, ◌+◌, ◌*◌, ◌/◌, ◌%◌, min, List, [], ◌∷◌, get_or}
use Rattle.cond.specs.Meaning.{Cond}
use Rattle.cond.specs.Judging.{meaning}
use Rattle.line.specs.Chart.{Latch}
use Rattle.line.specs.Rules.{line_bound}
use Rattle.line.specs.Words.{part_at, steps_at, limit_at, move_count_at, hold_count_at, latch_count_at, moves_from, holds_from, latch_row}
use Rattle.evolve.specs.Net.{NetMove, NetHold, Net}
use Rattle.evolve.specs.declared.Chart.{Chart}

-- n rows of a table, from row i on
unfoldable pub rows_from : {A : Type 0} → (ℕ → A) → ℕ → ℕ → List A
rows_from row i zero = []
rows_from row i (suc n) = row i ∷ rows_from row (suc i) n

-- how many lines of a kind there are, by the word of the head that says so. 01, The chart text: "up to 64"
abbrev pub count_in : List ℕ → ℕ → ℕ
count_in t k = min (get_or t k 0) line_bound

-- the condition that a word names
abbrev pub condition_at : List ℕ → ℕ → Cond
condition_at text w = meaning (part_at text w)

unfoldable pub move_in : List ℕ → List ℕ → ℕ → NetMove
move_in text t i =
    record {
      before = get_or t (moves_from + 3 * i) 0;
      after = get_or t (moves_from + 3 * i + 1) 0;
      condition = condition_at text (get_or t (moves_from + 3 * i + 2) 0);
    }

-- the hold that one word stands for
abbrev pub hold_by : List ℕ → ℕ → NetHold
hold_by text w = record { step = w % 32; output = w / 32 % 32; condition = condition_at text (w / 1024) }

abbrev pub hold_in : List ℕ → List ℕ → ℕ → NetHold
hold_in text t i = hold_by text (get_or t (holds_from + i) 0)

unfoldable pub moves_in : List ℕ → List ℕ → List NetMove
moves_in text t = rows_from (move_in text t) 0 (count_in t move_count_at)

unfoldable pub holds_in : List ℕ → List ℕ → List NetHold
holds_in text t = rows_from (hold_in text t) 0 (count_in t hold_count_at)

unfoldable pub latches_in : List ℕ → List Latch
latches_in t = rows_from (latch_row t) 0 (count_in t latch_count_at)

unfoldable pub net_in : List ℕ → List ℕ → Net
net_in text t = record { steps = get_or t steps_at 0; limit = get_or t limit_at 0; moves = moves_in text t; latches = latches_in t }

-- the chart of a lent table and text
abbrev pub net : Chart → Net
net c = net_in c.text.now c.table.now
