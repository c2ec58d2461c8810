-- Words of a table by its areas: a store in one area leaves the others as they are.
use mathlib.Core.List.{List, [], ◌∷◌, ◌++◌}
use mathlib.Core.Path.{◌≡◌, refl, ap, ◌∙◌}
use Prim.Native.Nat.{ℕ, suc, ◌+◌, ◌-◌, ◌*◌, ◌<◌, ◌≤◌}
use native.Mathlib.Omega.{arith}
use lib.ListN.{length, get_or, take, drop, set, length-drop}
use lib.Seq.{sets, get_or-take, get_or-drop, take-set-le, take-set-lt, drop-set-lt, drop-set-add, length-take-le}
use Rattle.line.specs.declared.Known.{Known}
use Rattle.line.specs.declared.Row.TheVariants.{Move, Hold, Latch}
use Rattle.line.specs.Rules.{line_bound}
use Rattle.line.specs.Words.{moves_from, holds_from, latches_from}
use Rattle.chart.specs.Rows.{HasRow, area, Stored}

-- Runs of stores

-- words stored in two parts
pub sets_append : (u v t : List ℕ) (i : ℕ) → sets t i (u ++ v) ≡ sets (sets t i u) (i + length u) v
sets_append [] v t i = let e : i + 0 ≡ i = omega arith in rw e
sets_append (b ∷ u) v t i = let e : suc i + length u ≡ i + suc (length u) = omega arith in rw (← e) (sets_append u v _ (suc i))

-- One area, of n words from a place on

module _ (from n : ℕ) where
  -- a table that reaches to its end has all of them
  pub area_length : (t : List ℕ) → from + n ≤ length t → length (area from n t) ≡ n
  area_length t l = let d = length-drop from t in length-take-le n (drop from t) (omega arith)

  -- a word of the table is one of it
  pub area-word : (t : List ℕ) (i : ℕ) → i < n → get_or t (from + i) 0 ≡ get_or (area from n t) i 0
  area-word t i l = rw (get_or-take n (drop from t) i 0 l, get_or-drop from t i 0)

  -- a word stored in it is stored in the table
  set_within : (t : List ℕ) (i x : ℕ) → i < n → area from n (set t (from + i) x) ≡ set (area from n t) i x
  set_within t i x l = ap (take n) (drop-set-add from t i x) ∙ take-set-lt n (drop from t) i x l

  -- one stored before it or after it leaves it as it is
  set_before : (t : List ℕ) (i x : ℕ) → i < from → area from n (set t i x) ≡ area from n t
  set_before t i x l = ap (take n) (drop-set-lt from t i x l)

  set_after : (t : List ℕ) (i x : ℕ) → from + n ≤ i → area from n (set t i x) ≡ area from n t
  set_after t i x l =
      let e : i ≡ from + (i - from) = omega arith in
      ap (λ (j : ℕ). area from n (set t j x)) e ∙ ap (take n) (drop-set-add from t (i - from) x) ∙ take-set-le n (drop from t) (i - from) x (omega arith)

  -- the same of several words
  pub sets-within : (w t : List ℕ) (i j : ℕ) → j ≡ from + i → i + length w ≤ n → area from n (sets t j w) ≡ sets (area from n t) i w
  sets-within [] t i j e l = refl
  sets-within (x ∷ w) t i j e l =
      sets-within w (set t j x) (suc i) (suc j) (omega arith) (omega arith)
      ∙ ap (λ (a : List ℕ). sets a (suc i) w) (ap (λ (k : ℕ). area from n (set t k x)) e ∙ set_within t i x (omega arith))

  pub sets-before : (w t : List ℕ) (j : ℕ) → j + length w ≤ from → area from n (sets t j w) ≡ area from n t
  sets-before [] t j l = refl
  sets-before (x ∷ w) t j l = sets-before w (set t j x) (suc j) (omega arith) ∙ set_before t j x (omega arith)

  pub sets-after : (w t : List ℕ) (j : ℕ) → from + n ≤ j → area from n (sets t j w) ≡ area from n t
  sets-after [] t j l = refl
  sets-after (x ∷ w) t j l = sets-after w (set t j x) (suc j) (omega arith) ∙ set_after t j x l

-- One row stored, which is counted already, as the last of its kind: only the area of its kind is another

module _ (h : Known) (table : List ℕ) where
  pub stored_move : (b a p : ℕ) → HasRow h.moves → Stored h (Move b a p) table (sets table (moves_from + 3 * (h.moves - 1)) (b ∷ a ∷ p ∷ []))
  stored_move b a p o =
      let i = 3 * (h.moves - 1) in
      let w = b ∷ a ∷ p ∷ [] in
      let e : 3 * h.moves - 3 ≡ i = omega arith in
      record {
        head = sets-after 0 moves_from w table (moves_from + i) (omega arith);
        moves = rw e (sets-within moves_from (3 * line_bound) w table i (moves_from + i) refl (omega arith));
        holds = sets-before holds_from line_bound w table (moves_from + i) (omega arith);
        latches = sets-before latches_from line_bound w table (moves_from + i) (omega arith);
      }

  pub stored_hold : (x : ℕ) → HasRow h.holds → Stored h (Hold x) table (set table (holds_from + (h.holds - 1)) x)
  stored_hold x o =
      let i = h.holds - 1 in
      let w = x ∷ [] in
      record {
        head = sets-after 0 moves_from w table (holds_from + i) (omega arith);
        moves = sets-after moves_from (3 * line_bound) w table (holds_from + i) (omega arith);
        holds = sets-within holds_from line_bound w table i (holds_from + i) refl (omega arith);
        latches = sets-before latches_from line_bound w table (holds_from + i) (omega arith);
      }

  pub stored_latch : (x : ℕ) → HasRow h.latches → Stored h (Latch x) table (set table (latches_from + (h.latches - 1)) x)
  stored_latch x o =
      let i = h.latches - 1 in
      let w = x ∷ [] in
      record {
        head = sets-after 0 moves_from w table (latches_from + i) (omega arith);
        moves = sets-after moves_from (3 * line_bound) w table (latches_from + i) (omega arith);
        holds = sets-after holds_from line_bound w table (latches_from + i) (omega arith);
        latches = sets-within latches_from line_bound w table i (latches_from + i) refl (omega arith);
      }
