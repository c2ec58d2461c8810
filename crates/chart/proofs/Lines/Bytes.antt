-- The bytes of a line, its parts one after the other.
use mathlib.Core.List.{List, [], ◌∷◌, ◌++◌, append_assoc}
use mathlib.Core.Path.{◌≡◌, ap, ◌∙◌}
use Prim.Native.Nat.{ℕ}
use Rattle.text.specs.Decimal.{decimal}
use Rattle.line.specs.Chart.{Move, Hold}
use Rattle.line.specs.Write.{move', hold', k_move, k_hold, colon, arrow, list, write_line}

-- a condition stands right after the colon before it

pub move_bytes : (m : Move) → write_line (move' m) ≡ k_move ++ (list m.before ++ arrow ∷ (list m.after ++ colon ∷ m.condition))
unfolding write_line
move_bytes m =
    let a = append_assoc (list m.before) (arrow ∷ (list m.after ++ colon ∷ [])) m.condition in
    let b = append_assoc (list m.after) (colon ∷ []) m.condition in
    ap (λ (l : List ℕ). k_move ++ l) (a ∙ ap (λ (l : List ℕ). list m.before ++ arrow ∷ l) b)

pub hold-bytes : (x : Hold) → write_line (hold' x) ≡ k_hold ++ (decimal x.step ++ colon ∷ (decimal x.output ++ colon ∷ x.condition))
unfolding write_line
hold-bytes x =
    let a = append_assoc (decimal x.step) (colon ∷ (decimal x.output ++ colon ∷ [])) x.condition in
    let b = append_assoc (decimal x.output) (colon ∷ []) x.condition in
    ap (λ (l : List ℕ). k_hold ++ l) (a ∙ ap (λ (l : List ℕ). decimal x.step ++ colon ∷ l) b)
