-- What is written for a line has its shape.
use Rattle.std.proofs.Common.{Some}
use mathlib.Core.Bool.{Bool, true, false, ◌||◌}
use mathlib.Core.List.{List, [], ◌∷◌, ◌++◌, append-nil}
use mathlib.Core.Path.{◌≡◌, refl, sym, ap, ◌∙◌}
use Prim.Native.Nat.{ℕ, ◌+◌, ◌-◌, ◌<◌, ◌≤◌}
use native.Mathlib.Omega.{arith}
use borrow.Author.Tests.{eq-eqb}
use lib.Dec.{eqb}
use lib.ListN.{length, drop, length-append, length-drop}
use Rattle.text.specs.Bytes.{byte_at}
use Rattle.text.specs.Numbers.{number}
use Rattle.text.specs.Decimal.{decimal}
use Rattle.text.specs.Keys.{begins}
use Rattle.text.proofs.Decimal.{byte_head, drop_past}
use Rattle.line.specs.Chart.{Move, Hold, Latch}
use Rattle.line.specs.Kinds.{HeadNumber, version, steps, inputs, outputs, limit, number_line}
use Rattle.line.specs.Write.{Line, number', initial', move', hold', latch', end', wrong, k_initial, k_move, k_hold, k_latch, k_end, colon, arrow, list, write_line, edge_byte, bit_byte}
use Rattle.line.specs.Shape.{only_line, alone, one_number, initial_line, move_to, move_line, hold_to, hold_line, latch_to, latch_line, head_number, head_shape, shape}
use Rattle.line.specs.Rules.{beyond}
use Rattle.line.proofs.Lists.{comes, list_complete}
use Rattle.chart.specs.Shapes.{Low}
use Rattle.chart.proofs.Lines.Numbers.{none-beyond}
use Rattle.chart.proofs.Lines.Bytes.{move_bytes, hold-bytes}

alone_complete : (w : List ℕ) (p v : ℕ) → v < 10000000 → drop p w ≡ decimal v → p ≤ length w → alone w (number 7 (byte_at w) p) ≡ Some v
unfolding alone
alone_complete w p v h q l =
    let n = comes v w p [] h (q ∙ sym (append-nil (decimal v))) refl in
    let m : length w - p ≡ length (decimal v) = sym (length-drop p w) ∙ ap length q in
    let e : p + length (decimal v) ≡ length w = omega arith in
    rw (n, e, eq-eqb (length w) (length w) refl)

module _ (m : Move) (f : beyond 10000000 m.before ≡ false) (g : beyond 10000000 m.after ≡ false) where
  move_complete : shape (write_line (move' m)) ≡ move' m
  unfolding shape begins move_line move_to only_line
  move_complete =
      let t2 : List ℕ = colon ∷ m.condition in
      let t1 : List ℕ = arrow ∷ (list m.after ++ t2) in
      let w : List ℕ = k_move ++ (list m.before ++ t1) in
      let e : ℕ = 5 + length (list m.before) in
      let k : ℕ = e + 1 + length (list m.after) in
      let a = list_complete m.before w 5 t1 f refl refl (λ z. omega arith) in
      let d1 : drop e w ≡ t1 = drop_past w 5 (list m.before) t1 refl in
      let b1 : byte_at w e ≡ arrow = byte_head w e t1 d1 in
      let d2 : drop (e + 1) w ≡ list m.after ++ t2 = drop_past w e (arrow ∷ []) (list m.after ++ t2) d1 in
      let a2 = list_complete m.after w (e + 1) t2 g d2 refl (λ z. omega arith) in
      let d3 : drop k w ≡ t2 = drop_past w (e + 1) (list m.after) t2 d2 in
      let b2 : byte_at w k ≡ colon = byte_head w k t2 d3 in
      let d4 : drop (k + 1) w ≡ m.condition = drop_past w k (colon ∷ []) m.condition d3 in
      ap shape (move_bytes m) ∙ rw (a, b1, a2, b2, d4)

module _ (m : Hold) (f : m.step < 10000000) (g : m.output < 10000000) where
  hold_complete : shape (write_line (hold' m)) ≡ hold' m
  unfolding shape begins hold_line hold_to only_line
  hold_complete =
      let t2 : List ℕ = colon ∷ m.condition in
      let t1 : List ℕ = colon ∷ (decimal m.output ++ t2) in
      let w : List ℕ = k_hold ++ (decimal m.step ++ t1) in
      let e : ℕ = 5 + length (decimal m.step) in
      let k : ℕ = e + 1 + length (decimal m.output) in
      let a = comes m.step w 5 t1 f refl refl in
      let d1 : drop e w ≡ t1 = drop_past w 5 (decimal m.step) t1 refl in
      let b1 : byte_at w e ≡ colon = byte_head w e t1 d1 in
      let d2 : drop (e + 1) w ≡ decimal m.output ++ t2 = drop_past w e (colon ∷ []) (decimal m.output ++ t2) d1 in
      let a2 = comes m.output w (e + 1) t2 g d2 refl in
      let d3 : drop k w ≡ t2 = drop_past w (e + 1) (decimal m.output) t2 d2 in
      let b2 : byte_at w k ≡ colon = byte_head w k t2 d3 in
      let d4 : drop (k + 1) w ≡ m.condition = drop_past w k (colon ∷ []) m.condition d3 in
      ap shape (hold-bytes m) ∙ rw (a, b1, a2, b2, d4)

edge-back : (u : Bool) → (eqb (edge_byte u) (edge_byte true) ≡ u) × ((eqb (edge_byte u) (edge_byte true) || eqb (edge_byte u) (edge_byte false)) ≡ true)
edge-back true = (refl, refl)
edge-back false = (refl, refl)

bit-back : (u : Bool) → (eqb (bit_byte u) (bit_byte true) ≡ u) × ((eqb (bit_byte u) (bit_byte false) || eqb (bit_byte u) (bit_byte true)) ≡ true)
bit-back true = (refl, refl)
bit-back false = (refl, refl)

module _ (m : Latch) (f : m.step < 10000000) (g : m.output < 10000000) where
  latch_complete : shape (write_line (latch' m)) ≡ latch' m
  unfolding shape begins write_line latch_line latch_to only_line
  latch_complete =
      let t2 : List ℕ = colon ∷ bit_byte m.on ∷ [] in
      let s : List ℕ = colon ∷ (decimal m.output ++ t2) in
      let t1 : List ℕ = colon ∷ edge_byte m.activation ∷ s in
      let w : List ℕ = k_latch ++ (decimal m.step ++ t1) in
      let e : ℕ = 6 + length (decimal m.step) in
      let k : ℕ = e + 3 + length (decimal m.output) in
      let a = comes m.step w 6 t1 f refl refl in
      let d1 : drop e w ≡ t1 = drop_past w 6 (decimal m.step) t1 refl in
      let b1 : byte_at w e ≡ colon = byte_head w e t1 d1 in
      let d2 : drop (e + 1) w ≡ edge_byte m.activation ∷ s = drop_past w e (colon ∷ []) (edge_byte m.activation ∷ s) d1 in
      let b2 : byte_at w (e + 1) ≡ edge_byte m.activation = byte_head w (e + 1) (edge_byte m.activation ∷ s) d2 in
      let d3 : drop (e + 2) w ≡ s = drop_past w e (colon ∷ edge_byte m.activation ∷ []) s d1 in
      let b3 : byte_at w (e + 2) ≡ colon = byte_head w (e + 2) s d3 in
      let d4 : drop (e + 3) w ≡ decimal m.output ++ t2 = drop_past w e (colon ∷ edge_byte m.activation ∷ colon ∷ []) (decimal m.output ++ t2) d1 in
      let a2 = comes m.output w (e + 3) t2 g d4 refl in
      let d5 : drop k w ≡ t2 = drop_past w (e + 3) (decimal m.output) t2 d4 in
      let b5 : byte_at w k ≡ colon = byte_head w k t2 d5 in
      let d6 : drop (k + 1) w ≡ bit_byte m.on ∷ [] = drop_past w k (colon ∷ []) (bit_byte m.on ∷ []) d5 in
      let b6 : byte_at w (k + 1) ≡ bit_byte m.on = byte_head w (k + 1) (bit_byte m.on ∷ []) d6 in
      let n : k + 2 ≡ length w = (let z = length-append (decimal m.step) t1 in let y = length-append (decimal m.output) t2 in omega arith) in
      let u = edge-back m.activation in
      let v = bit-back m.on in
      rw (a, b1, b2, b3, u.1, u.0, a2, b5, b6, v.1, v.0, eq-eqb (k + 2) (length w) n)

-- Lines of one number, or of one list

number_complete : (q : HeadNumber) (v : ℕ) → v < 10000000 → shape (write_line (number' q v)) ≡ number' q v
unfolding shape head_shape begins write_line head_number one_number
number_complete version v h = rw (alone_complete ((number_line version).key ++ decimal v) 6 v h refl (omega arith))
number_complete steps v h = rw (alone_complete ((number_line steps).key ++ decimal v) 6 v h refl (omega arith))
number_complete inputs v h = rw (alone_complete ((number_line inputs).key ++ decimal v) 7 v h refl (omega arith))
number_complete outputs v h = rw (alone_complete ((number_line outputs).key ++ decimal v) 8 v h refl (omega arith))
number_complete limit v h = rw (alone_complete ((number_line limit).key ++ decimal v) 6 v h refl (omega arith))

end_complete : (v : ℕ) → v < 10000000 → shape (write_line (end' v)) ≡ end' v
unfolding shape begins write_line one_number
end_complete v h = rw (alone_complete (k_end ++ decimal v) 4 v h refl (omega arith))

initial_complete : (l : List ℕ) → beyond 10000000 l ≡ false → shape (write_line (initial' l)) ≡ initial' l
unfolding shape head_shape begins write_line initial_line only_line
initial_complete l h =
    let a = list_complete l (k_initial ++ list l) 8 [] h (sym (append-nil (list l))) refl (λ z. omega arith) in
    rw (a, eq-eqb (8 + length (list l)) (length (k_initial ++ list l)) (omega arith))

pub line_complete : (l : Line) → (l ≡ wrong → ⊥) → Low l → shape (write_line l) ≡ l
line_complete (number' q v) n h = number_complete q v h
line_complete (initial' l) n h = initial_complete l (none-beyond 10000000 l h)
line_complete (move' m) n h = move_complete m (none-beyond 10000000 m.before h.0) (none-beyond 10000000 m.after h.1)
line_complete (hold' x) n h = hold_complete x h.0 h.1
line_complete (latch' x) n h = latch_complete x h.0 h.1
line_complete (end' v) n h = end_complete v h
line_complete wrong n h = absurd (n refl)
