-- A latch that is read part by part.
use mathlib.Core.Bool.{Bool, true, false, ◌||◌, or_comm}
use mathlib.Core.List.{List}
use mathlib.Core.Path.{◌≡◌, ◌∙◌}
use Prim.Native.Nat.{ℕ, ◌+◌}
use native.Mathlib.Omega.{arith}
use borrow.Author.Tests.{eq-eqb, ne_eqb}
use lib.Dec.{eqb}
use lib.ListN.{length}
use Rattle.std.specs.Prelude.{Some, None}
use Rattle.text.specs.Bytes.{byte_at}
use Rattle.text.specs.Numbers.{number}
use Rattle.line.specs.Write.{latch', wrong, colon, edge_byte, bit_byte}
use Rattle.line.specs.Shape.{latch_line, latch_to, only_line}
use Rattle.line.specs.Steps.{either}
use Rattle.line.proofs.Parts.{Past, either_some, either_none}

-- `STEP:E:`
module _ (w : List ℕ) (a step e g : ℕ) (read : number 7 (byte_at w) a ≡ Some (step, e)) (p : Past w e colon g) where
  pub no_edge : either (byte_at w g) (edge_byte true) (edge_byte false) ≡ None → latch_line w (number 7 (byte_at w) a) ≡ wrong
  unfolding latch_line only_line
  no_edge h = rw (read, p.stands, p.is, either_none (byte_at w g) (edge_byte true) (edge_byte false) h)

  pub edge_alone : (t : Bool) → either (byte_at w g) (edge_byte true) (edge_byte false) ≡ Some t → eqb (byte_at w (g + 1)) colon ≡ false
      → latch_line w (number 7 (byte_at w) a) ≡ wrong
  unfolding latch_line only_line
  edge_alone t h q =
      let n = p.is in
      let z : e + 2 ≡ g + 1 = omega arith in
      rw (read, p.stands, z, p.is, (either_some (byte_at w g) (edge_byte true) (edge_byte false) t h).0, q)

  pub edge_read : (t : Bool) (n : ℕ) → either (byte_at w g) (edge_byte true) (edge_byte false) ≡ Some t → Past w (g + 1) colon n
      → latch_line w (number 7 (byte_at w) a) ≡ latch_to w step t (number 7 (byte_at w) n)
  unfolding latch_line only_line
  edge_read t n h q =
      let m = p.is in
      let k = q.is in
      let z : e + 2 ≡ g + 1 = omega arith in
      let y : e + 3 ≡ n = omega arith in
      let x = either_some (byte_at w g) (edge_byte true) (edge_byte false) t h in
      rw (read, p.stands, z, y, p.is, x.0, q.stands, ← x.1)

-- `OUTPUT:V`
module _ (w : List ℕ) (step : ℕ) (t : Bool) (a output e g : ℕ) (read : number 7 (byte_at w) a ≡ Some (output, e)) (p : Past w e colon g) where
  flip : (eqb (byte_at w g) (bit_byte false) || eqb (byte_at w g) (bit_byte true)) ≡ (eqb (byte_at w g) (bit_byte true) || eqb (byte_at w g) (bit_byte false))
  flip = or_comm (eqb (byte_at w g) (bit_byte false)) (eqb (byte_at w g) (bit_byte true))

  pub no_value : either (byte_at w g) (bit_byte true) (bit_byte false) ≡ None → latch_to w step t (number 7 (byte_at w) a) ≡ wrong
  unfolding latch_to only_line
  no_value h = rw (read, p.stands, p.is, flip ∙ either_none (byte_at w g) (bit_byte true) (bit_byte false) h)

  pub value_long : (u : Bool) → either (byte_at w g) (bit_byte true) (bit_byte false) ≡ Some u → (g + 1 ≡ length w → ⊥) → latch_to w step t (number 7 (byte_at w) a) ≡ wrong
  unfolding latch_to only_line
  value_long u h q =
      let n = p.is in
      let z : e + 2 ≡ g + 1 = omega arith in
      rw (read, z, ne_eqb _ _ q, p.stands, p.is, flip ∙ (either_some (byte_at w g) (bit_byte true) (bit_byte false) u h).0)

  pub value_read : (u : Bool) → either (byte_at w g) (bit_byte true) (bit_byte false) ≡ Some u → g + 1 ≡ length w
      → latch_to w step t (number 7 (byte_at w) a) ≡ latch' (record { step = step; activation = t; output = output; on = u })
  unfolding latch_to only_line
  value_read u h q =
      let n = p.is in
      let z : e + 2 ≡ g + 1 = omega arith in
      let x = either_some (byte_at w g) (bit_byte true) (bit_byte false) u h in
      rw (read, z, eq-eqb _ _ q, p.stands, p.is, flip ∙ x.0, ← x.1)
