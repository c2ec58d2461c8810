-- A way of the code: the line that bytes are, read part by part. What it yields is fixed by `shape-written` and `no_shape` (chart/proofs/Promises.antt): a line is
-- read exactly from the bytes that `write_line` gives it, and bytes have no shape exactly if no line is written so.
use Rattle.std.specs.Prelude.{Bool, true, false, cond, ◌&&◌, ◌||◌, List, [], ◌∷◌, ℕ, Option, Some, None, zero, suc, ◌+◌, eqb, length, drop}
use Rattle.text.specs.Bytes.{byte_at}
use Rattle.text.specs.Numbers.{Found, is_digit, number}
use Rattle.text.specs.Keys.{begins}
use Rattle.line.specs.Kinds.{HeadNumber, version, steps, inputs, outputs, limit, number_line}
use Rattle.line.specs.Write.{Line, number', initial', move', hold', latch', end', wrong, k_initial, k_move, k_hold, k_latch, k_end, comma, colon, arrow, edge_byte, bit_byte}

-- Lists: "numbers joined by commas, perhaps empty"

-- a list that was read, with the place after it
pub data Listed : Type 0 where
  got : List ℕ → ℕ → Listed
  none : Listed

unfoldable pub in_front : ℕ → Listed → Listed
in_front v (got l e) = got (v ∷ l) e
in_front v none = none

unfoldable pub comma_if : Bool → (ℕ → Listed) → ℕ → ℕ → Listed
comma_if true f v e = in_front v (f (e + 1))
comma_if false f v e = got (v ∷ []) e

unfoldable pub item_then : (ℕ → Listed) → List ℕ → Found → Listed
item_then f w (Some (v, e)) = comma_if (eqb (byte_at w e) comma) f v e
item_then f w None = none

-- numbers joined by commas, at most n
unfoldable pub items : ℕ → List ℕ → ℕ → Listed
items zero w a = none
items (suc n) w a = item_then (λ k. items n w k) w (number 7 (byte_at w) a)

unfoldable pub list_at : List ℕ → ℕ → Listed
list_at w a = cond (is_digit (byte_at w a)) (items (length w + 1) w a) (got [] a)

-- Shapes: what stands after the key

unfoldable pub only_line : Bool → Line → Line
only_line true l = l
only_line false l = wrong

-- one number and no more
unfoldable pub alone : List ℕ → Found → Option ℕ
alone w (Some (v, e)) = cond (eqb e (length w)) (Some v) None
alone w None = None

unfoldable pub one_number : (ℕ → Line) → Option ℕ → Line
one_number f (Some v) = f v
one_number f None = wrong

-- `LIST`
unfoldable pub initial_line : List ℕ → Listed → Line
initial_line w (got l e) = only_line (eqb e (length w)) (initial' l)
initial_line w none = wrong

-- `LIST>LIST:COND`; "The condition is everything after a move's first colon"
unfoldable pub move_to : List ℕ → List ℕ → Listed → Line
move_to w x (got y e) = only_line (eqb (byte_at w e) colon) (move' (record { before = x; after = y; condition = drop (e + 1) w }))
move_to w x none = wrong

unfoldable pub move_line : List ℕ → Listed → Line
move_line w (got x e) = only_line (eqb (byte_at w e) arrow) (move_to w x (list_at w (e + 1)))
move_line w none = wrong

-- `STEP:OUTPUT:COND`; ".. or a hold's second"
unfoldable pub hold_to : List ℕ → ℕ → Found → Line
hold_to w x (Some (y, e)) = only_line (eqb (byte_at w e) colon) (hold' (record { step = x; output = y; condition = drop (e + 1) w }))
hold_to w x None = wrong

unfoldable pub hold_line : List ℕ → Found → Line
hold_line w (Some (x, e)) = only_line (eqb (byte_at w e) colon) (hold_to w x (number 7 (byte_at w) (e + 1)))
hold_line w None = wrong

-- `STEP:E:OUTPUT:V`; "E is `u` (activation) or `d` (deactivation), V is 0 or 1"
abbrev pub value_shape : List ℕ → ℕ → Bool
value_shape w e = eqb (byte_at w e) colon && ((eqb (byte_at w (e + 1)) (bit_byte false) || eqb (byte_at w (e + 1)) (bit_byte true)) && eqb (e + 2) (length w))

abbrev pub edge_shape : List ℕ → ℕ → Bool
edge_shape w e = eqb (byte_at w e) colon && ((eqb (byte_at w (e + 1)) (edge_byte true) || eqb (byte_at w (e + 1)) (edge_byte false)) && eqb (byte_at w (e + 2)) colon)

unfoldable pub latch_to : List ℕ → ℕ → Bool → Found → Line
latch_to w x u (Some (y, e)) = only_line (value_shape w e) (latch' (record { step = x; activation = u; output = y; on = eqb (byte_at w (e + 1)) (bit_byte true) }))
latch_to w x u None = wrong

unfoldable pub latch_line : List ℕ → Found → Line
latch_line w (Some (x, e)) = only_line (edge_shape w e) (latch_to w x (eqb (byte_at w (e + 1)) (edge_byte true)) (number 7 (byte_at w) (e + 3)))
latch_line w None = wrong

-- a number line of the head
unfoldable pub head_number : HeadNumber → List ℕ → Line
head_number q w = one_number (number' q) (alone w (number 7 (byte_at w) (length (number_line q).key)))

-- the number line, where its key is there, or what else the line is
abbrev pub or_else : HeadNumber → List ℕ → Line → Line
or_else q w l = cond (begins (number_line q).key w) (head_number q w) l

-- a line with a key of the head
unfoldable pub head_shape : List ℕ → Line
head_shape w =
    or_else version w
    (or_else steps w
    (cond (begins k_initial w) (initial_line w (list_at w (length k_initial)))
    (or_else inputs w
    (or_else outputs w
    (or_else limit w wrong)))))

-- the line that bytes are, none of which is byte 10
unfoldable pub shape : List ℕ → Line
shape w =
    cond (begins k_move w) (move_line w (list_at w (length k_move)))
    (cond (begins k_hold w) (hold_line w (number 7 (byte_at w) (length k_hold)))
    (cond (begins k_latch w) (latch_line w (number 7 (byte_at w) (length k_latch)))
    (cond (begins k_end w) (one_number end' (alone w (number 7 (byte_at w) (length k_end))))
    (head_shape w))))
