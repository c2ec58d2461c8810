-- What has the shape of a line is what is written for it.
use Rattle.std.proofs.Common.{Some, None}
use mathlib.Core.Bool.{Bool, true, false, cond, ◌||◌, false≢true}
use mathlib.Core.List.{List, [], ◌∷◌, ◌++◌, append-nil}
use mathlib.Core.Path.{◌≡◌, refl, sym, ap, ◌∙◌}
use Prim.Native.Nat.{ℕ, ◌+◌, ◌<◌}
use native.Mathlib.Omega.{arith}
use borrow.Author.Tests.{eqb-true}
use lib.Dec.{eqb}
use lib.ListN.{length, drop}
use lib.Seq.{drop-length}
use Rattle.text.specs.Bytes.{byte_at}
use Rattle.text.specs.Numbers.{number}
use Rattle.text.specs.Decimal.{decimal}
use Rattle.text.specs.Keys.{begins}
use Rattle.text.specs.Runs.{Found}
use Rattle.text.proofs.Beginning.{begins_sound}
use Rattle.text.proofs.Decimal.{cut}
use Rattle.line.specs.Chart.{Move, Hold}
use Rattle.line.specs.Kinds.{HeadNumber, version, steps, inputs, outputs, limit, number_line}
use Rattle.line.specs.Write.{Line, number', initial', move', hold', latch', end', wrong, k_initial, k_move, k_hold, k_latch, k_end, colon, arrow, write_line, edge_byte, bit_byte}
use Rattle.line.specs.Shape.{Listed, got, none, list_at, only_line, alone, one_number, initial_line, move_to, move_line, hold_to, hold_line, latch_to, latch_line, edge_shape, value_shape, head_number, head_shape, shape}
use Rattle.line.proofs.Answers.{and_both}
use Rattle.line.proofs.Lists.{Went, went, Listing, list_sound}
use Rattle.chart.specs.Shapes.{Low, Digits7}
use Rattle.chart.proofs.Lines.Numbers.{below}
use Rattle.chart.proofs.Lines.Bytes.{move_bytes, hold-bytes}

-- bytes that are what is written for a line of low numbers, or of no shape
pub data Fits (w : List ℕ) : Line → Type 0 where
  fits : (l : Line) → w ≡ write_line l → Low l → Fits w l
  misfit : Fits w wrong

module _ (w : List ℕ) where
  fits_else : (t : Bool) {x y : Line} → (t ≡ true → Fits w x) → Fits w y → Fits w (cond t x y)
  fits_else true f g = f refl
  fits_else false f g = g

  fits-only : (t : Bool) {x : Line} → (t ≡ true → Fits w x) → Fits w (only_line t x)
  unfolding only_line
  fits-only true f = f refl
  fits-only false f = misfit

  -- Lines of one number, or of one list

  fits-number : (f : ℕ → Line) (k : List ℕ) → ((v : ℕ) → write_line (f v) ≡ k ++ decimal v) → ((v : ℕ) → Digits7 v → Low (f v)) → begins k w ≡ true
      → Fits w (one_number f (alone w (number 7 (byte_at w) (length k))))
  unfolding one_number alone
  fits-number f k h lo b = go (number 7 (byte_at w) (length k)) refl
    where
      ends : (v e : ℕ) → Went w (length k) e v → (t : Bool) → eqb e (length w) ≡ t → Fits w (one_number f (cond t (Some v) None))
      ends v e q true z =
          let y : e ≡ length w = eqb-true e (length w) z in
          fits (f v) (begins_sound k w b ∙ rw (q.is, y, drop-length, append-nil, h v)) (lo v q.low)
      ends v e q false z = misfit

      go : (x : Found) → number 7 (byte_at w) (length k) ≡ x → Fits w (one_number f (alone w x))
      go (Some (v, e)) q = ends v e (went w (length k) e v q) (eqb e (length w)) refl
      go None q = misfit

  fits_head : (q : HeadNumber) → begins (number_line q).key w ≡ true → Fits w (head_number q w)
  unfolding head_number write_line
  fits_head q = fits-number (number' q) (number_line q).key (λ v. refl) (λ v h. h)

  fits-initial : begins k_initial w ≡ true → Fits w (initial_line w (list_at w (length k_initial)))
  unfolding initial_line write_line
  fits-initial b = go (list_at w (length k_initial)) refl
    where
      go : (x : Listed) → list_at w (length k_initial) ≡ x → Fits w (initial_line w x)
      go (got l e) q =
          let s = list_sound w (length k_initial) l e q in
          fits-only (eqb e (length w)) (λ z.
          let y : e ≡ length w = eqb-true e (length w) z in
          fits (initial' l) (begins_sound k_initial w b ∙ rw (s.is, y, drop-length, append-nil)) (below 10000000 l s.low))
      go none q = misfit

  -- Moves

  fits-move_to : (x : List ℕ) (e : ℕ) → begins k_move w ≡ true → Listing w 5 e x → byte_at w e ≡ arrow → Fits w (move_to w x (list_at w (e + 1)))
  unfolding move_to
  fits-move_to x e b p c = go (list_at w (e + 1)) refl
    where
      go : (o : Listed) → list_at w (e + 1) ≡ o → Fits w (move_to w x o)
      go (got y k) q =
          let s = list_sound w (e + 1) y k q in
          fits-only (eqb (byte_at w k) colon) (λ z.
          let d = cut w k colon (eqb-true (byte_at w k) colon z) (omega arith) in
          let i = p.is ∙ rw (cut w e arrow c (omega arith), s.is, d) in
          let m : Move = record { before = x; after = y; condition = drop (k + 1) w } in
          fits (move' m) (begins_sound k_move w b ∙ ap (λ (l : List ℕ). k_move ++ l) i ∙ sym (move_bytes m)) (below 10000000 x p.low, below 10000000 y s.low))
      go none q = misfit

  fits_move : begins k_move w ≡ true → Fits w (move_line w (list_at w 5))
  unfolding move_line
  fits_move b = go (list_at w 5) refl
    where
      go : (o : Listed) → list_at w 5 ≡ o → Fits w (move_line w o)
      go (got x e) q = fits-only (eqb (byte_at w e) arrow) (λ z. fits-move_to x e b (list_sound w 5 x e q) (eqb-true (byte_at w e) arrow z))
      go none q = misfit

  -- Holds

  fits-hold_to : (x e : ℕ) → begins k_hold w ≡ true → Went w 5 e x → byte_at w e ≡ colon → Fits w (hold_to w x (number 7 (byte_at w) (e + 1)))
  unfolding hold_to
  fits-hold_to x e b p c = go (number 7 (byte_at w) (e + 1)) refl
    where
      go : (o : Found) → number 7 (byte_at w) (e + 1) ≡ o → Fits w (hold_to w x o)
      go (Some (y, k)) q =
          let s = went w (e + 1) k y q in
          fits-only (eqb (byte_at w k) colon) (λ z.
          let d = cut w k colon (eqb-true (byte_at w k) colon z) (omega arith) in
          let i = p.is ∙ rw (cut w e colon c (omega arith), s.is, d) in
          let m : Hold = record { step = x; output = y; condition = drop (k + 1) w } in
          fits (hold' m) (begins_sound k_hold w b ∙ ap (λ (l : List ℕ). k_hold ++ l) i ∙ sym (hold-bytes m)) (p.low, s.low))
      go None q = misfit

  fits-hold : begins k_hold w ≡ true → Fits w (hold_line w (number 7 (byte_at w) 5))
  unfolding hold_line
  fits-hold b = go (number 7 (byte_at w) 5) refl
    where
      go : (o : Found) → number 7 (byte_at w) 5 ≡ o → Fits w (hold_line w o)
      go (Some (x, e)) q = fits-only (eqb (byte_at w e) colon) (λ z. fits-hold_to x e b (went w 5 e x q) (eqb-true (byte_at w e) colon z))
      go None q = misfit

-- Latches

-- a byte that is one of two, by the test for one of them
one_of : (b x y : ℕ) → (eqb b x || eqb b y) ≡ true → b ≡ cond (eqb b x) x y
one_of b x y h = go (eqb b x) refl (eqb b y) refl h
  where
    go : (t : Bool) → eqb b x ≡ t → (u : Bool) → eqb b y ≡ u → (t || u) ≡ true → b ≡ cond t x y
    go true p u q z = eqb-true b x p
    go false p true q z = eqb-true b y q
    go false p false q z = absurd (false≢true z)

edge-is : (t : Bool) → cond t (edge_byte true) (edge_byte false) ≡ edge_byte t
edge-is true = refl
edge-is false = refl

bit_is : (b : ℕ) → cond (eqb b (bit_byte false)) (bit_byte false) (bit_byte true) ≡ b → b ≡ bit_byte (eqb b (bit_byte true))
bit_is b h = go (eqb b (bit_byte false)) refl h
  where
    go : (t : Bool) → eqb b (bit_byte false) ≡ t → cond t (bit_byte false) (bit_byte true) ≡ b → b ≡ bit_byte (eqb b (bit_byte true))
    go true q z = rw (← z)
    go false q z = rw (← z)

edge-some : (t : Bool) → 0 < edge_byte t
edge-some true = omega arith
edge-some false = omega arith

bit-some : (t : Bool) → 0 < bit_byte t
bit-some true = omega arith
bit-some false = omega arith

-- the three bytes after a latch's step
edged : (w : List ℕ) (e : ℕ) → edge_shape w e ≡ true → drop e w ≡ colon ∷ edge_byte (eqb (byte_at w (e + 1)) (edge_byte true)) ∷ colon ∷ drop (e + 3) w
edged w e c =
    let p = and_both (eqb (byte_at w e) colon) _ c in
    let q = and_both (eqb (byte_at w (e + 1)) (edge_byte true) || eqb (byte_at w (e + 1)) (edge_byte false)) _ p.1 in
    let u = eqb (byte_at w (e + 1)) (edge_byte true) in
    let c1 = eqb-true (byte_at w e) colon p.0 in
    let c2 = one_of (byte_at w (e + 1)) (edge_byte true) (edge_byte false) q.0 ∙ edge-is u in
    let c3 = eqb-true (byte_at w (e + 2)) colon q.1 in
    let e2 : e + 1 + 1 ≡ e + 2 = omega arith in
    let e3 : e + 2 + 1 ≡ e + 3 = omega arith in
    let d2 : drop (e + 1) w ≡ edge_byte u ∷ drop (e + 2) w = rw e2 at (cut w (e + 1) _ c2 (edge-some u)) in
    let d3 : drop (e + 2) w ≡ colon ∷ drop (e + 3) w = rw e3 at (cut w (e + 2) colon c3 (omega arith)) in
    rw (cut w e colon c1 (omega arith), d2, d3)

-- the two bytes after its output
valued : (w : List ℕ) (k : ℕ) → value_shape w k ≡ true → drop k w ≡ colon ∷ bit_byte (eqb (byte_at w (k + 1)) (bit_byte true)) ∷ []
valued w k z =
    let p = and_both (eqb (byte_at w k) colon) _ z in
    let q = and_both (eqb (byte_at w (k + 1)) (bit_byte false) || eqb (byte_at w (k + 1)) (bit_byte true)) _ p.1 in
    let u = eqb (byte_at w (k + 1)) (bit_byte true) in
    let z1 = eqb-true (byte_at w k) colon p.0 in
    let z2 = bit_is (byte_at w (k + 1)) (sym (one_of (byte_at w (k + 1)) (bit_byte false) (bit_byte true) q.0)) in
    let z3 : k + 2 ≡ length w = eqb-true (k + 2) (length w) q.1 in
    let k2 : k + 1 + 1 ≡ k + 2 = omega arith in
    let d : drop (k + 1) w ≡ bit_byte u ∷ drop (k + 2) w = rw k2 at (cut w (k + 1) _ z2 (bit-some u)) in
    rw (cut w k colon z1 (omega arith), d, z3, drop-length)

module _ (w : List ℕ) where
  fits-latch_to : (x e : ℕ) → begins k_latch w ≡ true → Went w 6 e x → edge_shape w e ≡ true
      → Fits w (latch_to w x (eqb (byte_at w (e + 1)) (edge_byte true)) (number 7 (byte_at w) (e + 3)))
  unfolding latch_to write_line
  fits-latch_to x e b p c = go (number 7 (byte_at w) (e + 3)) refl
    where
      go : (o : Found) → number 7 (byte_at w) (e + 3) ≡ o → Fits w (latch_to w x (eqb (byte_at w (e + 1)) (edge_byte true)) o)
      go (Some (y, k)) q =
          let s = went w (e + 3) k y q in
          fits-only w (value_shape w k) (λ z.
          let i = p.is ∙ rw (edged w e c, s.is, valued w k z) in
          fits (latch' (record { step = x; activation = eqb (byte_at w (e + 1)) (edge_byte true); output = y; on = eqb (byte_at w (k + 1)) (bit_byte true) }))
          (begins_sound k_latch w b ∙ ap (λ (l : List ℕ). k_latch ++ l) i) (p.low, s.low))
      go None q = misfit

  fits-latch : begins k_latch w ≡ true → Fits w (latch_line w (number 7 (byte_at w) 6))
  unfolding latch_line
  fits-latch b = go (number 7 (byte_at w) 6) refl
    where
      go : (o : Found) → number 7 (byte_at w) 6 ≡ o → Fits w (latch_line w o)
      go (Some (x, e)) q = fits-only w (edge_shape w e) (λ z. fits-latch_to x e b (went w 6 e x q) z)
      go None q = misfit

pub line_sound : (w : List ℕ) → Fits w (shape w)
unfolding shape head_shape write_line
line_sound w =
    fits_else w (begins k_move w) (fits_move w)
    (fits_else w (begins k_hold w) (fits-hold w)
    (fits_else w (begins k_latch w) (fits-latch w)
    (fits_else w (begins k_end w) (fits-number w end' k_end (λ v. refl) (λ v h. h))
    (fits_else w (begins (number_line version).key w) (fits_head w version)
    (fits_else w (begins (number_line steps).key w) (fits_head w steps)
    (fits_else w (begins k_initial w) (fits-initial w)
    (fits_else w (begins (number_line inputs).key w) (fits_head w inputs)
    (fits_else w (begins (number_line outputs).key w) (fits_head w outputs)
    (fits_else w (begins (number_line limit).key w) (fits_head w limit) misfit)))))))))
