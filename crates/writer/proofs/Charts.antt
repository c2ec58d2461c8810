-- A chart's text is its head, its moves, holds and latches, and its end.
use mathlib.Core.List.{List, [], ◌∷◌, ◌++◌}
use mathlib.Core.Path.{◌≡◌, refl, sym, ap, ◌∙◌}
use Prim.Native.Nat.{ℕ, suc, ◌+◌, ◌<◌, ◌≤◌}
use native.Mathlib.Omega.{arith}
use borrow.Author.Tests.{ne_eqb}
use lib.ListN.{length, length-append}
use Rattle.line.specs.Kinds.{HeadNumber, version, steps, inputs, outputs, limit, number_kind, rank}
use Rattle.line.specs.declared.Kind.{Kind}
use Rattle.line.specs.declared.Kind.TheVariants.{Move, Hold, Latch}
use Rattle.std.specs.Prelude.{Some}
use Rattle.line.specs.Write.{Line, number', initial', move', hold', latch', end', wrong, k_end, lines, total, head_lines, lines_of, write, write_line, write_lines}
use Rattle.outline.specs.declared.Reading.{Reading}
use Rattle.outline.specs.Reading.{reading_of}
use Rattle.writer.specs.declared.Written.{Written}
use Rattle.writer.specs.Lines.{moves_made, holds_made, latches_made, lines_made, drawn_of}
use Rattle.text.specs.Writing.{Put, keyed}
use Rattle.writer.specs.Writing.{LinesPut, of_kind, head_of}
use Rattle.text.proofs.Putting.{put_then}
use Rattle.writer.proofs.Lines.{write_append}

-- a number line is of the head, so it is of no kind after it
number-rank : (q : HeadNumber) → rank (Some (number_kind q)) ≤ rank (Some (number_kind limit))
number-rank version = omega arith
number-rank steps = omega arith
number-rank inputs = omega arith
number-rank outputs = omega arith
number-rank limit = omega arith

no_number : (k : Kind) (q : HeadNumber) (v : ℕ) (ls : List Line) → rank (Some (number_kind limit)) < rank (Some k) → of_kind k ls ≡ of_kind k (number' q v ∷ ls)
unfolding of_kind
no_number k q v ls h = let r = number-rank q in rw (ne_eqb (rank (Some (number_kind q))) (rank (Some k)) (λ e. omega arith))

of_moves : (ls : List Line) (r : List Line) → lines move' (moves_made ls) r ≡ of_kind Move ls ++ r
unfolding moves_made lines of_kind
of_moves [] r = refl
of_moves (number' q v ∷ ls) r = of_moves ls r ∙ ap (λ (y : List Line). y ++ r) (no_number Move q v ls (omega arith))
of_moves (initial' l ∷ ls) r = of_moves ls r
of_moves (move' m ∷ ls) r = ap (λ (y : List Line). move' m ∷ y) (of_moves ls r)
of_moves (hold' x ∷ ls) r = of_moves ls r
of_moves (latch' x ∷ ls) r = of_moves ls r
of_moves (end' v ∷ ls) r = of_moves ls r
of_moves (wrong ∷ ls) r = of_moves ls r

of_holds : (ls : List Line) (r : List Line) → lines hold' (holds_made ls) r ≡ of_kind Hold ls ++ r
unfolding holds_made lines of_kind
of_holds [] r = refl
of_holds (number' q v ∷ ls) r = of_holds ls r ∙ ap (λ (y : List Line). y ++ r) (no_number Hold q v ls (omega arith))
of_holds (initial' l ∷ ls) r = of_holds ls r
of_holds (move' m ∷ ls) r = of_holds ls r
of_holds (hold' x ∷ ls) r = ap (λ (y : List Line). hold' x ∷ y) (of_holds ls r)
of_holds (latch' x ∷ ls) r = of_holds ls r
of_holds (end' v ∷ ls) r = of_holds ls r
of_holds (wrong ∷ ls) r = of_holds ls r

of_latches : (ls : List Line) (r : List Line) → lines latch' (latches_made ls) r ≡ of_kind Latch ls ++ r
unfolding latches_made lines of_kind
of_latches [] r = refl
of_latches (number' q v ∷ ls) r = of_latches ls r ∙ ap (λ (y : List Line). y ++ r) (no_number Latch q v ls (omega arith))
of_latches (initial' l ∷ ls) r = of_latches ls r
of_latches (move' m ∷ ls) r = of_latches ls r
of_latches (hold' x ∷ ls) r = of_latches ls r
of_latches (latch' x ∷ ls) r = ap (λ (y : List Line). latch' x ∷ y) (of_latches ls r)
of_latches (end' v ∷ ls) r = of_latches ls r
of_latches (wrong ∷ ls) r = of_latches ls r

lines_length : {A : Type 0} (f : A → Line) (xs : List A) → length (lines f xs []) ≡ length xs
unfolding lines
lines_length f [] = refl
lines_length f (x ∷ xs) = ap (λ (n : ℕ). suc n) (lines_length f xs)

count : {A : Type 0} (f : A → Line) (xs : List A) (ls : List Line) → lines f xs [] ≡ ls ++ [] → length xs ≡ length ls
count f xs ls e = let a = lines_length f xs in let b = ap length e in let c = length-append ls [] in omega arith

module _ (s : List ℕ) where
  pub total-is : total (drawn_of s) ≡ length (of_kind Move (lines_made s)) + length (of_kind Hold (lines_made s)) + length (of_kind Latch (lines_made s))
  unfolding drawn_of
  total-is =
      let a = count move' (moves_made (lines_made s)) (of_kind Move (lines_made s)) (of_moves (lines_made s) []) in
      let b = count hold' (holds_made (lines_made s)) (of_kind Hold (lines_made s)) (of_holds (lines_made s) []) in
      let c = count latch' (latches_made (lines_made s)) (of_kind Latch (lines_made s)) (of_latches (lines_made s) []) in
      omega arith

  abbrev head-lines : List Line
  head-lines = head_lines (drawn_of s).head []

  abbrev body : ℕ → List Line
  body t = of_kind Move (lines_made s) ++ (of_kind Hold (lines_made s) ++ (of_kind Latch (lines_made s) ++ (end' t ∷ [])))

  lines_are : lines_of (drawn_of s) ≡ head-lines ++ body (total (drawn_of s))
  unfolding lines_of drawn_of
  lines_are =
      ap (λ (x : List Line). head-lines ++ x)
      (of_moves (lines_made s) _ ∙ ap (λ (x : List Line). of_kind Move (lines_made s) ++ x)
      (of_holds (lines_made s) _ ∙ ap (λ (x : List Line). of_kind Hold (lines_made s) ++ x) (of_latches (lines_made s) _)))

  pub chart-is : (t : ℕ) → t ≡ total (drawn_of s)
      → write (drawn_of s) ≡ head_of (reading_of s) ++ (write_lines (of_kind Move (lines_made s)) ++ (write_lines (of_kind Hold (lines_made s)) ++ (write_lines (of_kind Latch (lines_made s)) ++ keyed k_end t)))
  unfolding write drawn_of head_of write_line write_lines keyed
  chart-is t e =
      ap write_lines lines_are ∙ write_append head-lines (body (total (drawn_of s))) ∙ ap (λ (n : ℕ). write_lines head-lines ++ write_lines (body n)) (sym e)
      ∙ ap (λ (x : List ℕ). write_lines head-lines ++ x)
      (write_append (of_kind Move (lines_made s)) _ ∙ ap (λ (x : List ℕ). write_lines (of_kind Move (lines_made s)) ++ x)
      (write_append (of_kind Hold (lines_made s)) _ ∙ ap (λ (x : List ℕ). write_lines (of_kind Hold (lines_made s)) ++ x)
      (write_append (of_kind Latch (lines_made s)) (end' t ∷ []))))

  pub chart-put : (r : Reading) → r ≡ reading_of s → (l₀ l₁ l₂ l₃ l₄ l₅ : List ℕ) (a b c d : Written) (q : ℕ) → Put 0 (head_of r) l₀ l₁ a.at → a.lines ≡ 0
      → LinesPut a (of_kind Move (lines_made s)) l₁ l₂ b → LinesPut b (of_kind Hold (lines_made s)) l₂ l₃ c → LinesPut c (of_kind Latch (lines_made s)) l₃ l₄ d
      → Put d.at (keyed k_end d.lines) l₄ l₅ q → Put 0 (write (drawn_of s)) l₀ l₅ q
  chart-put r e l₀ l₁ l₂ l₃ l₄ l₅ a b c d q h z x y w k =
      let n = x.lines in
      let o = y.lines in
      let p = w.lines in
      let u = total-is in
      rw (chart-is d.lines (omega arith), ← e)
      (put_then _ _ _ _ _ _ _ _ h (put_then _ _ _ _ _ _ _ _ x.put (put_then _ _ _ _ _ _ _ _ y.put (put_then _ _ _ _ _ _ _ _ w.put k))))
