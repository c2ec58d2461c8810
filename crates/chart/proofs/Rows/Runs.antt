-- A run of lines of one kind among the lines of a text: where each of them stands, and the words of their rows.
use mathlib.Core.List.{List, [], ◌∷◌, ◌++◌, append_assoc, append-nil}
use mathlib.Core.Path.{◌≡◌, sym, ap, ◌∙◌}
use Prim.Native.Nat.{ℕ, suc, ◌+◌, ◌*◌, ◌<◌}
use native.Mathlib.Nat.{mul-suc}
use native.Mathlib.Omega.{arith}
use lib.ListN.{length, get_or, take, drop, length-append, get_or-append}
use lib.Seq.{split_at, get_or-append-add, length-take-le}
use Rattle.text.specs.Lines.{line_end}
use Rattle.line.specs.declared.Row.{Row}
use Rattle.line.specs.Write.{Line, write_line, write_lines, lines}
use Rattle.line.specs.Words.{row_of}
use Rattle.chart.specs.Rows.{words_by}
use Rattle.chart.proofs.Lines.Several.{lines_append, lines_at, write_append}

-- the rows of lines that are written from a place on
unfoldable pub rows_at : ℕ → List Line → List Row
rows_at a [] = []
rows_at a (l ∷ ls) = row_of a (length (write_line l)) l ∷ rows_at (a + length (write_line l) + 1) ls

module _ (g : Row → List ℕ) where
  words_append : (ls ms : List Line) (a : ℕ) → words_by g (rows_at a (ls ++ ms)) ≡ words_by g (rows_at a ls) ++ words_by g (rows_at (a + length (write_lines ls)) ms)
  unfolding words_by rows_at write_lines
  words_append [] ms a = let e : a + 0 ≡ a = omega arith in rw e
  words_append (l ∷ ls) ms a =
      let b = a + length (write_line l) + 1 in
      let e : b + length (write_lines ls) ≡ a + length (write_line l ++ line_end ∷ write_lines ls) = (let z = length-append (write_line l) (line_end ∷ write_lines ls) in omega arith) in
      rw (words_append ls ms b, e) (sym (append_assoc (g (row_of a (length (write_line l)) l)) (words_by g (rows_at b ls)) _))

  module _ {A : Type 0} (f : A → Line) where
    -- lines without words
    pub skip : ((x : A) (a n : ℕ) → g (row_of a n (f x)) ≡ []) → (r : List Line) → ((a : ℕ) → words_by g (rows_at a r) ≡ []) → (xs : List A) (a : ℕ) → words_by g (rows_at a (lines f xs r)) ≡ []
    unfolding words_by rows_at lines
    skip e r q [] a = q a
    skip e r q (x ∷ xs) a = rw (e x a (length (write_line (f x)))) (skip e r q xs _)

    module _ (w : ℕ) (wide : (x : A) (a n : ℕ) → length (g (row_of a n (f x))) ≡ w) where
      count : (xs : List A) (a : ℕ) → length (words_by g (rows_at a (lines f xs []))) ≡ w * length xs
      unfolding words_by rows_at lines
      count [] a = omega arith
      count (x ∷ xs) a =
          let r = g (row_of a (length (write_line (f x))) (f x)) in
          let z = count xs (a + length (write_line (f x)) + 1) in
          let y = wide x a (length (write_line (f x))) in
          rw (length-append, mul-suc) (omega arith)

      -- w words for each line of the run, and no others before and after it
      module _ (before after : List Line) (none_before : words_by g (rows_at 0 before) ≡ []) (none_after : (a : ℕ) → words_by g (rows_at a after) ≡ []) (xs : List A) where
        front_count : (ys : List A) → length (words_by g (rows_at 0 (before ++ lines f ys []))) ≡ w * length ys
        front_count ys = ap length (words_append before (lines f ys []) 0) ∙ rw none_before (count ys _)

        pub run_count : length (words_by g (rows_at 0 (before ++ lines f xs after))) ≡ w * length xs
        run_count =
            ap (λ (ls : List Line). length (words_by g (rows_at 0 (before ++ ls)))) (lines_append f xs [] after)
            ∙ ap (λ (ls : List Line). length (words_by g (rows_at 0 ls))) (sym (append_assoc before (lines f xs []) after))
            ∙ ap length (words_append (before ++ lines f xs []) after 0) ∙ rw (none_after, append-nil) (front_count xs)

        module _ (i : ℕ) (d : A) (h : i < length xs) where
          abbrev one : A
          one = get_or xs i d

          abbrev front : List Line
          front = before ++ lines f (take i xs) []

          abbrev rest : List Line
          rest = lines f (drop (suc i) xs) after

          at_one : before ++ lines f xs after ≡ front ++ (f one ∷ rest)
          at_one =
              ap (λ (ys : List A). before ++ lines f ys after) (split_at xs i d h) ∙ ap (λ (ls : List Line). before ++ ls) (lines_at f (take i xs) one (drop (suc i) xs) after)
              ∙ sym (append_assoc before (lines f (take i xs) []) (f one ∷ rest))

          pub run-text : write_lines (before ++ lines f xs after) ≡ write_lines front ++ (write_line (f one) ++ line_end ∷ write_lines rest)
          unfolding write_lines
          run-text = ap write_lines at_one ∙ write_append front (f one ∷ rest)

          pub run-word : (j : ℕ) → j < w
              → get_or (words_by g (rows_at 0 (before ++ lines f xs after))) (w * i + j) 0 ≡ get_or (g (row_of (length (write_lines front)) (length (write_line (f one))) (f one))) j 0
          unfolding words_by rows_at
          run-word j l =
              let n : length (words_by g (rows_at 0 front)) ≡ w * i = front_count (take i xs) ∙ ap (λ (k : ℕ). w * k) (length-take-le i xs (omega arith)) in
              let z : 0 + length (write_lines front) ≡ length (write_lines front) = omega arith in
              let e = wide one (length (write_lines front)) (length (write_line (f one))) in
              let r = g (row_of (length (write_lines front)) (length (write_line (f one))) (f one)) in
              ap (λ (ls : List Line). get_or (words_by g (rows_at 0 ls)) (w * i + j) 0) at_one
              ∙ ap (λ (v : List ℕ). get_or v (w * i + j) 0) (words_append front (f one ∷ rest) 0)
              ∙ rw (← n, z) (get_or-append-add (words_by g (rows_at 0 front)) _ j 0 ∙ get_or-append r _ 0 j (omega arith))
