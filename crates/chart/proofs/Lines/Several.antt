-- Several lines, and their text: with others after them, and at one of them.
use mathlib.Core.List.{List, [], ◌∷◌, ◌++◌, append_assoc}
use mathlib.Core.Path.{◌≡◌, refl, sym, ap}
use Rattle.text.specs.Lines.{line_end}
use Rattle.line.specs.Write.{Line, write_line, write_lines, lines}

module _ {A : Type 0} (f : A → Line) where
  pub lines_append : (xs : List A) (r s : List Line) → lines f xs (r ++ s) ≡ lines f xs r ++ s
  unfolding lines
  lines_append [] r s = refl
  lines_append (x ∷ xs) r s = ap (λ (l : List Line). f x ∷ l) (lines_append xs r s)

  pub lines_at : (xs : List A) (x : A) (ys : List A) (r : List Line) → lines f (xs ++ x ∷ ys) r ≡ lines f xs [] ++ (f x ∷ lines f ys r)
  unfolding lines
  lines_at [] x ys r = refl
  lines_at (y ∷ xs) x ys r = ap (λ (l : List Line). f y ∷ l) (lines_at xs x ys r)

pub write_append : (ls ms : List Line) → write_lines (ls ++ ms) ≡ write_lines ls ++ write_lines ms
unfolding write_lines
write_append [] ms = refl
write_append (l ∷ ls) ms = rw (write_append ls ms) (sym (append_assoc (write_line l) (line_end ∷ write_lines ls) (write_lines ms)))
