-- The lookup yields a part of the text: of an accepted text and the number of a move, that move's condition at its place.
use mathlib.Core.Bool.{Bool, true, false, cond, ◌&&◌, and-false}
use mathlib.Core.List.{List, [], ◌∷◌, ◌++◌, append_assoc}
use mathlib.Core.Path.{◌≡◌, refl, sym, ap, ◌∙◌}
use Prim.Native.Nat.{ℕ, suc, ◌-◌, ◌<◌, ◌≤◌}
use native.Mathlib.Omega.{arith}
use borrow.Author.Tests.{leb-true, le-leb, lt-leb}
use lib.Dec.{leb}
use lib.ListN.{length, get_or, take, drop}
use lib.Seq.{split_at}
use Rattle.text.specs.Lines.{line_end}
use Rattle.line.specs.Chart.{Head, Move, Chart}
use Rattle.line.specs.Write.{Line, move', hold', latch', end', move_start, write_line, write_lines, lines, total, head_lines, lines_of, write}
use Rattle.line.proofs.Answers.{and_both}
use Rattle.chart.specs.Reading.{Read, accepted, refused, read_chart, Found, at_start, nth_move, before_move, found_in, looked_up}
use Rattle.chart.specs.Parts.{after_move, FoundPart}
use Rattle.chart.proofs.Lines.Several.{lines_at, write_append}
use Rattle.chart.proofs.Fold.Round.{accepted-only}

module _ (h : Head) (xs : List Move) (m : Move) (ys : List Move) (r : List Line) where
  -- a move's line, after the lines before it and before those after it
  move_at : write_lines (head_lines h (lines move' (xs ++ m ∷ ys) r))
      ≡ (write_lines (head_lines h (lines move' xs [])) ++ move_start m) ++ (m.condition ++ line_end ∷ write_lines (lines move' ys r))
  unfolding write_lines write_line
  move_at =
      let after : List ℕ = line_end ∷ write_lines (lines move' ys r) in
      let before : List ℕ = write_lines (head_lines h (lines move' xs [])) in
      ap (λ (l : List Line). write_lines (head_lines h l)) (lines_at move' xs m ys r)
      ∙ write_append (head_lines h (lines move' xs [])) (move' m ∷ lines move' ys r)
      ∙ ap (λ (s : List ℕ). before ++ s) (append_assoc (move_start m) m.condition after)
      ∙ sym (append_assoc before (move_start m) (m.condition ++ after))

-- the move of an index, whatever the default
nth_at : (h : Head) (ms : List Move) (r : List Line) (j : ℕ) (d : Move) → j < length ms → write_lines (head_lines h (lines move' ms r))
    ≡ (write_lines (head_lines h (lines move' (take j ms) [])) ++ move_start (get_or ms j d))
    ++ ((get_or ms j d).condition ++ line_end ∷ write_lines (lines move' (drop (suc j) ms) r))
nth_at h ms r j d b =
    ap (λ (l : List Move). write_lines (head_lines h (lines move' l r))) (split_at ms j d b) ∙ move_at h (take j ms) (get_or ms j d) (drop (suc j) ms) r

module _ (c : Chart) (k : ℕ) (a : 1 ≤ k) (b : k ≤ length c.body.moves) where
  condition-at : write c ≡ before_move c k ++ ((nth_move c k).condition ++ line_end ∷ after_move c k)
  unfolding write lines_of
  condition-at =
      let r : List Line = lines hold' c.body.holds (lines latch' c.body.latches (end' (total c) ∷ [])) in
      let e : suc (k - 1) ≡ k = omega arith in
      nth_at c.head c.body.moves r (k - 1) _ (omega arith)
      ∙ ap (λ (n : ℕ). before_move c k ++ ((nth_move c k).condition ++ line_end ∷ write_lines (lines move' (drop n c.body.moves) r))) e

  -- and it is what is found
  found_in_lem : found_in (accepted c) k ≡ record { before = before_move c k; part = (nth_move c k).condition }
  unfolding found_in
  found_in_lem = rw (le-leb 1 k a, le-leb k (length c.body.moves) b)

-- Of any text: what follows the part that is found

record After (t : List ℕ) (f : Found) : Type 0 where
  rest : List ℕ
  is : t ≡ f.before ++ (f.part ++ rest)

after-start : (t : List ℕ) → After t at_start
after-start t = record { rest = t; is = refl }

after-found : (t : List ℕ) (k : ℕ) → After t (looked_up t k)
unfolding looked_up found_in
after-found t k = go (read_chart t) refl
  where
    within : (c : Chart) → read_chart t ≡ accepted c → (u : Bool) → (leb 1 k && leb k (length c.body.moves)) ≡ u
        → After t (cond u (record { before = before_move c k; part = (nth_move c k).condition }) at_start)
    within c e true h =
        let p = and_both (leb 1 k) (leb k (length c.body.moves)) h in
        let i = condition-at c k (leb-true 1 k p.0) (leb-true k (length c.body.moves) p.1) in
        record { rest = line_end ∷ after_move c k; is = (accepted-only t c e).1 ∙ i }
    within c e false h = after-start t

    go : (r : Read) → read_chart t ≡ r → After t (found_in r k)
    go (accepted c) e = within c e (leb 1 k && leb k (length c.body.moves)) refl
    go (refused a n) e = after-start t

-- Where there is no such move

module _ (t : List ℕ) (k : ℕ) where
  refused-text : (a n : ℕ) → read_chart t ≡ refused a n → looked_up t k ≡ at_start
  unfolding looked_up found_in
  refused-text a n e = rw e

  too_high : (c : Chart) → read_chart t ≡ accepted c → length c.body.moves < k → looked_up t k ≡ at_start
  unfolding looked_up found_in
  too_high c e h = rw (e, lt-leb k (length c.body.moves) h, and-false)

  number_0 : k ≡ 0 → looked_up t k ≡ at_start
  unfolding looked_up found_in
  number_0 z = go (read_chart t)
    where
      go : (r : Read) → found_in r k ≡ at_start
      go (accepted c) = rw z
      go (refused a n) = refl

pub found_part : (t : List ℕ) (k : ℕ) → FoundPart t k
unfolding looked_up
found_part t k =
    let p = after-found t k in
    record {
      after = p.rest;
      part = p.is;
      condition = λ c e a b.
          let f = ap (λ (r : Read). found_in r k) e ∙ found_in_lem c k a b in
          (ap (λ (x : Found). x.before) f, ap (λ (x : Found). x.part) f, (accepted-only t c e).1 ∙ condition-at c k a b);
      refused-text = refused-text t k;
      number_0 = number_0 t k;
      too_high = too_high t k;
    }
