-- A chart whose move, hold and latch lines stand in another order is well formed if the chart is.
use mathlib.Core.List.Permᴰ
use mathlib.Core.List.{List, [], ◌∷◌, Permᴰ}
use mathlib.Core.Path.{◌≡◌, refl, sym, ap, ap₂, ◌∙◌, subst}
use Prim.Native.Nat.{ℕ, suc, ◌+◌, ◌≤◌}
use native.Mathlib.Omega.{arith}
use lib.ListN.{length, length-append}
use Rattle.text.specs.Lines.{line_end}
use Rattle.line.specs.Chart.{Chart, Latch}
use Rattle.line.specs.Write.{Line, move', hold', latch', end', write_line, write_lines, lines, total, head_lines, lines_of, write}
use Rattle.line.specs.Rules.{longest_text, line_bound}
use Rattle.chart.specs.WellFormed.{Every, every_cons, LatchRules, WellFormed}
use Rattle.chart.specs.Reordered.{Rearranged}
use Rattle.chart.proofs.Lines.Numbers.{every_map}
use Rattle.chart.proofs.Lines.Ruled.{held, is_held_lem}
use Rattle.chart.proofs.Fold.Reordering.{perm_length, perm_held}

-- Lists in another order

module _ {A : Type 0} where
  -- what is so of every element stays so
  every_perm : (P : A → Type 0) {k l : List A} → Permᴰ k l → Every P k → Every P l
  every_perm P Permᴰ.nil s = s
  every_perm P (Permᴰ.cons e d) (every_cons p s) = every_cons (subst P e p) (every_perm P d s)
  every_perm P (Permᴰ.swap e₁ e₂) (every_cons p (every_cons q s)) = every_cons (subst P e₂ q) (every_cons (subst P e₁ p) s)
  every_perm P (Permᴰ.trans d₁ d₂) s = every_perm P d₂ (every_perm P d₁ s)

  module _ (f : A → Line) where
    -- a line for each element of a list, in front of other lines: with the elements in another order, with the other lines so, and with both
    lines_perm : {k l : List A} (r : List Line) → Permᴰ k l → Permᴰ (lines f k r) (lines f l r)
    unfolding lines
    lines_perm r Permᴰ.nil = Permᴰ.refl r
    lines_perm r (Permᴰ.cons e d) = Permᴰ.cons (ap f e) (lines_perm r d)
    lines_perm r (Permᴰ.swap e₁ e₂) = Permᴰ.swap (ap f e₁) (ap f e₂)
    lines_perm r (Permᴰ.trans d₁ d₂) = Permᴰ.trans (lines_perm r d₁) (lines_perm r d₂)

    others_perm : (k : List A) {r s : List Line} → Permᴰ r s → Permᴰ (lines f k r) (lines f k s)
    unfolding lines
    others_perm [] d = d
    others_perm (x ∷ k) d = Permᴰ.cons refl (others_perm k d)

    both_perm : {k l : List A} {r s : List Line} → Permᴰ k l → Permᴰ r s → Permᴰ (lines f k r) (lines f l s)
    both_perm d e = Permᴰ.trans (lines_perm _ d) (others_perm _ e)

-- a line adds its bytes, and the byte that ends it
line_length : (l : Line) (ls : List Line) → length (write_lines (l ∷ ls)) ≡ length (write_line l) + suc (length (write_lines ls))
unfolding write_lines
line_length l ls = length-append (write_line l) (line_end ∷ write_lines ls)

-- lines in another order have as many bytes
write_perm : {k l : List Line} → Permᴰ k l → length (write_lines k) ≡ length (write_lines l)
write_perm Permᴰ.nil = refl
write_perm (Permᴰ.cons {a} {b} {l₁} {l₂} e d) =
    line_length a l₁ ∙ ap₂ (λ (x : Line) (n : ℕ). length (write_line x) + suc n) e (write_perm d) ∙ sym (line_length b l₂)
write_perm (Permᴰ.swap {a} {b} {a'} {b'} {l} e₁ e₂) =
    let p = line_length a (b ∷ l) in
    let q = line_length b l in
    let u = line_length a' (b' ∷ l) in
    let v = line_length b' l in
    let y = ap (λ (x : Line). length (write_line x)) e₁ in
    let z = ap (λ (x : Line). length (write_line x)) e₂ in
    omega arith
write_perm (Permᴰ.trans d₁ d₂) = write_perm d₁ ∙ write_perm d₂

-- The theorem

module _ (c d : Chart) (r : Rearranged c d) where
  same_total : total c ≡ total d
  same_total = rw (perm_length r.moves, perm_length r.holds, perm_length r.latches)

  -- the lines of the one are those of the other
  chart-lines : Permᴰ (lines_of c) (lines_of d)
  unfolding lines_of
  chart-lines =
      let end = Permᴰ.cons (ap end' same_total) Permᴰ.nil in
      let body = both_perm move' r.moves (both_perm hold' r.holds (both_perm latch' r.latches end)) in
      rw r.same_head (Permᴰ.append_left (head_lines c.head []) body)

  write_length : length (write c) ≡ length (write d)
  unfolding write
  write_length = write_perm chart-lines

  -- an output that has no hold has none in another order
  latch_rearranged : (x : Latch) → LatchRules c.head.steps c.head.outputs c.body.holds x
      → LatchRules c.head.steps c.head.outputs d.body.holds x
  latch_rearranged x l =
      let o = x.output in
      record { step = l.step; output = l.output; not_held = λ s. l.not_held (held o c.body.holds (perm_held o r.holds ∙ is_held_lem o d.body.holds s)) }

  pub rearranged_well_formed : WellFormed c → WellFormed d
  rearranged_well_formed f =
      record {
        numbers = rw r.same_head f.numbers;
        starts = rw r.same_head f.starts;
        initial = rw r.same_head f.initial;
        few_moves = subst (λ (n : ℕ). n ≤ line_bound) (perm_length r.moves) f.few_moves;
        moves = rw r.same_head (every_perm _ r.moves f.moves);
        few_holds = subst (λ (n : ℕ). n ≤ line_bound) (perm_length r.holds) f.few_holds;
        holds = rw r.same_head (every_perm _ r.holds f.holds);
        few_latches = subst (λ (n : ℕ). n ≤ line_bound) (perm_length r.latches) f.few_latches;
        latches = rw r.same_head (every_perm _ r.latches (every_map latch_rearranged f.latches));
        short = subst (λ (n : ℕ). n ≤ longest_text) write_length f.short;
      }
