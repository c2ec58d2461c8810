-- Texts: what is accepted is the text of lines that pass, and only that.
use mathlib.Core.Bool.{Bool, true, false, cond}
use mathlib.Core.List.{List, [], ◌∷◌, ◌++◌}
use mathlib.Core.Path.{◌≡◌, refl}
use Prim.Native.Nat.{ℕ, zero, suc, ◌+◌, ◌≤◌}
use native.Mathlib.Omega.{arith}
use borrow.Author.Tests.{ltb-false, le-ltb}
use lib.Dec.{ltb}
use lib.ListN.{length}
use Rattle.text.specs.Lines.{line_end, Lines, split}
use Rattle.line.specs.Chart.{Chart}
use Rattle.std.proofs.Common.{Option, None}
use Rattle.line.specs.declared.Kind.{Kind}
use Rattle.line.specs.Kinds.{is_end}
use Rattle.line.specs.Write.{Line, wrong, kind, write_line, write_lines}
use Rattle.line.specs.Shape.{shape}
use Rattle.line.specs.Rules.{longest_text, blank, extended, fault}
use Rattle.line.proofs.Answers.{fault-wrong}
use Rattle.chart.specs.WellFormed.{Every, every_nil, every_cons}
use Rattle.chart.specs.Shapes.{Low}
use Rattle.chart.specs.Reading.{Read, accepted, refused, onward, read_from, read_chart}
use Rattle.chart.proofs.Lines.Shaped.{shape-written, shape-only}
use Rattle.chart.proofs.Lines.Plain.{plain}
use Rattle.chart.proofs.Fold.Splits.{Splits, no_more, open_end, more, split-write, split_sound}

-- Lines that pass, one after the other, to the end, after a line of kind k and with the chart c so far
pub data Passes : Option Kind → Chart → List Line → Type 0 where
  done : (k : Option Kind) (c : Chart) → is_end k ≡ true → Passes k c []
  pass : (k : Option Kind) (c : Chart) (l : Line) (ls : List Line) → fault k c l ≡ 0 → Passes (kind l) (extended c l) ls → Passes k c (l ∷ ls)

-- the chart with them
unfoldable pub final : Chart → List Line → Chart
final c [] = c
final c (l ∷ ls) = final (extended c l) ls

-- a line of low numbers, with no byte 10 in it
pub record Plain (l : Line) : Type 0 where
  pub low : Low l
  pub plain : plain (write_line l) ≡ true

-- Sound

record Accepts (k : Option Kind) (c : Chart) (t : List ℕ) (d : Chart) : Type 0 where
  lines : List Line
  written : t ≡ write_lines lines
  plain : Every Plain lines
  passes : Passes k c lines
  chart : d ≡ final c lines

pub not_accepted : (a n : ℕ) (d : Chart) → refused a n ≡ accepted d → ⊥
not_accepted a n d h = let z : ◌≡◌ {A = ℕ} 0 1 = cc in omega arith

-- a line with no fault is one
pub not_wrong : (k : Option Kind) (c : Chart) (l : Line) → fault k c l ≡ 0 → l ≡ wrong → ⊥
not_wrong k c l f e = let z : fault k c wrong ≡ 0 = rw e at f in let y = fault-wrong k c in omega arith

module _ (n : ℕ) (k : Option Kind) (c : Chart) (w t : List ℕ) (x : Lines) (d : Chart) (o : plain w ≡ true) where
  abbrev after : Read
  after = read_from (n + 1) (kind (shape w)) (extended c (shape w)) x

  accepts_line : (f : ℕ) → fault k c (shape w) ≡ f → onward f n after ≡ accepted d
      → (after ≡ accepted d → Accepts (kind (shape w)) (extended c (shape w)) t d) → Accepts k c (w ++ line_end ∷ t) d
  unfolding onward write_lines final
  accepts_line zero e z g =
      let a = g z in
      let s = shape-written w (not_wrong k c (shape w) e) in
      let p : Plain (shape w) = record { low = s.1; plain = rw s.0 o } in
      record {
        lines = shape w ∷ a.lines;
        written = rw (a.written, s.0);
        plain = every_cons p a.plain;
        passes = pass k c (shape w) a.lines e a.passes;
        chart = a.chart;
      }
  accepts_line (suc f) e z g = absurd (not_accepted (suc f) n d z)

accepts_lines : (n : ℕ) (k : Option Kind) (c : Chart) {t : List ℕ} {x : Lines} (d : Chart) → Splits t x → read_from n k c x ≡ accepted d → Accepts k c t d
unfolding read_from write_lines final
accepts_lines n k c d no_more h = go (is_end k) refl h
  where
    go : (u : Bool) → is_end k ≡ u → cond u (accepted c) (refused 2 n) ≡ accepted d → Accepts k c [] d
    go true p z = record { lines = []; written = refl; plain = every_nil; passes = done k c p; chart = cc }
    go false p z = absurd (not_accepted 2 n d z)
accepts_lines n k c d (open_end t) h = absurd (not_accepted 2 n d h)
accepts_lines n k c d (more w t x p s) h =
    accepts_line n k c w t x d p (fault k c (shape w)) refl h (λ z. accepts_lines (n + 1) (kind (shape w)) (extended c (shape w)) d s z)

pub record Accepted (t : List ℕ) (c : Chart) : Type 0 where
  pub short : length t ≤ longest_text
  pub lines : List Line
  pub written : t ≡ write_lines lines
  pub plain : Every Plain lines
  pub passes : Passes None blank lines
  pub chart : c ≡ final blank lines

pub read_sound : (t : List ℕ) (c : Chart) → read_chart t ≡ accepted c → Accepted t c
unfolding read_chart
read_sound t c h = go (ltb longest_text (length t)) refl h
  where
    go : (b : Bool) → ltb longest_text (length t) ≡ b → cond b (refused 1 0) (read_from 1 None blank (split t)) ≡ accepted c → Accepted t c
    go true p z = absurd (not_accepted 1 0 c z)
    go false p z =
        let a = accepts_lines 1 None blank c (split_sound t) z in
        record { short = ltb-false longest_text (length t) p; lines = a.lines; written = a.written; plain = a.plain; passes = a.passes; chart = a.chart }

-- Complete

read-lines : (n : ℕ) {k : Option Kind} {c : Chart} {ls : List Line} → Passes k c ls → Every Plain ls → read_from n k c (split (write_lines ls)) ≡ accepted (final c ls)
unfolding read_from split write_lines onward final
read-lines n (done k c e) every_nil = rw e
read-lines n (pass k c l ls e p) (every_cons o s) =
    let y = shape-only (write_line l) l (not_wrong k c l e) o.low refl in
    rw (split-write (write_line l) (write_lines ls) o.plain, y, e) (read-lines (n + 1) p s)

pub read_complete : (t : List ℕ) (ls : List Line) → length t ≤ longest_text → t ≡ write_lines ls → Every Plain ls → Passes None blank ls
    → read_chart t ≡ accepted (final blank ls)
unfolding read_chart
read_complete t ls l w o p = rw (le-ltb longest_text (length t) l, w) (read-lines 1 p o)
