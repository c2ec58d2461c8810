-- The rows of an accepted text are those of its chart's lines, each at the place of its line.
use mathlib.Core.List.{List, ◌∷◌}
use mathlib.Core.Path.{◌≡◌, refl, sym, ap, ◌∙◌}
use Prim.Native.Nat.{ℕ, ◌+◌}
use borrow.Author.Tests.{le-ltb}
use lib.ListN.{length}
use Rattle.text.specs.Lines.{split}
use Rattle.line.specs.declared.Row.{Row}
use Rattle.line.specs.Chart.{Chart}
use Rattle.std.proofs.Common.{Option}
use Rattle.line.specs.declared.Kind.{Kind}
use Rattle.line.specs.Write.{Line, lines_of, write_line, write_lines}
use Rattle.line.specs.Rules.{longest_text}
use Rattle.line.specs.Words.{row_of}
use Rattle.chart.specs.WellFormed.{Every, every_nil, every_cons}
use Rattle.chart.specs.Reading.{accepted, read_chart}
use Rattle.chart.specs.Rows.{row_then, rows_of_lines, rows_of}
use Rattle.chart.proofs.Lines.Shaped.{shape-only}
use Rattle.chart.proofs.Fold.Splits.{split-write}
use Rattle.chart.proofs.Fold.Whole.{Passes, done, pass, Plain, not_wrong, read_sound}
use Rattle.chart.proofs.Fold.Order.{of_chart}
use Rattle.chart.proofs.Rows.Runs.{rows_at}

rows_passing : (a : ℕ) {k : Option Kind} {c : Chart} {ls : List Line} → Passes k c ls → Every Plain ls → rows_of_lines a k c (split (write_lines ls)) ≡ rows_at a ls
unfolding rows_of_lines row_then split write_lines rows_at
rows_passing a (done k c e) every_nil = refl
rows_passing a (pass k c l ls e p) (every_cons o s) =
    let y = shape-only (write_line l) l (not_wrong k c l e) o.low refl in
    rw (split-write (write_line l) (write_lines ls) o.plain, y, e)
    (ap (λ (rs : List Row). row_of a (length (write_line l)) l ∷ rs) (rows_passing (a + length (write_line l) + 1) p s))

pub rows_accepted : (t : List ℕ) (c : Chart) → read_chart t ≡ accepted c → rows_of t ≡ rows_at 0 (lines_of c)
unfolding rows_of
rows_accepted t c q =
    let a = read_sound t c q in
    let l : a.lines ≡ lines_of c = of_chart a.lines a.passes ∙ ap lines_of (sym a.chart) in
    rw (le-ltb longest_text (length t) a.short, a.written) (rows_passing 0 a.passes a.plain ∙ ap (rows_at 0) l)
