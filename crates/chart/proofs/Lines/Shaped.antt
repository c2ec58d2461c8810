-- The shape of bytes is fixed by what is written for a line.
use mathlib.Core.List.{List}
use mathlib.Core.Path.{◌≡◌, refl, sym, ap, ◌∙◌}
use Prim.Native.Nat.{ℕ}
use native.Mathlib.Omega.{arith}
use Rattle.line.specs.Write.{Line, number', initial', move', hold', latch', end', wrong, write_line}
use Rattle.line.specs.Shape.{shape}
use Rattle.chart.specs.Shapes.{Low, Shaped}
use Rattle.chart.proofs.Lines.Written.{Fits, fits, misfit, line_sound}
use Rattle.chart.proofs.Lines.Readable.{line_complete}

is_wrong : (l : Line) → Dec (l ≡ wrong)
is_wrong (number' q v) = no (λ e. let z : ◌≡◌ {A = ℕ} 0 1 = cc in omega arith)
is_wrong (initial' l) = no (λ e. let z : ◌≡◌ {A = ℕ} 0 1 = cc in omega arith)
is_wrong (move' m) = no (λ e. let z : ◌≡◌ {A = ℕ} 0 1 = cc in omega arith)
is_wrong (hold' x) = no (λ e. let z : ◌≡◌ {A = ℕ} 0 1 = cc in omega arith)
is_wrong (latch' x) = no (λ e. let z : ◌≡◌ {A = ℕ} 0 1 = cc in omega arith)
is_wrong (end' v) = no (λ e. let z : ◌≡◌ {A = ℕ} 0 1 = cc in omega arith)
is_wrong wrong = yes refl

module _ (w : List ℕ) where
  pub shape-written : (shape w ≡ wrong → ⊥) → (write_line (shape w) ≡ w) × Low (shape w)
  shape-written n = go (line_sound w) n
    where
      go : {l : Line} → Fits w l → (l ≡ wrong → ⊥) → (write_line l ≡ w) × Low l
      go (fits l e o) f = (sym e, o)
      go misfit f = absurd (f refl)

  pub shape-only : (l : Line) → (l ≡ wrong → ⊥) → Low l → write_line l ≡ w → shape w ≡ l
  shape-only l n o e = ap shape (sym e) ∙ line_complete l n o

  no_line : shape w ≡ wrong → (l : Line) → (l ≡ wrong → ⊥) → Low l → write_line l ≡ w → ⊥
  no_line z l n o e = n (sym (shape-only l n o e) ∙ z)

  no_shape : ((l : Line) → (l ≡ wrong → ⊥) → Low l → write_line l ≡ w → ⊥) → shape w ≡ wrong
  no_shape f = go (is_wrong (shape w))
    where
      go : Dec (shape w ≡ wrong) → shape w ≡ wrong
      go (yes e) = e
      go (no n) = let s = shape-written n in absurd (f (shape w) n s.1 s.0)

pub shaped : (w : List ℕ) → Shaped w
shaped w = record { written = shape-written w; only = shape-only w; no_line = no_line w; no_shape = no_shape w }
