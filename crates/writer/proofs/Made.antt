-- A line that is made is of one kind, and of no other.
use mathlib.Core.Bool.{cond}
use mathlib.Core.List.{List, [], ◌∷◌}
use mathlib.Core.Path.{◌≡◌, refl, sym, ap, ◌∙◌}
use Prim.Native.Nat.{ℕ, ◌+◌}
use native.Mathlib.Omega.{arith}
use borrow.Author.Tests.{eq-eqb, ne_eqb}
use lib.Dec.{eqb}
use Rattle.std.specs.Prelude.{Some}
use Rattle.text.specs.Writing.{Put}
use Rattle.text.proofs.Putting.{put-none}
use Rattle.line.specs.declared.Kind.{Kind}
use Rattle.line.specs.declared.Kind.TheVariants.{Version, Steps, Initial, Inputs, Outputs, Limit, Move, Hold, Latch, End, Unknown}
use Rattle.line.specs.Kinds.{rank}
use Rattle.line.specs.Write.{Line, kind, write_lines}
use Rattle.writer.specs.declared.Written.{Written}
use Rattle.writer.specs.Writing.{LinesPut, of_kind, line_bytes}

-- the kind of a rank
unrank : ℕ → Kind
unrank n =
    cond (eqb n 1) Version
    (cond (eqb n 2) Steps
    (cond (eqb n 3) Initial
    (cond (eqb n 4) Inputs
    (cond (eqb n 5) Outputs
    (cond (eqb n 6) Limit
    (cond (eqb n 8) Move
    (cond (eqb n 9) Hold
    (cond (eqb n 10) Latch
    (cond (eqb n 12) End
    Unknown)))))))))

unranked : (k : Kind) → unrank (rank (Some k)) ≡ k
unfolding unrank
unranked Version = refl
unranked Steps = refl
unranked Initial = refl
unranked Inputs = refl
unranked Outputs = refl
unranked Limit = refl
unranked Move = refl
unranked Hold = refl
unranked Latch = refl
unranked End = refl
unranked Unknown = refl

module _ (k j : Kind) (l : Line) (e : kind l ≡ Some j) (w : Written) (before after : List ℕ) where
  -- a line that was asked for is written
  pub line_asked : k ≡ j → (v : Written) (at : ℕ) → Put w.at (line_bytes l) before after at → (v.at ≡ at) × (v.lines ≡ w.lines + 1) → LinesPut w (of_kind k (l ∷ [])) before after v
  unfolding of_kind write_lines
  line_asked h v at p q = rw (e, h, eq-eqb (rank (Some j)) (rank (Some j)) refl) (record { put = rw q.0 p; lines = q.1 })

  -- and any other is not
  pub line_other : (k ≡ j → ⊥) → LinesPut w (of_kind k (l ∷ [])) before before w
  unfolding of_kind write_lines
  line_other h =
      rw (e, ne_eqb (rank (Some j)) (rank (Some k)) (λ z. h (sym (unranked k) ∙ ap unrank (sym z) ∙ unranked j)))
      (record { put = put-none _ _; lines = omega arith })

-- where nothing is made, nothing is written
pub no_line : (k : Kind) (w : Written) (before : List ℕ) → LinesPut w (of_kind k []) before before w
unfolding of_kind write_lines
no_line k w before = record { put = put-none _ _; lines = omega arith }
