-- What the reader hands out at a place says where the line from there on ends, or that no byte 10 ends it.
use mathlib.Core.Bool.{Bool, true, false}
use mathlib.Core.List.{List, [], ◌∷◌}
use mathlib.Core.Path.{◌≡◌, refl, ap}
use Prim.Native.Nat.{ℕ, ◌+◌, ◌<◌}
use native.Mathlib.Omega.{arith}
use lib.Dec.{eqb}
use lib.ListN.{length, drop, length-drop}
use Rattle.text.specs.Lines.{Lines, nothing, unended, line, line_end, byte_before, split}
use Rattle.text.specs.Places.{EndsAt, taken, taken_at}
use Rattle.text.specs.declared.lines.Taken.{Taken}
use Rattle.text.specs.declared.lines.Taken.TheVariants.{Line, Open, End}
use Rattle.std.specs.Prelude.{Option, Some}
use Rattle.std.proofs.lemmas.Option.{same_Some}
use Rattle.text.proofs.Places.{taken-ends}
use Rattle.text.proofs.Places.Firsts.{split-first}
use Rattle.chart.specs.Rows.{end_of}

-- bytes have a first line, or no end
begins : (s : List ℕ) → 0 < length s → split s ≡ nothing → ⊥
unfolding split byte_before
begins [] l q = absurd (omega arith)
begins (b ∷ s) l q = go (eqb b line_end) (split s) q
  where
    go : (u : Bool) (y : Lines) → byte_before u b y ≡ nothing → ⊥
    go true y p = cc
    go false nothing p = cc
    go false unended p = cc
    go false (line w x) p = cc

is_line : (t : Taken) (e : ℕ) → Some e ≡ end_of t → Line e ≡ t
is_line (Line x) e h = ap Line (same_Some e x h)
is_line Open e h = cc
is_line End e h = cc

module _ (s : List ℕ) (a : ℕ) where
  pub line_ends : (e : ℕ) → Some e ≡ end_of (taken_at s a) → EndsAt s a e × (e < length s)
  line_ends e q = let h = is_line (taken_at s a) e q in (taken-ends s a (Line e) h, go (split (drop a s)) refl h)
    where
      go : (y : Lines) → split (drop a s) ≡ y → Line e ≡ taken a y → e < length s
      go nothing q p = cc
      go unended q p = cc
      go (line w x) q p =
          let m = (split-first (drop a s) w x q).ended in
          let n = length-drop a s in
          let f : e ≡ a + length w = cc in
          omega arith

  pub none_ends : (t : Option ℕ) → t ≡ end_of (taken_at s a) → ((e : ℕ) → t ≡ Some e → ⊥) → a < length s → split (drop a s) ≡ unended
  none_ends t h f l = go (split (drop a s)) refl h
    where
      go : (y : Lines) → split (drop a s) ≡ y → t ≡ end_of (taken a y) → split (drop a s) ≡ unended
      go nothing q p = let n = length-drop a s in absurd (begins (drop a s) (omega arith) q)
      go unended q p = q
      go (line w x) q p = absurd (f (a + length w) p)
