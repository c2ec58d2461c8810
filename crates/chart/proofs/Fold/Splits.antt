-- The lines of a text: bytes with no byte 10 in them, each ended by one.
use mathlib.Core.Bool.{Bool, true, false, not, ◌&&◌, false≢true}
use mathlib.Core.List.{List, [], ◌∷◌, ◌++◌}
use mathlib.Core.Path.{◌≡◌, refl}
use Prim.Native.Nat.{ℕ}
use borrow.Author.Tests.{eqb-true}
use lib.Dec.{eqb}
use Rattle.text.specs.Lines.{line_end, Lines, nothing, unended, line, byte_before, split}
use Rattle.chart.proofs.Lines.Plain.{plain}

pub split-write : (w t : List ℕ) → plain w ≡ true → split (w ++ line_end ∷ t) ≡ line w (split t)
unfolding plain split byte_before
split-write [] t h = refl
split-write (b ∷ w) t h = go (eqb b line_end) h (split-write w t)
  where
    go : (x : Bool) → (not x && plain w) ≡ true → (plain w ≡ true → split (w ++ line_end ∷ t) ≡ line w (split t))
        → byte_before x b (split (w ++ line_end ∷ t)) ≡ line (b ∷ w) (split t)
    go true z f = absurd (false≢true z)
    go false z f = rw (f z)

pub data Splits : List ℕ → Lines → Type 0 where
  no_more : Splits [] nothing
  open_end : (t : List ℕ) → Splits t unended
  more : (w t : List ℕ) (x : Lines) → plain w ≡ true → Splits t x → Splits (w ++ line_end ∷ t) (line w x)

splits_before : (b : ℕ) {t : List ℕ} {x : Lines} → Splits t x → (u : Bool) → eqb b line_end ≡ u → Splits (b ∷ t) (byte_before u b x)
unfolding byte_before plain
splits_before b {t} {x} s true q = let y : b ≡ line_end = eqb-true b line_end q in rw y (more [] t x refl s)
splits_before b no_more false q = open_end (b ∷ [])
splits_before b (open_end t) false q = open_end (b ∷ t)
splits_before b (more w t x p s) false q = more (b ∷ w) t x (rw q p) s

pub split_sound : (t : List ℕ) → Splits t (split t)
unfolding split
split_sound [] = no_more
split_sound (b ∷ t) = splits_before b (split_sound t) (eqb b line_end) refl
