-- Bytes gathered on a page.
use mathlib.Core.List.{List, [], ◌∷◌, ◌++◌}
use mathlib.Core.Path.{◌≡◌, refl}
use Prim.Native.Nat.{ℕ, ◌+◌, ◌<◌}
use native.Mathlib.Numerals.{add-one}
use lib.ListN.{length, get_or, take}
use lib.Seq.{take-suc}
use Rattle.pipe.specs.Page.{paged, gathered}

-- bytes gathered after bytes
pub gathered-more : (n : ℕ) (held s t : List ℕ) → gathered n held (s ++ t) ≡ gathered n (gathered n held s) t
unfolding gathered
gathered-more n held [] t = refl
gathered-more n held (b ∷ s) t = gathered-more n (paged n held b) s t

-- one more of a text's bytes
pub gathered-one : (n : ℕ) (held s : List ℕ) (i : ℕ) → i < length s → gathered n held (take (i + 1) s) ≡ paged n (gathered n held (take i s)) (get_or s i 0)
gathered-one n held s i h = rw (add-one, take-suc s i 0 h, gathered-more n held (take i s) (get_or s i 0 ∷ [])) (unfold gathered in refl)
