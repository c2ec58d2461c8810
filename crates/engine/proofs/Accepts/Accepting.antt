-- The loop over the ages of a state.
use Prim.Native.Nat.{ℕ, suc, ◌≤◌, ◌<◌, ◌+◌}
use mathlib.Core.Path.{◌≡◌, sym, ap, ◌∙◌}
use mathlib.Core.List.{List}
use mathlib.Core.Bool.{Bool, true, false, ◌&&◌}
use native.Mathlib.Numerals.{add-one}
use lib.ListN.{length, drop, get_or, drop_of_length-le}
use lib.Seq.{drop-cons}
use Rattle.engine.specs.State.{age_accepted, ages_accepted}

module _ (s : ℕ) (l : List ℕ) (j : ℕ) where
  one_age : j < length l → ages_accepted s j (drop j l) ≡ age_accepted s j (get_or l j 0) && ages_accepted s (suc j) (drop (suc j) l)
  unfolding ages_accepted
  one_age h = ap (ages_accepted s j) (drop-cons l j 0 h)

  module _ (p : ages_accepted s 0 l ≡ ages_accepted s j (drop j l)) where
    pub age_passed : (r : Bool) → j < length l → r ≡ age_accepted s j (get_or l j 0) → r ≡ true → ages_accepted s 0 l ≡ ages_accepted s (j + 1) (drop (j + 1) l)
    age_passed r h q t =
        p ∙ one_age h ∙ ap (λ (x : Bool). x && ages_accepted s (suc j) (drop (suc j) l)) (sym q ∙ t)
        ∙ ap (λ (x : ℕ). ages_accepted s x (drop x l)) (sym (add-one j))

    pub age_failed : (r : Bool) → j < length l → r ≡ age_accepted s j (get_or l j 0) → r ≡ false → false ≡ ages_accepted s 0 l
    age_failed r h q t = sym (p ∙ one_age h ∙ ap (λ (x : Bool). x && ages_accepted s (suc j) (drop (suc j) l)) (sym q ∙ t))

    pub ages-ended : length l ≤ j → true ≡ ages_accepted s 0 l
    unfolding ages_accepted
    ages-ended h = sym (p ∙ ap (ages_accepted s j) (drop_of_length-le l h))
