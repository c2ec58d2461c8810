-- A list that was filled element by element from another.
use Prim.Native.Nat.{ℕ, zero, suc, ◌+◌, ◌<◌}
use mathlib.Core.Path.{◌≡◌, refl, sym, ap, ◌∙◌, subst}
use mathlib.Core.List.{List, [], ◌∷◌}
use native.Mathlib.Nat.{zero-add, add-zero, add-suc, suc-add, not-suc-le-zero, le_of_suc-le-suc}
use lib.ListN.{length, get_or}
use lib.Seq.{ext_get_or}
use Rattle.evolve.specs.Evolution.{each_from}

module _ (f : ℕ → ℕ → ℕ) where
  each_length : (j : ℕ) (l : List ℕ) → length (each_from f j l) ≡ length l
  each_length j [] = refl
  each_length j (a ∷ l) = ap suc (each_length (suc j) l)

  each_at : (j : ℕ) (l : List ℕ) (k : ℕ) → k < length l → get_or (each_from f j l) k 0 ≡ f (j + k) (get_or l k 0)
  each_at j [] k h = absurd (not-suc-le-zero h)
  each_at j (a ∷ l) zero h = ap (λ (n : ℕ). f n a) (sym (add-zero j))
  each_at j (a ∷ l) (suc k) h =
      each_at (suc j) l k (le_of_suc-le-suc h) ∙ ap (λ (n : ℕ). f n (get_or l k 0)) (suc-add j k ∙ sym (add-suc j k))

  -- a list with the elements of `each_from` is it
  pub by_each : (m l : List ℕ) → length m ≡ length l → ((k : ℕ) → k < length l → get_or m k 0 ≡ f k (get_or l k 0)) → m ≡ each_from f 0 l
  by_each m l e h =
      ext_get_or 0 m (each_from f 0 l) (e ∙ sym (each_length 0 l)) (λ k i.
      let i' : k < length l = subst (λ (n : ℕ). k < n) e i in
      h k i' ∙ ap (λ (n : ℕ). f n (get_or l k 0)) (sym (zero-add k)) ∙ sym (each_at 0 l k i'))
