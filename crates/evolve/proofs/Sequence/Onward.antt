-- The sequence of views, one firing at a time, and what no firing changes.
use Prim.Native.Nat.{ℕ, zero, suc, ◌+◌}
use mathlib.Core.Path.{◌≡◌, refl, ◌∙◌, ap}
use native.Mathlib.Nat.{add-zero, add-suc}
use native.Mathlib.Numerals.{add-one, one-add}
use Rattle.cond.specs.declared.View.{View}
use Rattle.evolve.specs.Net.{Net}
use Rattle.evolve.specs.Evolution.{next_view, at}
use Rattle.evolve.specs.Parts.{Kin}

module _ (c : Net) where
  -- no firing yet
  pub at-start : (v : View) → v ≡ at c v 0
  unfolding at
  at-start v = refl

  -- one firing more
  at_next : (v : View) (i : ℕ) → next_view c (at c v i) ≡ at c v (i + 1)
  unfolding at
  at_next v i = rw (add-one i)

  -- the evolution that begins in s_i
  pub at_add : (v : View) (i t : ℕ) → at c (at c v i) t ≡ at c v (i + t)
  unfolding at
  at_add v i zero = rw (add-zero i)
  at_add v i (suc t) = rw (add-suc i t) (ap (next_view c) (at_add v i t))

  -- the evolution that begins in s1
  pub at_from : (v : View) (i : ℕ) → at c (next_view c v) i ≡ at c v (suc i)
  unfolding at
  at_from v i = at_add v 1 i ∙ ap (at c v) (one-add i)

  -- a turn of a loop that fires: w is what one firing makes of u, which is s_i
  pub go_on_lem : (v u w : View) (i : ℕ) → u ≡ at c v i → w ≡ next_view c u → w ≡ at c v (i + 1)
  go_on_lem v u w i p q = q ∙ ap (next_view c) p ∙ at_next v i

  module _ (v : View) where
    -- no firing changes inputs and ages
    pub calm : (k : ℕ) → Kin (at c v k) v
    unfolding at next_view
    calm zero = record { inputs = refl; ages = refl }
    calm (suc k) = record { inputs = (calm k).inputs; ages = (calm k).ages }

    -- after s0 no input edge lives
    pub calm_old : (k : ℕ) → (at c v (suc k)).old ≡ v.inputs
    unfolding at next_view
    calm_old k = (calm k).inputs
