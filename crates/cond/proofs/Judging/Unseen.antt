-- No atom looks at the latched outputs.
use mathlib.Core.Path.{◌≡◌, refl, ap, ap₂}
use mathlib.Core.Bool.{Bool, not, ◌&&◌, ◌||◌}
use Prim.Native.Nat.{ℕ}
use Rattle.cond.specs.declared.View.{View}
use Rattle.cond.specs.Laws.{relatched}
use Rattle.cond.specs.Meaning.{AtomKind, step, input, step_up_kind, step_down_kind, input_up_kind, input_down_kind, delay, rule, Cond, always, never, item, neg, both, either, true_in}

module _ (v : View) (w : ℕ) where
  atom_unseen : (k : AtomKind) (n : ℕ) → (rule k).true_of (relatched v w) n ≡ (rule k).true_of v n
  atom_unseen step n = refl
  atom_unseen input n = refl
  atom_unseen step_up_kind n = refl
  atom_unseen step_down_kind n = refl
  atom_unseen input_up_kind n = refl
  atom_unseen input_down_kind n = refl
  atom_unseen (delay t) n = refl

  pub latched_unseen : (c : Cond) → true_in (relatched v w) c ≡ true_in v c
  unfolding true_in
  latched_unseen always = refl
  latched_unseen never = refl
  latched_unseen (item k n) = atom_unseen k n
  latched_unseen (neg c) = ap not (latched_unseen c)
  latched_unseen (both c d) = ap₂ (λ (x y : Bool). x && y) (latched_unseen c) (latched_unseen d)
  latched_unseen (either c d) = ap₂ (λ (x y : Bool). x || y) (latched_unseen c) (latched_unseen d)
