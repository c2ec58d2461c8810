-- Laws of the grammar's rows that the code's proofs cite.
use Rattle.std.proofs.Common.{◌≡◌, ℕ, ◌+◌, ◌<◌, ◌≤◌, true, false, ◌&&◌, List, length, get_or, drop, drop-cons, add-one}
use lib.ListN.{drop_of_length-le}
use Rattle.tokens.specs.declared.Kind.{Kind}
use Rattle.tokens.specs.Kinds.{same_kind}
use Rattle.grammar.specs.declared.Phase.{Phase}
use Rattle.grammar.specs.declared.Phase.TheVariants.{Stopped}
use Rattle.grammar.specs.Rows.{same_phase, next_in}

-- Rows

module _ (l : List (Phase × Kind × Phase)) (i : ℕ) (d : Phase × Kind × Phase) (p : Phase) (k : Kind) where
  pub next_hit : i < length l → (same_phase (get_or l i d).0 p && same_kind (get_or l i d).1 k) ≡ true → next_in (drop i l) p k ≡ (get_or l i d).2
  unfolding next_in
  next_hit h e = rw (drop-cons l i d h, e)

  pub next_miss : i < length l → (same_phase (get_or l i d).0 p && same_kind (get_or l i d).1 k) ≡ false → next_in (drop i l) p k ≡ next_in (drop (i + 1) l) p k
  unfolding next_in
  next_miss h e = rw (drop-cons l i d h, e, add-one)

  pub next_end : length l ≤ i → next_in (drop i l) p k ≡ Stopped
  unfolding next_in
  next_end h = rw (drop_of_length-le l h)
