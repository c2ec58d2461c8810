-- `==` and `!=` on kinds say whether they are equal.
use Rattle.std.proofs.Common.{◌≡◌, true, false, not}
use denote.Enum.Bare.{same_true, same_false, true_same, false_same, differs_true, differs_false}
use Rattle.tokens.specs.contracts.Kind.{the_type}
use Rattle.tokens.specs.declared.Kind.{Kind}
use Rattle.tokens.specs.Kinds.{same_kind}

module _ (k l : Kind) where
  pub kind_true : same_kind k l ≡ true → k ≡ l
  kind_true h = same_true the_type tt k l h

  pub kind_false : same_kind k l ≡ false → k ≡ l → ⊥
  kind_false h = same_false the_type k l h

  pub kind_same : k ≡ l → same_kind k l ≡ true
  kind_same h = true_same the_type k l h

  pub kind_differs : (k ≡ l → ⊥) → same_kind k l ≡ false
  kind_differs h = false_same the_type tt k l h

  pub kind_ne_true : not (same_kind k l) ≡ true → k ≡ l → ⊥
  kind_ne_true h = differs_true the_type k l h

  pub kind_ne_false : not (same_kind k l) ≡ false → k ≡ l
  kind_ne_false h = differs_false the_type tt k l h
