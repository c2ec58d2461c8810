-- `==` on phases says whether they are equal.
use Rattle.std.proofs.Common.{◌≡◌, true, false}
use denote.Enum.Bare.{same_true, same_false}
use Rattle.grammar.specs.contracts.Phase.{the_type}
use Rattle.grammar.specs.declared.Phase.{Phase}
use Rattle.grammar.specs.Rows.{same_phase}

module _ (p q : Phase) where
  pub phase_true : same_phase p q ≡ true → p ≡ q
  phase_true h = same_true the_type tt p q h

  pub phase_false : same_phase p q ≡ false → p ≡ q → ⊥
  phase_false h = same_false the_type p q h
