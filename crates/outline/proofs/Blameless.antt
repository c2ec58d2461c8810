-- Blame without a fault: none was there, and none is added.
use mathlib.Core.Bool.{Bool, true, false, cond}
use mathlib.Core.Path.{◌≡◌, refl}
use Prim.Native.Nat.{ℕ}
use Rattle.std.specs.Prelude.{Option, Some, None}
use Rattle.std.proofs.lemmas.Option.{none-some}
use Rattle.outline.specs.declared.Cause.{Cause}
use Rattle.outline.specs.declared.Cause.TheVariants.{OutsideSubset, Undeclared, Limit}
use Rattle.outline.specs.declared.Fault.{Fault}
use Rattle.outline.specs.declared.Reading.{Reading}
use Rattle.outline.specs.Reading.{fault_at, comes_first, blamed, lowest, blame}
use mathlib.Core.Path.{sym}

-- what was blamed without a fault has none, and had none
pub record Blameless (f : Option Fault) (n : Option Cause) : Type 0 where
  pub before : f ≡ None
  pub none : n ≡ None

pub blameless : (f : Option Fault) (l : ℕ) (n : Option Cause) → blamed f l n ≡ None → Blameless f n
unfolding blamed
blameless f l None h = record { before = h; none = refl }
blameless None l (Some c) h = absurd (none-some (fault_at l c) (sym h))
blameless (Some f) l (Some c) h = absurd (either (comes_first (fault_at l c) f) h)
  where
    either : (x : Bool) → cond x (Some (fault_at l c)) (Some f) ≡ None → ⊥
    either true e = none-some (fault_at l c) (sym e)
    either false e = none-some f (sym e)

-- no cause is the lowest only where no test passes
pub lowest-none : (a b c : Bool) → lowest a b c ≡ None → (a ≡ false) × (b ≡ false) × (c ≡ false)
lowest-none true b c h = absurd (none-some OutsideSubset (sym h))
lowest-none false true c h = absurd (none-some Undeclared (sym h))
lowest-none false false true h = absurd (none-some Limit (sym h))
lowest-none false false false h = (refl, refl, refl)

-- where no cause is found, blame leaves a reading as it is
pub blame-none : (r : Reading) (l : ℕ) (n : Option Cause) → n ≡ None → blame r l n ≡ r
unfolding blame blamed
blame-none r l n e = rw e
