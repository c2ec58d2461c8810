-- Which of two faults is kept: the first by line, then by number.
use mathlib.Core.Bool.{Bool, true, false, cond, ◌&&◌, ◌||◌, false≢true}
use mathlib.Core.List.{List}
use mathlib.Core.Path.{◌≡◌, refl, sym, ap, subst, ◌∙◌}
use Prim.Native.Nat.{ℕ, ◌+◌, ◌*◌, ◌<◌, ◌≤◌}
use native.Mathlib.Decide.{dec_le}
use native.Mathlib.Omega.{arith}
use borrow.Author.Tests.{eqb-true, eqb-false, ltb-true, ltb-false}
use lib.Dec.{eqb, ltb}
use Rattle.std.specs.Prelude.{Option, Some, None}
use Rattle.std.proofs.lemmas.Option.{none-some, same_Some}
use Rattle.outline.specs.declared.Cause.{Cause}
use Rattle.outline.specs.declared.Cause.TheVariants.{Settled, OutsideSubset, Undeclared, Limit}
use Rattle.outline.specs.declared.Fault.{Fault}
use Rattle.outline.specs.Reading.{fault_at, blamed, lowest}
use Rattle.outline.specs.Faults.{Faulty, number_of}

number-low : (c : Cause) → number_of c ≤ 18
number-low Settled = omega arith
number-low OutsideSubset = omega arith
number-low Undeclared = omega arith
number-low Limit = omega arith

-- the rank of a fault: by line, then by number, which is at most 18
abbrev pub rank : ℕ → ℕ → ℕ
rank l n = 32 * l + n

abbrev rank_of : Fault → ℕ
rank_of f = rank f.line (number_of f.cause)

-- there is a fault, and it comes no later than one of number n at line l
pub record Covers (f : Option Fault) (l n : ℕ) : Type 0 where
  pub fault : Fault
  pub is : f ≡ Some fault
  pub first : rank fault.line (number_of fault.cause) ≤ rank l n

-- what covers a fault covers later ones
pub covers_later : (f : Option Fault) (l m n k : ℕ) → Covers f l n → l ≤ m → n ≤ k → Covers f m k
covers_later f l m n k c h i = let a = c.first in record { fault = c.fault; is = c.is; first = omega arith }

-- the fault that was, or the new one, which then comes before it
data Blamed (f : Option Fault) (l : ℕ) : Option Cause → Option Fault → Type 0 where
  same : Blamed f l None f
  kept : {c : Cause} → Covers f l (number_of c) → Blamed f l (Some c) f
  new : {c : Cause} → ((g : Fault) → f ≡ Some g → rank l (number_of c) < rank_of g) → Blamed f l (Some c) (Some (fault_at l c))

blamed-is : (f : Option Fault) (l : ℕ) (n : Option Cause) → Blamed f l n (blamed f l n)
unfolding blamed
blamed-is f l None = same
blamed-is None l (Some c) = new (λ g e. absurd (none-some g e))
blamed-is (Some f) l (Some c) = go (ltb l f.line) refl (eqb l f.line) refl (ltb (number_of c) (number_of f.cause)) refl
  where
    earlier : rank l (number_of c) < rank_of f → Blamed (Some f) l (Some c) (Some (fault_at l c))
    earlier h = new (λ g e. subst (λ (x : Fault). rank l (number_of c) < rank_of x) (same_Some f g e) h)

    later : rank_of f ≤ rank l (number_of c) → Blamed (Some f) l (Some c) (Some f)
    later h = kept (record { fault = f; is = refl; first = h })

    go : (x : Bool) → ltb l f.line ≡ x → (y : Bool) → eqb l f.line ≡ y → (z : Bool) → ltb (number_of c) (number_of f.cause) ≡ z
        → Blamed (Some f) l (Some c) (cond (x || (y && z)) (Some (fault_at l c)) (Some f))
    go true p y q z r = let a = ltb-true l f.line p in let b = number-low c in earlier (omega arith)
    go false p true q true r = let a = eqb-true l f.line q in let b = ltb-true (number_of c) (number_of f.cause) r in earlier (omega arith)
    go false p true q false r = let a = eqb-true l f.line q in let b = ltb-false (number_of c) (number_of f.cause) r in later (omega arith)
    go false p false q z r =
        let a = ltb-false l f.line p in
        let b = eqb-false l f.line q in
        let d = number-low f.cause in
        let x : f.line < l = elim (dec_le l f.line) [ yes w ↦ absurd (b (omega arith)) | no w ↦ omega arith ] in
        later (omega arith)

module _ (f : Option Fault) (l : ℕ) where
  -- a fault more keeps what was covered, and covers itself
  pub blamed-keeps : (n : Option Cause) (m k : ℕ) → Covers f m k → Covers (blamed f l n) m k
  blamed-keeps n m k c = go n (blamed f l n) (blamed-is f l n)
    where
      go : (n : Option Cause) (g : Option Fault) → Blamed f l n g → Covers g m k
      go n g same = c
      go n g (kept p) = c
      go n g (new {c = d} q) = let x = q c.fault c.is in let y = c.first in record { fault = fault_at l d; is = refl; first = omega arith }

  -- a fault more is covered
  pub blamed_covers : (c : Cause) → Covers (blamed f l (Some c)) l (number_of c)
  blamed_covers c = go (Some c) (blamed f l (Some c)) refl (blamed-is f l (Some c))
    where
      go : (n : Option Cause) (g : Option Fault) → n ≡ Some c → Blamed f l n g → Covers g l (number_of c)
      go n g e same = absurd (none-some c e)
      go n g e (kept {c = d} p) = let i = ap number_of (same_Some d c e) in covers_later f l l (number_of d) (number_of c) p (omega arith) (omega arith)
      go n g e (new {c = d} q) = let i = ap number_of (same_Some d c e) in record { fault = fault_at l d; is = refl; first = omega arith }

-- a fault, where there is one, is a row of the table
abbrev pub Row : List ℕ → Option Fault → Type 0
Row s f = (g : Fault) → f ≡ Some g → Faulty s g.line (number_of g.cause)

module _ (s : List ℕ) (f : Option Fault) (l : ℕ) where
  -- a fault that is a row itself
  pub blamed_row : (c : Cause) → Row s f → Faulty s l (number_of c) → Row s (blamed f l (Some c))
  blamed_row c r h = go (Some c) (blamed f l (Some c)) refl (blamed-is f l (Some c))
    where
      go : (n : Option Cause) (g : Option Fault) → n ≡ Some c → Blamed f l n g → Row s g
      go n g e same = r
      go n g e (kept p) = r
      go n g e (new {c = d} q) = λ o i. subst (λ (x : Fault). Faulty s x.line (number_of x.cause)) (ap (fault_at l) (sym (same_Some d c e)) ∙ same_Some (fault_at l d) o i) h

  -- a fault that is covered is not kept
  pub blamed_covered : (c : Cause) → Covers f l (number_of c) → Row s f → Row s (blamed f l (Some c))
  blamed_covered c k r = go (Some c) (blamed f l (Some c)) refl (blamed-is f l (Some c))
    where
      go : (n : Option Cause) (g : Option Fault) → n ≡ Some c → Blamed f l n g → Row s g
      go n g e same = r
      go n g e (kept p) = r
      go n g e (new {c = d} q) = let x = q k.fault k.is in let y = k.first in let i = ap number_of (same_Some d c e) in absurd (omega arith)

  -- the lowest of the three causes
  pub lowest_row : (a b c : Bool) → Row s f → (a ≡ true → Faulty s l 16) → (b ≡ true → Faulty s l 17) → (c ≡ true → Faulty s l 18) → Row s (blamed f l (lowest a b c))
  unfolding blamed
  lowest_row true b c r x y z = blamed_row OutsideSubset r (x refl)
  lowest_row false true c r x y z = blamed_row Undeclared r (y refl)
  lowest_row false false true r x y z = blamed_row Limit r (z refl)
  lowest_row false false false r x y z = r

module _ (f : Option Fault) (l : ℕ) where
  -- a test of a token that is true covers its number
  pub covers_16 : (a b c : Bool) → a ≡ true → Covers (blamed f l (lowest a b c)) l 16
  covers_16 true b c e = blamed_covers f l OutsideSubset
  covers_16 false b c e = absurd (false≢true e)

  pub covers_17 : (a b c : Bool) → b ≡ true → Covers (blamed f l (lowest a b c)) l 17
  covers_17 true b c e = covers_later _ l l 16 17 (blamed_covers f l OutsideSubset) (omega arith) (omega arith)
  covers_17 false true c e = blamed_covers f l Undeclared
  covers_17 false false c e = absurd (false≢true e)

  pub covers_18 : (a b c : Bool) → c ≡ true → Covers (blamed f l (lowest a b c)) l 18
  covers_18 true b c e = covers_later _ l l 16 18 (blamed_covers f l OutsideSubset) (omega arith) (omega arith)
  covers_18 false true c e = covers_later _ l l 17 18 (blamed_covers f l Undeclared) (omega arith) (omega arith)
  covers_18 false false true e = blamed_covers f l Limit
  covers_18 false false false e = absurd (false≢true e)
