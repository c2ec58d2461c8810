-- The numbers of a list: what the tests of a list say of each of them.
use mathlib.Core.Bool.{true, false, ◌&&◌}
use mathlib.Core.List.{List, [], ◌∷◌}
use mathlib.Core.Path.{◌≡◌, refl}
use Prim.Native.Nat.{ℕ, ◌+◌, ◌<◌, ◌≤◌}
use native.Mathlib.Omega.{arith}
use borrow.Author.Tests.{leb-true, leb-false, le-leb, lt-leb}
use lib.Dec.{leb}
use Rattle.line.specs.Rules.{rising, beyond}
use Rattle.line.proofs.Answers.{and_both, or_neither}
use Rattle.chart.specs.WellFormed.{Every, every_nil, every_cons, Rising, rising_nil, rising-one, rising-more, StepList}

pub every_map : {A : Type 0} {P Q : A → Type 0} → ((x : A) → P x → Q x) → {l : List A} → Every P l → Every Q l
every_map f every_nil = every_nil
every_map f (every_cons {x} p e) = every_cons (f x p) (every_map f e)

-- Numbers below n

pub below : (n : ℕ) (l : List ℕ) → beyond n l ≡ false → Every (λ v. v < n) l
unfolding beyond
below n [] h = every_nil
below n (v ∷ l) h = let p = or_neither (leb n v) (beyond n l) h in every_cons (leb-false n v p.0) (below n l p.1)

pub none-beyond : (n : ℕ) (l : List ℕ) → Every (λ v. v < n) l → beyond n l ≡ false
unfolding beyond
none-beyond n [] e = refl
none-beyond n (v ∷ l) (every_cons p e) = rw (lt-leb n v p) (none-beyond n l e)

-- Rising numbers

rises : (low : ℕ) (l : List ℕ) → rising low l ≡ true → Rising l
unfolding rising
rises low [] h = rising_nil
rises low (v ∷ []) h = rising-one
rises low (u ∷ v ∷ l) h =
    let p = (and_both (leb low u) (leb (u + 1) v && rising (v + 1) l) h).1 in
    let q = leb-true (u + 1) v (and_both (leb (u + 1) v) (rising (v + 1) l) p).0 in
    let r : u < v = omega arith in
    rising-more r (rises (u + 1) (v ∷ l) p)

rises-from : (low v : ℕ) (l : List ℕ) → low ≤ v → Rising (v ∷ l) → rising low (v ∷ l) ≡ true
unfolding rising
rises-from low v [] h rising-one = rw (le-leb low v h)
rises-from low u (v ∷ l) h (rising-more q r) = rw (le-leb low u h) (rises-from (u + 1) v l (omega arith) r)

rises-back : (l : List ℕ) → Rising l → rising 0 l ≡ true
unfolding rising
rises-back [] r = refl
rises-back (v ∷ l) r = rises-from 0 v l (omega arith) r

-- Lists of steps

pub step-list : (n : ℕ) (l : List ℕ) → rising 0 l ≡ true → beyond n l ≡ false → StepList n l
step-list n l p q = record { rises = rises 0 l p; declared = below n l q }

module _ (n : ℕ) (l : List ℕ) (s : StepList n l) where
  pub list-rises : rising 0 l ≡ true
  list-rises = rises-back l s.rises

  pub list-declared : beyond n l ≡ false
  list-declared = none-beyond n l s.declared
