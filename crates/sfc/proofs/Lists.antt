-- Laws of lists whose elements are all so, and of the strictly rising list of some numbers.
use mathlib.Core.Bool.{Bool, true, false, cond, false≢true}
use mathlib.Core.List.{List, [], ◌∷◌, ◌++◌}
use mathlib.Core.Path.{◌≡◌, refl, sym, ap, ◌∙◌}
use Prim.Native.Nat.{ℕ, zero, suc, ◌+◌, ◌≤◌, ◌<◌}
use native.Mathlib.Omega.{arith}
use borrow.Author.Tests.{eq-eqb, eqb-true, eqb-false}
use lib.Dec.{eqb}
use Rattle.text.specs.Members.{is_among}
use Rattle.chart.specs.WellFormed.{Every, every_nil, every_cons, Rising, rising_nil, rising-one, rising-more, StepList}
use Rattle.sfc.specs.Chart.{ascending_from, ascending}

-- what follows from each
pub every_map : {A : Type 0} {P Q : A → Type 0} → ((x : A) → P x → Q x) → {l : List A} → Every P l → Every Q l
every_map f every_nil = every_nil
every_map f (every_cons {x} p e) = every_cons (f x p) (every_map f e)

-- one list and then another
pub every_both : {A : Type 0} {P : A → Type 0} {k l : List A} → Every P k → Every P l → Every P (k ++ l)
every_both every_nil f = f
every_both (every_cons p e) f = every_cons p (every_both e f)

-- the first of two lists
pub every_left : {A : Type 0} {P : A → Type 0} (k l : List A) → Every P (k ++ l) → Every P k
every_left [] l e = every_nil
every_left (x ∷ k) l (every_cons p e) = every_cons p (every_left k l e)

-- the second of two lists
pub every_right : {A : Type 0} {P : A → Type 0} (k l : List A) → Every P (k ++ l) → Every P l
every_right [] l e = e
every_right (x ∷ k) l (every_cons p e) = every_right k l e

-- what follows from two things that are so of each
pub every_with : {A : Type 0} {P Q R : A → Type 0} → ((x : A) → P x → Q x → R x) → {l : List A} → Every P l → Every Q l → Every R l
every_with f every_nil e = every_nil
every_with f (every_cons {x} p d) (every_cons q e) = every_cons (f x p q) (every_with f d e)

-- Rising lists

-- the numbers of a rising list lie where they are looked for
rising_between : (n j : ℕ) (l : List ℕ) → Every (λ v. (j ≤ v) × (v < j + n)) (ascending_from n j l)
unfolding ascending_from
rising_between zero j l = every_nil
rising_between (suc n) j l = go (is_among j l) (every_map (λ v h. (omega arith, omega arith)) (rising_between n (j + 1) l))
  where
    go : (x : Bool) → Every (λ v. (j ≤ v) × (v < j + suc n)) (ascending_from n (j + 1) l)
        → Every (λ v. (j ≤ v) × (v < j + suc n)) (cond x (j ∷ ascending_from n (j + 1) l) (ascending_from n (j + 1) l))
    go true e = every_cons {x = j} (omega arith, omega arith) e
    go false e = e

-- a lower number in front
rising-on : (j : ℕ) {l : List ℕ} → Every (λ v. j < v) l → Rising l → Rising (j ∷ l)
rising-on j every_nil r = rising-one
rising-on j (every_cons h e) r = rising-more h r

-- they rise strictly
rising-rises : (n j : ℕ) (l : List ℕ) → Rising (ascending_from n j l)
unfolding ascending_from
rising-rises zero j l = rising_nil
rising-rises (suc n) j l = go (is_among j l) (every_map (λ v h. omega arith) (rising_between n (j + 1) l)) (rising-rises n (j + 1) l)
  where
    go : (x : Bool) → Every (λ v. j < v) (ascending_from n (j + 1) l) → Rising (ascending_from n (j + 1) l)
        → Rising (cond x (j ∷ ascending_from n (j + 1) l) (ascending_from n (j + 1) l))
    go true e r = rising-on j e r
    go false e r = r

-- a rising list is a list of steps
pub step-list : (n : ℕ) (l : List ℕ) → StepList n (ascending n l)
step-list n l = record { rises = rising-rises n 0 l; declared = every_map (λ v h. omega arith) (rising_between n 0 l) }

-- a number that is among some and lies where they are looked for is found
rising-found : (n j v : ℕ) (l : List ℕ) → j ≤ v → v < j + n → is_among v l ≡ true → ascending_from n j l ≡ [] → ⊥
unfolding ascending_from
rising-found zero j v l h k m e = absurd (omega arith)
rising-found (suc n) j v l h k m e = go (is_among j l) refl e (λ i. rising-found n (j + 1) v l i (omega arith) m)
  where
    here : (x : Bool) → eqb j v ≡ x → is_among j l ≡ false → (j + 1 ≤ v → ascending_from n (j + 1) l ≡ [] → ⊥) → ascending_from n (j + 1) l ≡ [] → ⊥
    here true w q f e = let y : j ≡ v = eqb-true j v w in false≢true (sym q ∙ ap (λ (i : ℕ). is_among i l) y ∙ m)
    here false w q f e = let y = eqb-false j v w in f (omega arith) e

    go : (x : Bool) → is_among j l ≡ x → cond x (j ∷ ascending_from n (j + 1) l) (ascending_from n (j + 1) l) ≡ []
        → (j + 1 ≤ v → ascending_from n (j + 1) l ≡ [] → ⊥) → ⊥
    go true q e f = let z : ◌≡◌ {A = ℕ} 0 1 = cc in omega arith
    go false q e f = here (eqb j v) refl q f e

-- one whose first number is below n is not empty
pub rising-some : (n v : ℕ) (l : List ℕ) → v < n → ascending n (v ∷ l) ≡ [] → ⊥
unfolding is_among
rising-some n v l h = rising-found n 0 v (v ∷ l) (omega arith) (omega arith) (rw (eq-eqb v v refl))
