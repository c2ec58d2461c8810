-- What is known of a number that is one of a list's: a rule of a table is one computed test.
use mathlib.Core.Bool.{Bool, true, false, ◌&&◌, ◌||◌, false≢true, and-eq-true_iff}
use mathlib.Core.List.{List, [], ◌∷◌}
use mathlib.Core.Path.{◌≡◌, refl, sym, ap, ◌∙◌}
use Prim.Native.Nat.{ℕ}
use borrow.Author.Tests.{eqb-true}
use lib.Dec.{eqb}
use Rattle.text.specs.Members.{is_among}

-- every number of a list passes a test
abbrev pub every : (ℕ → Bool) → List ℕ → Bool
every f [] = true
every f (v ∷ l) = f v && every f l

pub among_passes : (f : ℕ → Bool) (l : List ℕ) (n : ℕ) → every f l ≡ true → is_among n l ≡ true → f n ≡ true
unfolding is_among
among_passes f [] n e h = absurd (false≢true h)
among_passes f (v ∷ l) n e h =
    let p = (and-eq-true_iff (f v) (every f l)).0 e in
    go (eqb v n) refl h p.0 (among_passes f l n p.1)
  where
    go : (t : Bool) → eqb v n ≡ t → (t || is_among n l) ≡ true → f v ≡ true → (is_among n l ≡ true → f n ≡ true) → f n ≡ true
    go true w h q k = ap f (sym (eqb-true v n w)) ∙ q
    go false w h q k = k h

-- a number that is not in the list it is not
pub among_not : (l : List ℕ) (n m : ℕ) → is_among m l ≡ false → is_among n l ≡ true → n ≡ m → ⊥
among_not l n m h k e = false≢true (sym h ∙ ap (λ (x : ℕ). is_among x l) (sym e) ∙ k)
