-- Parts of a line.
use mathlib.Core.Bool.{Bool, true, false, cond, ◌||◌}
use mathlib.Core.List.{List}
use mathlib.Core.Path.{◌≡◌, refl}
use Prim.Native.Nat.{ℕ, ◌+◌, ◌<◌, ◌≤◌}
use native.Mathlib.Omega.{arith}
use borrow.Author.Tests.{eqb-true}
use lib.Dec.{eqb}
use lib.ListN.{length}
use Rattle.std.specs.Prelude.{Some, None}
use Rattle.text.specs.Bytes.{byte_at}
use Rattle.text.proofs.Laws as text-laws
use Rattle.line.specs.Steps.{either}

-- a byte other than 0 stands within its line
pub inside : (s : List ℕ) (k b : ℕ) → byte_at s k ≡ b → 0 < b → k < length s
inside s k b e p = text-laws.inside s k (omega arith)

-- the place past a byte
pub record Past (w : List ℕ) (e b n : ℕ) : Type 0 where
  pub stands : eqb (byte_at w e) b ≡ true
  pub is : e + 1 ≡ n
  pub within : n ≤ length w

pub past_some : (w : List ℕ) (e b n : ℕ) → 0 < b → cond (eqb (byte_at w e) b) (Some (e + 1)) None ≡ Some n → Past w e b n
past_some w e b n p h = go (eqb (byte_at w e) b) refl h
  where
    go : (t : Bool) → eqb (byte_at w e) b ≡ t → cond t (Some (e + 1)) None ≡ Some n → Past w e b n
    go true q h = let i = inside w e b (eqb-true (byte_at w e) b q) p in let y : e + 1 ≡ n = cc in record { stands = q; is = y; within = omega arith }
    go false q h = cc

pub past_none : (t : Bool) (n : ℕ) → cond t (Some n) None ≡ None → t ≡ false
past_none true n h = cc
past_none false n h = refl

-- which of two bytes stands there
pub either_some : (b first second : ℕ) (t : Bool) → either b first second ≡ Some t → ((eqb b first || eqb b second) ≡ true) × (t ≡ eqb b first)
either_some b first second t h = go (eqb b first) (eqb b second) h
  where
    go : (x y : Bool) → cond x (Some true) (cond y (Some false) None) ≡ Some t → ((x || y) ≡ true) × (t ≡ x)
    go true y h = let q : t ≡ true = cc in (refl, q)
    go false true h = let q : t ≡ false = cc in (refl, q)
    go false false h = cc

pub either_none : (b first second : ℕ) → either b first second ≡ None → (eqb b first || eqb b second) ≡ false
either_none b first second h = go (eqb b first) (eqb b second) h
  where
    go : (x y : Bool) → cond x (Some true) (cond y (Some false) None) ≡ None → (x || y) ≡ false
    go true y h = cc
    go false true h = cc
    go false false h = refl
