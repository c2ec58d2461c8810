-- The copy of a text, filled from the front.
use mathlib.Core.Bool.{Bool, true, false}
use mathlib.Core.List.{List}
use mathlib.Core.Path.{◌≡◌, refl, sym, ◌∙◌}
use Prim.Native.Nat.{ℕ, ◌+◌, ◌<◌, ◌≤◌}
use native.Mathlib.Omega.{arith}
use borrow.Author.Tests.{ltb-true, ltb-false, eqb-true, eqb-false}
use lib.Dec.{ltb, eqb}
use lib.ListN.{length, get_or, set, replicate, length-set, length-replicate, get_or-replicate}
use lib.Seq.{get_or-set_same, get_or-set_other}
use Rattle.text.specs.Bytes.{byte_at}
use Rattle.text.proofs.Laws.{byte_past}
use Rattle.cond.specs.Bounds.{longest}

-- c has the first i bytes of s, and then zeros
pub record Copying (s c : List ℕ) (i : ℕ) : Type 0 where
  pub long : length c ≡ longest
  pub within : i ≤ length s
  pub done : (a : ℕ) → a < i → byte_at c a ≡ byte_at s a
  pub clear : (a : ℕ) → i ≤ a → byte_at c a ≡ 0

pub copying_start : (s : List ℕ) → Copying s (replicate longest 0) 0
copying_start s = record { long = length-replicate {A = ℕ} longest 0; within = omega arith; done = λ a h. absurd (omega arith); clear = λ a _. zeros a }
  where
    zeros : (a : ℕ) → byte_at (replicate longest 0) a ≡ 0
    zeros a = go (ltb a longest) refl
      where
        go : (t : Bool) → ltb a longest ≡ t → byte_at (replicate longest 0) a ≡ 0
        go true q = get_or-replicate longest a 0 0 (ltb-true a longest q)
        go false q = byte_past (replicate longest 0) a (let l = length-replicate {A = ℕ} longest 0 in let i = ltb-false a longest q in omega arith)

module _ (s c : List ℕ) (i : ℕ) (g : Copying s c i) where
  pub copying_on : i < length s → length s ≤ longest → Copying s (set c i (get_or s i 0)) (i + 1)
  copying_on l m = record { long = length-set c i (get_or s i 0) ∙ g.long; within = omega arith; done = done; clear = clear }
    where
      done : (a : ℕ) → a < i + 1 → byte_at (set c i (get_or s i 0)) a ≡ byte_at s a
      done a h = go (eqb a i) refl
        where
          go : (t : Bool) → eqb a i ≡ t → byte_at (set c i (get_or s i 0)) a ≡ byte_at s a
          go true q = let z = eqb-true a i q in rw z (get_or-set_same c i (get_or s i 0) 0 (let e = g.long in omega arith))
          go false q = let z = eqb-false a i q in get_or-set_other c i a (get_or s i 0) 0 z ∙ g.done a (omega (arith, z))

      clear : (a : ℕ) → i + 1 ≤ a → byte_at (set c i (get_or s i 0)) a ≡ 0
      clear a h = get_or-set_other c i a (get_or s i 0) 0 (λ z. omega arith) ∙ g.clear a (omega arith)

  pub copying_end : length s ≤ i → (a : ℕ) → byte_at c a ≡ byte_at s a
  copying_end l = same
    where
      same : (a : ℕ) → byte_at c a ≡ byte_at s a
      same a = go (ltb a i) refl
        where
          go : (t : Bool) → ltb a i ≡ t → byte_at c a ≡ byte_at s a
          go true q = g.done a (ltb-true a i q)
          go false q = let h = ltb-false a i q in g.clear a h ∙ sym (byte_past s a (omega arith))
