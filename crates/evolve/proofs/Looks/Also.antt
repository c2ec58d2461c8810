-- What the tests on one hold or latch line make of the words gathered so far.
use Prim.Native.Nat.{ℕ, ◌%◌}
use mathlib.Core.Path.{◌≡◌, refl, ◌∙◌}
use mathlib.Core.Bool.{Bool, true, false, cond, not, ◌&&◌, and-false, true≢false, false≢true, beq}
use lib.Bits.{bit_or, bit_xor}
use native.Mathlib.Nat.{mod-lt, zero-lt-suc}
use borrow.Author.Tests.{lt-ltb}
use Rattle.text.specs.Words.{bit_at, has}
use Rattle.text.proofs.Items.{differs, has_xor}
use Rattle.cond.specs.declared.View.{View}
use Rattle.cond.specs.Meaning.{true_in}
use Rattle.line.specs.Chart.{Latch}
use Rattle.evolve.specs.Net.{NetHold}
use Rattle.evolve.specs.Words.{bit}
use Rattle.evolve.specs.Evolution.{latch_acts}
use Rattle.evolve.specs.Parts.{held_also, switched_also}
use Rattle.evolve.specs.declared.Masks.{Masks}

-- the word of an item that a row names
pub bit_of : {b : ℕ} (n : ℕ) → b ≡ bit_at (n % 32) → b ≡ bit (n % 32)
unfolding bit_at
bit_of n e = e ∙ rw (lt-ltb (n % 32) 32 (mod-lt n (zero-lt-suc 31))) refl

-- a hold whose step is active and whose condition is true shows its output
pub also_on : (v : View) (h : NetHold) (w b : ℕ) → has v.moment.situation h.step ≡ true → true_in v h.condition ≡ true → b ≡ bit h.output
    → bit_or b w ≡ held_also v h w
unfolding held_also
also_on v h w b p q e = rw (p, q, e)

-- one whose condition is false shows nothing
pub also_unmet : (v : View) (h : NetHold) (w : ℕ) → true_in v h.condition ≡ false → w ≡ held_also v h w
unfolding held_also
also_unmet v h w p = rw (p, and-false)

-- nor does one whose step is idle
pub also_idle : (v : View) (h : NetHold) (w : ℕ) → has v.moment.situation h.step ≡ false → w ≡ held_also v h w
unfolding held_also
also_idle v h w p = rw p

-- a latch line acts whose step came or went, if that is what the line asks for: b is whether the step is active
pub acts_if : (to from : ℕ) (l : Latch) (b : Bool) → true ≡ has (bit_xor to from) l.step → b ≡ has to l.step
    → beq b l.activation ≡ latch_acts to from l
unfolding latch_acts
acts_if to from l b d p = rw p (go (has to l.step) (has from l.step) l.activation (d ∙ has_xor to from l.step))
  where
    go : (x y t : Bool) → true ≡ differs x y → beq x t ≡ cond t (x && not y) (y && not x)
    go true true t e = absurd (true≢false e)
    go true false true e = refl
    go true false false e = refl
    go false true true e = refl
    go false true false e = refl
    go false false t e = absurd (true≢false e)

-- none does whose step is in both situations, or in neither
pub acts_not : (to from : ℕ) (l : Latch) → false ≡ has (bit_xor to from) l.step → false ≡ latch_acts to from l
unfolding latch_acts
acts_not to from l d = go (has to l.step) (has from l.step) l.activation (d ∙ has_xor to from l.step)
  where
    go : (x y t : Bool) → false ≡ differs x y → false ≡ cond t (x && not y) (y && not x)
    go true true true e = refl
    go true true false e = refl
    go true false t e = absurd (false≢true e)
    go false true t e = absurd (false≢true e)
    go false false true e = refl
    go false false false e = refl

-- what a latch line switches, by whether it acts (t) and whether it switches on (u)
pub switched_by : (to from : ℕ) (l : Latch) (m : Masks) (b : ℕ) (a t u : Bool) → b ≡ bit l.output → a ≡ latch_acts to from l → a ≡ t → l.on ≡ u
    → record { on = bit_or (cond (t && u) b 0) m.on; off = bit_or (cond (t && not u) b 0) m.off } ≡ switched_also to from l m
unfolding switched_also
switched_by to from l m b a t u p q r s = rw (p, ← r, q, ← s)
