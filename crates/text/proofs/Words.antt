-- Words of items: which items the word of one and of several has, and how large it is.
use mathlib.Core.Bool.{Bool, true, false, cond, ◌||◌}
use mathlib.Core.Path.{◌≡◌, refl, sym, ap, ◌∙◌}
use Prim.Native.Nat.{ℕ, suc, ◌+◌, ◌-◌, ◌*◌, ◌^◌, ◌<◌}
use native.Mathlib.Omega.{arith}
use native.Mathlib.Nat.{pow-suc, mul-mod_left, div-eq_of_lt, div_self, zero-div}
use borrow.Author.Tests.{eq-eqb, ne_eqb, ltb-true, ltb-false}
use lib.Bits.{bit_or}
use lib.Dec.{eqb, ltb}
use lib.Pow.{pow_pos, pow-lt, pow-add, shl-shr}
use Rattle.text.specs.Words.{has, bit_at}
use Rattle.text.proofs.Items.{has_or}

pub has-nothing : (o : ℕ) → has 0 o ≡ false
has-nothing o = rw (zero-div (2 ^ o))

-- One item

bit-same : (v : ℕ) → has (2 ^ v) v ≡ true
bit-same v = rw (div_self (pow_pos v))

bit_below : (v o : ℕ) → v < o → has (2 ^ v) o ≡ false
bit_below v o h = rw (div-eq_of_lt (pow-lt h))

bit_above : (v o : ℕ) → o < v → has (2 ^ v) o ≡ false
bit_above v o h =
    let e : suc (v - o - 1) + o ≡ v = omega arith in
    let p : 2 ^ v ≡ 2 ^ suc (v - o - 1) * 2 ^ o = ap (λ (k : ℕ). 2 ^ k) (sym e) ∙ pow-add 2 (suc (v - o - 1)) o in
    rw (p, shl-shr (2 ^ suc (v - o - 1)) o, pow-suc 2 (v - o - 1), mul-mod_left (2 ^ (v - o - 1)) 2)

pub has-bit : (v o : ℕ) → o < 32 → has (bit_at v) o ≡ eqb v o
unfolding bit_at
has-bit v o h = go (ltb v 32) refl (ltb v o) refl (ltb o v) refl
  where
    go : (t : Bool) → ltb v 32 ≡ t → (x : Bool) → ltb v o ≡ x → (y : Bool) → ltb o v ≡ y → has (cond t (2 ^ v) 0) o ≡ eqb v o
    go false q x r y s = let l = ltb-false v 32 q in has-nothing o ∙ sym (ne_eqb v o (λ e. omega arith))
    go true q true r y s = let l = ltb-true v o r in bit_below v o l ∙ sym (ne_eqb v o (λ e. omega arith))
    go true q false r true s = let l = ltb-true o v s in bit_above v o l ∙ sym (ne_eqb v o (λ e. omega arith))
    go true q false r false s =
        let k = ltb-false v o r in
        let l = ltb-false o v s in
        let e : v ≡ o = omega arith in
        rw e (bit-same o ∙ sym (eq-eqb o o refl))

pub bit-low : (n v : ℕ) → v < n → bit_at v < 2 ^ n
unfolding bit_at
bit-low n v h = go (ltb v 32)
  where
    go : (t : Bool) → cond t (2 ^ v) 0 < 2 ^ n
    go true = pow-lt h
    go false = pow_pos n

-- one item more
pub has_more : (w v o : ℕ) → o < 32 → has (bit_or w (bit_at v)) o ≡ (has w o || eqb v o)
has_more w v o h = rw (has_or w (bit_at v) o, has-bit v o h)

-- Several
