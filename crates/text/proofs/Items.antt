-- Words item by item: what an operation on two words does to each item.
use Prim.Native.Nat.{ℕ, zero, suc, ◌+◌, ◌*◌, ◌/◌, ◌%◌, ◌^◌, ◌<◌, ◌≤◌, min, max}
use mathlib.Core.Bool.{Bool, true, false, not, ◌&&◌, ◌||◌, false≢true, and-eq-true_iff, or-true}
use mathlib.Core.Path.{◌≡◌, refl, sym, ◌∙◌, ap}
use native.Mathlib.Nat.{mod-lt, zero-lt-suc, div-one, zero-div, div-eq_of_lt, lt_of_lt_of_le, div-div-eq-div-mul, pow-suc, pow-succ'}
use native.Mathlib.Omega.{arith}
use borrow.Author.Tests.{eqb-true, eqb-false}
use lib.Arith.{digits_mod}
use lib.Bits.{bit_and, bit_or, bit_xor, differ, and_step, or_step, xor_step, and_shr, or_shr, xor_shr, and_zero_l}
use lib.Dec.{eqb}
use lib.Pow.{pow_mono}
use Rattle.text.specs.Words.{has, without}

-- Items that a word has not

pub has-none : (k : ℕ) → has 0 k ≡ false
has-none k = rw (zero-div (2 ^ k))

-- a word has no bit 32 or higher
pub no_bit : (w k : ℕ) → w < 2 ^ 32 → 32 ≤ k → has w k ≡ false
no_bit w k h l = rw (div-eq_of_lt (lt_of_lt_of_le h (pow_mono l)))

pub has_zero : (j : ℕ) → has 0 j ≡ false
has_zero = has-none

-- What an operation on two words does to each item

-- an operation that goes bit by bit, f on the bits as numbers, g on them as tests
module _ (op f : ℕ → ℕ → ℕ) (g : Bool → Bool → Bool) (step : (a b : ℕ) → op a b ≡ op (a / 2) (b / 2) * 2 + f (a % 2) (b % 2))
    (shr : (a b k : ℕ) → op a b / 2 ^ k ≡ op (a / 2 ^ k) (b / 2 ^ k))
    (bit : (x y : ℕ) → x < 2 → y < 2 → (f x y < 2) × (eqb (f x y) 1 ≡ g (eqb x 1) (eqb y 1))) where
  has_op : (a b j : ℕ) → has (op a b) j ≡ g (has a j) (has b j)
  has_op a b j =
      let x = a / 2 ^ j in let y = b / 2 ^ j in
      let l = bit (x % 2) (y % 2) (mod-lt x (zero-lt-suc 1)) (mod-lt y (zero-lt-suc 1)) in
      ap (λ (z : ℕ). eqb (z % 2) 1) (shr a b j ∙ step x y) ∙ ap (λ (z : ℕ). eqb z 1) (digits_mod (op (x / 2) (y / 2)) l.0) ∙ l.1

-- an operation on bits, checked at all four pairs
by_bits : (f : ℕ → ℕ → ℕ) (g : Bool → Bool → Bool) → (f 0 0 < 2) × (eqb (f 0 0) 1 ≡ g false false) → (f 0 1 < 2) × (eqb (f 0 1) 1 ≡ g false true)
    → (f 1 0 < 2) × (eqb (f 1 0) 1 ≡ g true false) → (f 1 1 < 2) × (eqb (f 1 1) 1 ≡ g true true)
    → (x y : ℕ) → x < 2 → y < 2 → (f x y < 2) × (eqb (f x y) 1 ≡ g (eqb x 1) (eqb y 1))
by_bits f g p q r s zero zero h k = p
by_bits f g p q r s zero (suc zero) h k = q
by_bits f g p q r s (suc zero) zero h k = r
by_bits f g p q r s (suc zero) (suc zero) h k = s
by_bits f g p q r s zero (suc (suc y)) h k = absurd (omega arith)
by_bits f g p q r s (suc zero) (suc (suc y)) h k = absurd (omega arith)
by_bits f g p q r s (suc (suc x)) y h k = absurd (omega arith)

pub has_or : (a b j : ℕ) → has (bit_or a b) j ≡ has a j || has b j
has_or = has_op bit_or max (λ x y. x || y) or_step or_shr (by_bits max (λ x y. x || y) (omega arith, refl) (omega arith, refl) (omega arith, refl) (omega arith, refl))

pub has_and : (a b j : ℕ) → has (bit_and a b) j ≡ has a j && has b j
has_and = has_op bit_and min (λ x y. x && y) and_step and_shr (by_bits min (λ x y. x && y) (omega arith, refl) (omega arith, refl) (omega arith, refl) (omega arith, refl))

abbrev pub differs : Bool → Bool → Bool
differs true b = not b
differs false b = b

pub has_xor : (a b j : ℕ) → has (bit_xor a b) j ≡ differs (has a j) (has b j)
has_xor = has_op bit_xor differ differs xor_step xor_shr (by_bits differ differs (omega arith, refl) (omega arith, refl) (omega arith, refl) (omega arith, refl))

pub has-without : (a b j : ℕ) → has (without a b) j ≡ has a j && not (has b j)
has-without a b j = has_xor a (bit_and a b) j ∙ ap (differs (has a j)) (has_and a b j) ∙ cases (has a j) (has b j)
  where
    cases : (x y : Bool) → differs x (x && y) ≡ x && not y
    cases true y = refl
    cases false y = refl

-- Words as sets: the items of one among those of another

abbrev pub Among : ℕ → ℕ → Type 0
Among a m = (j : ℕ) → has a j ≡ true → has m j ≡ true

has_half : (a j : ℕ) → has (a / 2) j ≡ has a (suc j)
has_half a j = ap (λ (x : ℕ). eqb (x % 2) 1) (div-div-eq-div-mul a 2 (2 ^ j) ∙ ap (λ (x : ℕ). a / x) (sym (pow-succ' 2 j)))

has_first : (a : ℕ) → has a 0 ≡ eqb (a % 2) 1
has_first a = ap (λ (x : ℕ). eqb (x % 2) 1) (div-one a)

low_bit : (a m : ℕ) → Among a m → min (a % 2) (m % 2) ≡ a % 2
low_bit a m h = go (eqb (a % 2) 1) refl
  where
    go : (t : Bool) → eqb (a % 2) 1 ≡ t → min (a % 2) (m % 2) ≡ a % 2
    go true q =
        let x = eqb-true (a % 2) 1 q in
        let y = eqb-true (m % 2) 1 (sym (has_first m) ∙ h 0 (has_first a ∙ q)) in
        omega arith
    go false q = let x = eqb-false (a % 2) 1 q in let y : a % 2 ≡ 0 = omega arith in omega arith

among_below : (k a m : ℕ) → a < 2 ^ k → Among a m → bit_and a m ≡ a
among_below zero a m l h = let z : a ≡ 0 = omega arith in rw (z, and_zero_l m)
among_below (suc k) a m l h =
    let p = pow-suc 2 k in
    let i = among_below k (a / 2) (m / 2) (omega arith) (λ j q. has_half m j ∙ h (suc j) (sym (has_half a j) ∙ q)) in
    let b = low_bit a m h in
    let s = and_step a m in
    omega arith

below_power : (n : ℕ) → n < 2 ^ n
below_power zero = omega arith
below_power (suc n) = let i = below_power n in let p = pow-suc 2 n in omega arith

pub among_and : (a m : ℕ) → Among a m → bit_and a m ≡ a
among_and a m h = among_below a a m (below_power a) h

pub and_among : (a m : ℕ) → bit_and a m ≡ a → Among a m
and_among a m e j q = ((and-eq-true_iff (has a j) (has m j)).0 (sym (has_and a m j) ∙ ap (λ (x : ℕ). has x j) e ∙ q)).1

pub among_none : (m : ℕ) → Among 0 m
among_none m j q = absurd (false≢true (sym (has_zero j) ∙ q))

pub among_or : (a b m : ℕ) → Among a m → Among b m → Among (bit_or a b) m
among_or a b m f g j q = go (has a j) (has b j) refl refl (sym (has_or a b j) ∙ q)
  where
    go : (x y : Bool) → has a j ≡ x → has b j ≡ y → (x || y) ≡ true → has m j ≡ true
    go true y p r q = f j p
    go false true p r q = g j r
    go false false p r q = absurd (false≢true q)

pub among-without : (a b m : ℕ) → Among a m → Among (without a b) m
among-without a b m f j q = f j ((and-eq-true_iff (has a j) (not (has b j))).0 (sym (has-without a b j) ∙ q)).0

pub or_left : (a b m : ℕ) → Among m a → Among m (bit_or a b)
or_left a b m f j q = has_or a b j ∙ rw (f j q)

pub or_right : (a b m : ℕ) → Among m b → Among m (bit_or a b)
or_right a b m f j q = has_or a b j ∙ rw (f j q) (or-true (has a j))
