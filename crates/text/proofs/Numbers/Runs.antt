-- Runs of digits: one digit more, or the end; and a run that is under way, which stays below its bound.
use mathlib.Core.Bool.{true, false}
use mathlib.Core.Path.{◌≡◌, refl, sym, ap, ◌∙◌}
use Prim.Native.Nat.{ℕ, zero, suc, ◌+◌, ◌-◌, ◌*◌, ◌^◌, ◌<◌, ◌≤◌}
use native.Mathlib.Omega.{arith}
use native.Mathlib.Nat.{pow-succ', one-le-pow, pow-le-pow_right, mul-le-mul_right, mul-le-mul_left, mul_assoc}
use Rattle.text.specs.Bytes.{Bytes, is_digit}
use Rattle.text.specs.Runs.{run}
use Rattle.text.proofs.Bytes.{digit-is}

pub run_end : (k : ℕ) (b : Bytes) (a v : ℕ) → is_digit (b a) ≡ false → run k b a v ≡ (v, a)
unfolding run
run_end zero b a v h = refl
run_end (suc k) b a v h = rw h

pub run_full : (k : ℕ) (b : Bytes) (a v : ℕ) → k ≡ 0 → run k b a v ≡ (v, a)
unfolding run
run_full k b a v h = rw h

pub run_more : (k : ℕ) (b : Bytes) (a v : ℕ) → 0 < k → is_digit (b a) ≡ true → run k b a v ≡ run (k - 1) b (a + 1) (v * 10 + (b a - 48))
unfolding run
run_more zero b a v p h = absurd (omega arith)
run_more (suc k) b a v p h = let e : suc k - 1 ≡ k = omega arith in rw (h, e)

-- there is room for one digit more
pub room : (m k v d : ℕ) → 0 < k → d ≤ 9 → (v + 1) * 10 ^ k ≤ m → (v * 10 + d + 1) * 10 ^ (k - 1) ≤ m
room m zero v d p q h = absurd (omega arith)
room m (suc k) v d p q h =
    let e : suc k - 1 ≡ k = omega arith in
    let f : (v + 1) * 10 * 10 ^ k ≡ (v + 1) * 10 ^ suc k = mul_assoc (v + 1) 10 (10 ^ k) ∙ ap (λ (x : ℕ). (v + 1) * x) (sym (pow-succ' 10 k)) in
    let g : (v * 10 + d + 1) * 10 ^ k ≤ (v + 1) * 10 * 10 ^ k = mul-le-mul_right (10 ^ k) (omega arith) in
    rw e (omega arith)

-- what has room is below the bound
pub small : (m k v : ℕ) → (v + 1) * 10 ^ k ≤ m → v < m
small m k v h =
    let g : (v + 1) * 1 ≤ (v + 1) * 10 ^ k = mul-le-mul_left (v + 1) (one-le-pow k 10 (omega arith)) in
    omega arith

-- a run of at most m digits that is under way: what is left of it gives the whole, and there is room for it
pub record Going (m : ℕ) (b : Bytes) (a k e left v : ℕ) : Type 0 where
  pub whole : run k b a 0 ≡ run left b e v
  pub fits : (v + 1) * 10 ^ left ≤ 10 ^ m

pub going_start : (m : ℕ) (b : Bytes) (a k : ℕ) → k ≤ m → Going m b a k a k 0
going_start m b a k h = let p : 10 ^ k ≤ 10 ^ m = pow-le-pow_right (omega arith) h in record { whole = refl; fits = omega arith }

module _ (m : ℕ) (b : Bytes) (a k e left v : ℕ) (g : Going m b a k e left v) where
  pub going_below : v < 10 ^ m
  going_below = small (10 ^ m) left v g.fits

  pub going_room : 0 < left → v * 10 + 9 < 10 ^ m
  going_room p = small (10 ^ m) (left - 1) (v * 10 + 9) (room (10 ^ m) left v 9 p (omega arith) g.fits)

  pub going_stop : is_digit (b e) ≡ false → (v, e) ≡ run k b a 0
  going_stop h = sym (g.whole ∙ run_end left b e v h)

  pub going_full : left ≡ 0 → (v, e) ≡ run k b a 0
  going_full h = sym (g.whole ∙ run_full left b e v h)

  pub going_on : 0 < left → is_digit (b e) ≡ true → Going m b a k (e + 1) (left - 1) (v * 10 + (b e - 48))
  going_on p h =
      let i = digit-is (b e) h in
      record { whole = g.whole ∙ run_more left b e v p h; fits = room (10 ^ m) left v (b e - 48) p (omega arith) g.fits }

-- a run past its first digit
pub going_first : (m : ℕ) (b : Bytes) (a k : ℕ) → 0 < k → k ≤ m → is_digit (b a) ≡ true → Going m b a k (a + 1) (k - 1) (b a - 48)
going_first m b a k p l h =
    let z : 0 * 10 + (b a - 48) ≡ b a - 48 = omega arith in
    let g = going_on m b a k a k 0 (going_start m b a k l) p h in
    rw z at g
