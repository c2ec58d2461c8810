-- What is read as a number is what the rule says, both ways, for every count of digits.
use mathlib.Core.Bool.{Bool, true, false, cond}
use mathlib.Core.List.{List}
use mathlib.Core.Path.{◌≡◌, refl, ap, ◌∙◌}
use Prim.Native.Nat.{ℕ, zero, suc, ◌+◌, ◌-◌, ◌*◌, ◌<◌, ◌≤◌}
use native.Mathlib.Omega.{arith}
use borrow.Author.Tests.{eqb-true, eqb-false}
use lib.Dec.{eqb}
use lib.ListN.{length}
use Rattle.text.specs.Bytes.{Bytes, byte_at}
use Rattle.text.specs.Numbers.{is_digit, Digits, first, next, Number, Reads, run, ended, number}
use Rattle.text.proofs.Bytes.{inside, digit-is}
use Rattle.text.proofs.Numbers.Ended.{number_zero, number_more, ended_yes}
use Rattle.text.proofs.Numbers.Runs.{run_end, run_more}
use Rattle.std.specs.Prelude.{Some, None}
pub mod Ended
pub mod Runs

pub digits_past : (b : Bytes) (a e v : ℕ) → Digits b a e v → a < e
digits_past b a e v (first h) = omega arith
digits_past b a e v (next e' v' d h) = let i = digits_past b a e' v' d in omega arith

pub digits-first : (b : Bytes) (a e v : ℕ) → Digits b a e v → is_digit (b a) ≡ true
digits-first b a e v (first h) = h
digits-first b a e v (next e' v' d h) = digits-first b a e' v' d

pub digits-inside : (s : List ℕ) (a e v : ℕ) → Digits (byte_at s) a e v → e ≤ length s
digits-inside s a e v (first h) = let i = digit-is (byte_at s a) h in let j = inside s a (omega arith) in omega arith
digits-inside s a e v (next e' v' d h) = let i = digit-is (byte_at s e') h in let j = inside s e' (omega arith) in omega arith

-- Sound

-- what a run that goes on from digits has read, in all
record Read (b : Bytes) (a m : ℕ) (r : ℕ × ℕ) : Type 0 where
  digits : Digits b a r.1 r.0
  short : r.1 ≤ m

run-digits : (b : Bytes) (a k e v : ℕ) → Digits b a e v → Read b a (e + k) (run k b e v)
unfolding run
run-digits b a zero e v d = record { digits = d; short = omega arith }
run-digits b a (suc k) e v d = go (is_digit (b e)) refl (λ h. run-digits b a k (e + 1) (v * 10 + (b e - 48)) (next e v d h))
  where
    go : (t : Bool) → is_digit (b e) ≡ t → (is_digit (b e) ≡ true → Read b a (e + 1 + k) (run k b (e + 1) (v * 10 + (b e - 48)))) → Read b a (e + suc k) (cond t (run k b (e + 1) (v * 10 + (b e - 48))) ((v, e)))
    go true q f = record { digits = (f q).digits; short = let i = (f q).short in omega arith }
    go false q f = record { digits = d; short = omega arith }

run-read : (b : Bytes) (a k : ℕ) → 0 < k → is_digit (b a) ≡ true → Read b a (a + k) (run k b a 0)
run-read b a k p h =
    let z : 0 * 10 + (b a - 48) ≡ b a - 48 = omega arith in
    let e : a + 1 + (k - 1) ≡ a + k = omega arith in
    rw (run_more k b a 0 p h, z, ← e) (run-digits b a (k - 1) (a + 1) (b a - 48) (first h))

ended_is : (k : ℕ) (b : Bytes) (a e v : ℕ) (r : ℕ × ℕ) → Number k b a r.1 r.0 → ended b r ≡ Some (v, e) → Reads k b a e v
unfolding ended
ended_is k b a e v r n q = go (is_digit (b r.1)) refl q
  where
    go : (t : Bool) → is_digit (b r.1) ≡ t → cond t None (Some r) ≡ Some (v, e) → Reads k b a e v
    go true w q = let z : ◌≡◌ {A = ℕ} 0 1 = cc in absurd (omega arith)
    go false w q =
        let x : r.0 ≡ v = cc in
        let y : r.1 ≡ e = cc in
        rw (← x, ← y) (record { is = n; stops = w })

pub number_sound : (k : ℕ) (b : Bytes) (a e v : ℕ) → 0 < k → number k b a ≡ Some (v, e) → Reads k b a e v
unfolding number
number_sound k b a e v p q = go (is_digit (b a)) refl (eqb (b a) 48) refl q
  where
    go : (t : Bool) → is_digit (b a) ≡ t → (u : Bool) → eqb (b a) 48 ≡ u → cond t (ended b (run (cond u 1 k) b a 0)) None ≡ Some (v, e) → Reads k b a e v
    go true h true z q =
        let r = run-read b a 1 (omega arith) h in
        let i = r.short in
        let j = digits_past b a (run 1 b a 0).1 (run 1 b a 0).0 r.digits in
        ended_is k b a e v (run 1 b a 0) (record { digits = r.digits; short = omega arith; lead = λ _. omega arith }) q
    go true h false z q =
        let r = run-read b a k p h in
        ended_is k b a e v (run k b a 0) (record { digits = r.digits; short = r.short; lead = λ w. absurd (eqb-false (b a) 48 z w) }) q
    go false h u z q = let w : ◌≡◌ {A = ℕ} 0 1 = cc in absurd (omega arith)

-- a number that is read ends after its start and within its text
pub number-within : (k : ℕ) (s : List ℕ) (a e v : ℕ) → 0 < k → number k (byte_at s) a ≡ Some (v, e) → (a < e) × (e ≤ length s)
number-within k s a e v p q =
    let d = (number_sound k (byte_at s) a e v p q).is.digits in
    (digits_past (byte_at s) a e v d, digits-inside s a e v d)

-- Complete

digits-run : (b : Bytes) (a m e v : ℕ) → Digits b a e v → (j : ℕ) → e + j ≡ a + m → run m b a 0 ≡ run j b e v
digits-run b a m e v (first h) j q =
    let z : 0 * 10 + (b a - 48) ≡ b a - 48 = omega arith in
    let w : m - 1 ≡ j = omega arith in
    rw (← z, ← w) (run_more m b a 0 (omega arith) h)
digits-run b a m e v (next e' v' d h) j q =
    let w : (j + 1) - 1 ≡ j = omega arith in
    digits-run b a m e' v' d (j + 1) (omega arith) ∙ rw w at (run_more (j + 1) b e' v' (omega arith) h)

run_ends : (b : Bytes) (a m e v : ℕ) → Digits b a e v → e ≤ a + m → is_digit (b e) ≡ false → ended b (run m b a 0) ≡ Some (v, e)
run_ends b a m e v d l f =
    ap (ended b) (digits-run b a m e v d (a + m - e) (omega arith) ∙ run_end (a + m - e) b e v f) ∙ ended_yes b ((v, e)) f

pub number_complete : (k : ℕ) (b : Bytes) (a e v : ℕ) → Number k b a e v → is_digit (b e) ≡ false → number k b a ≡ Some (v, e)
number_complete k b a e v n f = go (eqb (b a) 48) refl
  where
    go : (t : Bool) → eqb (b a) 48 ≡ t → number k b a ≡ Some (v, e)
    go true q =
        let z = eqb-true (b a) 48 q in
        let r = n.lead z in
        number_zero k b a z ∙ run_ends b a 1 e v n.digits (omega arith) f
    go false q =
        number_more k b a (digits-first b a e v n.digits) (eqb-false (b a) 48 q) ∙ run_ends b a k e v n.digits n.short f
