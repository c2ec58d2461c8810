-- Laws of bytes that are put one after another, and of how many digits a number has.
use mathlib.Core.Bool.{Bool, true, false}
use mathlib.Core.List.{List, [], ◌∷◌, ◌++◌}
use mathlib.Core.Path.{◌≡◌, refl, sym, ap, ◌∙◌}
use Prim.Native.Nat.{ℕ, zero, suc, ◌+◌, ◌*◌, ◌/◌, ◌%◌, ◌^◌, ◌<◌, ◌≤◌}
use native.Mathlib.Nat.{add-zero, pow-succ'}
use native.Mathlib.Numerals.{add-one}
use native.Mathlib.Omega.{arith}
use borrow.Author.Tests.{ltb-true, ltb-false}
use lib.Dec.{ltb}
use lib.ListN.{length, get_or, set, take, length-append}
use lib.Seq.{sets, take-suc, length-sets, sets-eq, take_at}
use Rattle.text.specs.Decimal.{decimal}
use Rattle.text.specs.Writing.{Put, Fitted}
use Rattle.text.proofs.Decimal.{decimal-one, decimal-more}

-- Numbers

-- a number's digits are those of its tenth, and its last
pub decimal_tenth : (v : ℕ) → 10 ≤ v → decimal v ≡ decimal (v / 10) ++ ((48 + v % 10) ∷ [])
decimal_tenth v h =
    let e : (v / 10) * 10 + v % 10 ≡ v = omega arith in
    ap decimal (sym e) ∙ decimal-more (v / 10) (v % 10) (omega arith) (omega arith)

pub tenth_length : (v : ℕ) → 10 ≤ v → length (decimal v) ≡ length (decimal (v / 10)) + 1
tenth_length v h = ap length (decimal_tenth v h) ∙ length-append (decimal (v / 10)) ((48 + v % 10) ∷ [])

-- a number of at most k digits
pub decimal_length : (k v : ℕ) → 0 < k → v < 10 ^ k → length (decimal v) ≤ k
decimal_length zero v p h = absurd (omega arith)
decimal_length (suc k) v p h = go (ltb v 10) refl (λ z l. decimal_length k (v / 10) z l)
  where
    go : (t : Bool) → ltb v 10 ≡ t → (0 < k → v / 10 < 10 ^ k → length (decimal (v / 10)) ≤ k) → length (decimal v) ≤ suc k
    go true q f = rw (decimal-one v (ltb-true v 10 q)) (omega arith)
    go false q f =
        let i = ltb-false v 10 q in
        let u : 10 ^ suc k ≡ 10 * 10 ^ k = pow-succ' 10 k in
        let n = f (positive k h i) (omega arith) in
        let l = tenth_length v i in
        omega arith
      where
        positive : (k : ℕ) → v < 10 ^ suc k → 10 ≤ v → 0 < k
        positive zero l i = absurd (omega arith)
        positive (suc k) l i = omega arith

-- a 64-bit number
pub twenty_digits : (v : ℕ) → v < 18446744073709551616 → length (decimal v) ≤ 20
twenty_digits v h = decimal_length 20 v (omega arith) (omega arith)

-- Bytes put one after another

-- bytes stored after bytes are both stored as one
sets_append : (l : List ℕ) (i : ℕ) (xs ys : List ℕ) → sets l i (xs ++ ys) ≡ sets (sets l i xs) (i + length xs) ys
sets_append l i [] ys = rw (add-zero i)
sets_append l i (x ∷ xs) ys = sets_append (set l i x) (suc i) xs ys ∙ ap (λ k. sets (sets (set l i x) (suc i) xs) k ys) (omega arith)

-- bytes put where others end are both put as one
pub put_then : (at e r : ℕ) (xs ys l m n : List ℕ) → Put at xs l m e → Put e ys m n r → Put at (xs ++ ys) l n r
put_then at e r xs ys l m n p q =
    record {
      stands = q.stands ∙ ap (λ k. sets m k ys) p.next ∙ ap (λ z. sets z (at + length xs) ys) p.stands ∙ sym (sets_append l at xs ys);
      next = let a = p.next in let b = q.next in let c = length-append xs ys in omega arith;
    }

pub put-none : (at : ℕ) (l : List ℕ) → Put at [] l l at
put-none at l = record { stands = refl; next = omega arith }

-- the room keeps its length
pub put_length : (at r : ℕ) (xs l m : List ℕ) → Put at xs l m r → length m ≡ length l
put_length at r xs l m p = ap length p.stands ∙ length-sets l at xs

-- bytes that fit at the room's front stand there, whole
pub fitted_front : (r : ℕ) (xs l m : List ℕ) → Fitted 0 xs l m r → take r m ≡ xs
fitted_front r xs l m p =
    let n = p.put.next in
    let h = p.fits in
    rw (p.put.stands, sets-eq xs l 0 (omega arith)) (take_at xs _ r (omega arith))

-- i bytes of s are put, up to e
pub record Putting (at : ℕ) (s l m : List ℕ) (i e : ℕ) : Type 0 where
  pub done : Put at (take i s) l m e
  pub place : e ≡ at + i

module _ (at : ℕ) (s l m : List ℕ) (i e : ℕ) (g : Putting at s l m i e) where
  pub putting_on : (n : List ℕ) (r : ℕ) → i < length s → Put e (get_or s i 0 ∷ []) m n r → Putting at s l n (i + 1) r
  putting_on n r h p =
      let q = p.next in
      let z = g.place in
      record { done = rw (add-one i, take-suc s i 0 h) (put_then at e r (take i s) (get_or s i 0 ∷ []) l m n g.done p); place = omega arith }
