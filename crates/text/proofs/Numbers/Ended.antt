-- Numbers by their first digit, and by what follows them; which fit a word; and one that is being read.
use mathlib.Core.Bool.{Bool, true, false, cond}
use mathlib.Core.Path.{◌≡◌, refl}
use Prim.Native.Nat.{ℕ, ◌+◌, ◌-◌, ◌*◌, ◌^◌, ◌<◌, ◌≤◌}
use native.Mathlib.Omega.{arith}
use borrow.Author.Tests.{eqb-true, eqb-false, le-leb, lt-leb, ne_eqb}
use lib.Dec.{eqb}
use Rattle.text.specs.Bytes.{Bytes, is_digit}
use Rattle.text.specs.Runs.{run, ended, number, at_most}
use Rattle.text.proofs.Numbers.Runs.{Going, going_first, going_below, going_stop, going_full, going_on}
use Rattle.text.proofs.Bytes.{digit-is}
use Rattle.text.specs.Runs.{Found}
use Rattle.std.specs.Prelude.{Some, None, Result, Ok, Err}
use Rattle.std.specs.Result.{OkIff, result_ok}
use Rattle.text.specs.Words.{largest_word}

-- Numbers

pub number-none : (k : ℕ) (b : Bytes) (a : ℕ) → is_digit (b a) ≡ false → number k b a ≡ None
unfolding number
number-none k b a h = rw h

pub number_zero : (k : ℕ) (b : Bytes) (a : ℕ) → b a ≡ 48 → number k b a ≡ ended b (run 1 b a 0)
unfolding number
number_zero k b a h = rw h

pub number_more : (k : ℕ) (b : Bytes) (a : ℕ) → is_digit (b a) ≡ true → (b a ≡ 48 → ⊥) → number k b a ≡ ended b (run k b a 0)
unfolding number
number_more k b a h f = rw (h, ne_eqb _ _ f)

pub ended_no : (b : Bytes) (r : ℕ × ℕ) → is_digit (b r.1) ≡ true → ended b r ≡ None
unfolding ended
ended_no b r h = rw h

pub ended_yes : (b : Bytes) (r : ℕ × ℕ) → is_digit (b r.1) ≡ false → ended b r ≡ Some r
unfolding ended
ended_yes b r h = rw h

pub no_word : (n : Found) → n ≡ None → at_most largest_word n ≡ None
unfolding at_most
no_word n p = rw p

-- what a cast to a word, of the type's own, gives of a value that was read
pub word_cast : {E : Type 0} (n : Found) (v e w : ℕ) (r : Result ℕ E) → n ≡ Some (v, e) → OkIff r (v < 2 ^ 32) v → result_ok r ≡ Some w → at_most largest_word n ≡ Some (w, e)
unfolding at_most
word_cast n v e w (Ok x) p q h = let i : x ≡ w = cc in let j = q.1 in let l = q.0 in rw (p, le-leb v largest_word (omega arith), ← i, j)
word_cast n v e w (Err x) p q h = absurd (cc)

pub no_cast : {E : Type 0} (n : Found) (v e : ℕ) (r : Result ℕ E) → n ≡ Some (v, e) → OkIff r (v < 2 ^ 32) v → result_ok r ≡ None → at_most largest_word n ≡ None
unfolding at_most
no_cast n v e (Ok x) p q h = absurd (cc)
no_cast n v e (Err x) p q h = rw (p, lt-leb v largest_word (omega arith))

-- A number that is being read

-- as many digits as its first lets it have
abbrev pub most_from : ℕ → ℕ → ℕ
most_from d k = cond (eqb d 48) 1 k

most_some : (d k : ℕ) → 0 < k → 0 < most_from d k
most_some d k p = go (eqb d 48)
  where
    go : (t : Bool) → 0 < cond t 1 k
    go true = omega arith
    go false = p

most_few : (d k m : ℕ) → 0 < k → k ≤ m → most_from d k ≤ m
most_few d k m p l = go (eqb d 48)
  where
    go : (t : Bool) → cond t 1 k ≤ m
    go true = omega arith
    go false = l

-- a number of at most k digits under way: v has been read up to e, and at most left digits may follow
pub record Under-way (k : ℕ) (b : Bytes) (a e left v : ℕ) : Type 0 where
  pub first : is_digit (b a) ≡ true
  pub going : Going 10 b a (most_from (b a) k) e left v

-- past its first digit
pub under_way_first : (k : ℕ) (b : Bytes) (a : ℕ) → 0 < k → k ≤ 10 → is_digit (b a) ≡ true → Under-way k b a (a + 1) (cond (eqb (b a - 48) 0) 0 (k - 1)) (b a - 48)
under_way_first k b a p l h =
    let i = digit-is (b a) h in
    let g = going_first 10 b a (most_from (b a) k) (most_some (b a) k p) (most_few (b a) k 10 p l) h in
    let m : most_from (b a) k - 1 ≡ cond (eqb (b a - 48) 0) 0 (k - 1) = go (eqb (b a) 48) refl (eqb (b a - 48) 0) refl in
    record { first = h; going = rw m at g }
  where
    go : (t : Bool) → eqb (b a) 48 ≡ t → (u : Bool) → eqb (b a - 48) 0 ≡ u → cond t 1 k - 1 ≡ cond u 0 (k - 1)
    go true q true r = refl
    go false q false r = refl
    go true q false r = let z = eqb-true _ _ q in absurd (eqb-false _ _ r (omega arith))
    go false q true r = let z = eqb-true _ _ r in let i = digit-is (b a) h in absurd (eqb-false _ _ q (omega arith))

module _ (k : ℕ) (b : Bytes) (a e left v : ℕ) (g : Under-way k b a e left v) where
  -- no digit follows: it ends here
  pub number-ends : is_digit (b e) ≡ false → number k b a ≡ Some (v, e)
  unfolding number
  number-ends h = rw (g.first, ← (going_stop 10 b a (most_from (b a) k) e left v g.going h)) (ended_yes b (v, e) h)

  -- a digit follows that it cannot have: there is none
  pub number-long : left ≡ 0 → is_digit (b e) ≡ true → number k b a ≡ None
  unfolding number
  number-long z h = rw (g.first, ← (going_full 10 b a (most_from (b a) k) e left v g.going z)) (ended_no b (v, e) h)

  -- a digit follows that it can have
  pub number-on : 0 < left → is_digit (b e) ≡ true → Under-way k b a (e + 1) (left - 1) (v * 10 + (b e - 48))
  number-on p h = record { first = g.first; going = going_on 10 b a (most_from (b a) k) e left v g.going p h }

  pub number-below : v < 10 ^ 10
  number-below = going_below 10 b a (most_from (b a) k) e left v g.going
