-- The code's table of names is the list of the names so far; a name's number never changes when names are joined.
use mathlib.Core.Bool.{Bool, true, false, cond, ◌&&◌, false≢true}
use mathlib.Core.List.{List, [], ◌∷◌, ◌++◌}
use mathlib.Core.Path.{◌≡◌, refl, sym, ap, ◌∙◌}
use Prim.Native.Nat.{ℕ, suc, ◌+◌, ◌<◌, ◌≤◌}
use native.Mathlib.Numerals.{add-one}
use native.Mathlib.Omega.{arith}
use borrow.Author.Tests.{eqb-false, leb-false}
use lib.Dec.{eqb}
use lib.ListN.{length, length-set, length-append, length-take}
use lib.Seq.{take-suc-set}
use Rattle.tokens.specs.declared.Token.{Token}
use Rattle.tokens.specs.Spelling.{same_word}
use Rattle.tokens.specs.Tokens.{token_bytes}
use Rattle.tokens.proofs.Order.{same-itself}
use Rattle.naming.specs.declared.Names.{Names}
use Rattle.naming.specs.Names.{number_in, joined_to, joined_all, list_of, table_number, is_new, is_full, added, with_name}

module _ (s : List ℕ) (t : Token) where
  -- a number is at most the length of the list
  pub number_most : (l : List Token) → number_in s t l ≤ length l
  unfolding number_in
  number_most [] = omega arith
  number_most (u ∷ l) = go (same_word (token_bytes s u) (token_bytes s t)) (number_most l)
    where
      go : (x : Bool) → number_in s t l ≤ length l → cond x 0 (number_in s t l + 1) ≤ suc (length l)
      go true h = omega arith
      go false h = omega arith

  -- a name that has a number keeps it in a longer list
  number_append : (l k : List Token) → number_in s t l < length l → number_in s t (l ++ k) ≡ number_in s t l
  unfolding number_in
  number_append [] k h = absurd (omega arith)
  number_append (u ∷ l) k h = go (same_word (token_bytes s u) (token_bytes s t)) h (λ z. number_append l k z)
    where
      go : (x : Bool) → cond x 0 (number_in s t l + 1) < suc (length l) → (number_in s t l < length l → number_in s t (l ++ k) ≡ number_in s t l)
          → cond x 0 (number_in s t (l ++ k) + 1) ≡ cond x 0 (number_in s t l + 1)
      go true h f = refl
      go false h f = ap (λ (n : ℕ). n + 1) (f (omega arith))

  -- a name that is put last has at most the last number
  number-last : (l : List Token) → number_in s t (l ++ t ∷ []) ≤ length l
  unfolding number_in
  number-last [] = rw (same-itself (token_bytes s t)) (omega arith)
  number-last (u ∷ l) = go (same_word (token_bytes s u) (token_bytes s t)) (number-last l)
    where
      go : (x : Bool) → number_in s t (l ++ t ∷ []) ≤ length l → cond x 0 (number_in s t (l ++ t ∷ []) + 1) ≤ suc (length l)
      go true h = omega arith
      go false h = omega arith

  -- a name that was joined has a number
  joined-has : (l : List Token) → number_in s t (joined_to s l t) < length (joined_to s l t)
  unfolding joined_to
  joined-has l = go (eqb (number_in s t l) (length l)) refl
    where
      go : (x : Bool) → eqb (number_in s t l) (length l) ≡ x → number_in s t (cond x (l ++ t ∷ []) l) < length (cond x (l ++ t ∷ []) l)
      go true e = let a = number-last l in let b = length-append l (t ∷ []) in omega arith
      go false e = let a = number_most l in let b = eqb-false (number_in s t l) (length l) e in omega arith

module _ (s : List ℕ) (t : Token) where
  -- a name that has a number keeps it when another is joined
  joined_keeps : (l : List Token) (u : Token) → number_in s t l < length l → (number_in s t (joined_to s l u) ≡ number_in s t l) × (length l ≤ length (joined_to s l u))
  unfolding joined_to
  joined_keeps l u h = go (eqb (number_in s u l) (length l))
    where
      go : (x : Bool) → (number_in s t (cond x (l ++ u ∷ []) l) ≡ number_in s t l) × (length l ≤ length (cond x (l ++ u ∷ []) l))
      go true = (number_append s t l (u ∷ []) h, (let b = length-append l (u ∷ []) in omega arith))
      go false = (refl, omega arith)

  -- and when many are
  pub numbered-keeps : (us l : List Token) → number_in s t l < length l → (number_in s t (joined_all s l us) ≡ number_in s t l) × (number_in s t l < length (joined_all s l us))
  unfolding joined_all
  numbered-keeps [] l h = (refl, h)
  numbered-keeps (u ∷ us) l h =
      let a = joined_keeps l u h in
      let x : number_in s t (joined_to s l u) ≡ number_in s t l = a.0 in
      let y : length l ≤ length (joined_to s l u) = a.1 in
      let b = numbered-keeps us (joined_to s l u) (omega arith) in
      let z = b.1 in
      (b.0 ∙ x, omega arith)

-- a table of at most m names that becomes the whole list when the rest is joined
pub record Table (s : List ℕ) (whole : List Token) (m : ℕ) (n : Names) (rest : List Token) : Type 0 where
  pub wide : length n.words ≡ 32
  pub few : n.count ≤ m
  pub leads : whole ≡ joined_all s (list_of n) rest

-- a name was joined: its number is the one that it has in the whole list
pub record Joins (s : List ℕ) (whole : List Token) (m : ℕ) (n : Names) (t : Token) (rest : List Token) : Type 0 where
  pub table : Table s whole m (with_name m s n t) rest
  pub number : table_number s (with_name m s n t) t ≡ number_in s t whole
  pub within : number_in s t whole < length whole
  pub below : number_in s t whole < m

module _ (s : List ℕ) (m : ℕ) (n : Names) (t : Token) (wide : length n.words ≡ 32) (few : n.count ≤ m) (room : m ≤ 32) (free : (is_new s n t && is_full m n) ≡ false) where
  -- the table with a name more is the list with a name more
  list-joined : (list_of (with_name m s n t) ≡ joined_to s (list_of n) t) × (length (with_name m s n t).words ≡ 32) × ((with_name m s n t).count ≤ m)
  unfolding with_name joined_to table_number
  list-joined = go (is_new s n t) (is_full m n) refl free
    where
      go : (x y : Bool) → is_full m n ≡ y → (x && y) ≡ false
          → (list_of (cond x (cond y n (added n t)) n) ≡ cond x (list_of n ++ t ∷ []) (list_of n)) × (length (cond x (cond y n (added n t)) n).words ≡ 32) × ((cond x (cond y n (added n t)) n).count ≤ m)
      go true true q f = absurd (false≢true (sym f))
      go true false q f =
          let z = leb-false m n.count q in
          (rw (add-one n.count) (take-suc-set n.words n.count t (omega arith)), length-set n.words n.count t ∙ wide, omega arith)
      go false y q f = (refl, wide, few)

-- a name that finds room is joined
pub joins : (s : List ℕ) (whole : List Token) (m : ℕ) (n : Names) (t : Token) (rest : List Token) → m ≤ 32 → Table s whole m n (t ∷ rest)
    → (is_new s n t && is_full m n) ≡ false → Joins s whole m n t rest
unfolding joined_all table_number
joins s whole m n t rest h g f =
    let j = list-joined s m n t g.wide g.few h f in
    let l : whole ≡ joined_all s (list_of (with_name m s n t)) rest = g.leads ∙ ap (λ (x : List Token). joined_all s x rest) (sym j.0) in
    let a : number_in s t (list_of (with_name m s n t)) < length (list_of (with_name m s n t)) = rw j.0 (joined-has s t (list_of n)) in
    let b = numbered-keeps s t rest (list_of (with_name m s n t)) a in
    let e : number_in s t whole ≡ number_in s t (list_of (with_name m s n t)) = ap (number_in s t) l ∙ b.0 in
    let c = length-take (with_name m s n t).count (with_name m s n t).words in
    let d : (with_name m s n t).count ≤ m = j.2 in
    let k : number_in s t (list_of (with_name m s n t)) < length (joined_all s (list_of (with_name m s n t)) rest) = b.1 in
    record {
      table = record { wide = j.1; few = d; leads = l };
      number = sym e;
      within = rw (e, l) k;
      below = omega arith;
    }

-- a table to which no name is left to join
module _ (s : List ℕ) (whole : List Token) (m : ℕ) (n : Names) (g : Table s whole m n []) where
  -- is the whole list
  pub table-whole : list_of n ≡ whole
  unfolding joined_all
  table-whole = sym g.leads

  -- and the whole list is no longer than the table may be
  pub table_few : length whole ≤ m
  table_few = let a = length-take n.count n.words in let b : length (list_of n) ≡ length whole = ap length table-whole in let c = g.few in omega arith
