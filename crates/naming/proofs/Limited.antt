-- Tables of names hold the first names of a list; names that are equal in any case are declared and driven alike.
use mathlib.Core.Bool.{Bool, true, false, cond, ◌&&◌}
use mathlib.Core.List.{List, [], ◌∷◌, ◌++◌}
use mathlib.Core.Path.{◌≡◌, refl, sym, ap, ◌∙◌}
use Prim.Native.Nat.{ℕ, zero, suc, ◌+◌, ◌<◌, ◌≤◌, min}
use native.Mathlib.Decide.{dec_le}
use native.Mathlib.Numerals.{add-one}
use native.Mathlib.Omega.{arith}
use borrow.Author.Tests.{ne_eqb, le-leb, lt-leb, eqb-true, eqb-false, leb-true, leb-false}
use lib.Dec.{eqb, leb}
use lib.ListN.{length, take, length-take, length-append, length-set}
use lib.Seq.{take_all, take-append-le, take-suc-set}
use Rattle.tokens.specs.declared.Token.{Token}
use Rattle.tokens.specs.Spelling.{same_word}
use Rattle.tokens.specs.Tokens.{token_bytes, token_after, tokens}
use Rattle.tokens.proofs.Order.{same-itself, same_alike}
use Rattle.naming.specs.declared.Names.{Names}
use Rattle.naming.specs.Names.{declared_among, declared_at, is_undeclared, driven_in, is_driven, number_in, joined_to, list_of, table_number, is_new, is_full, added, with_name}
use Rattle.naming.proofs.Tables.{number_most}

module _ (s : List ℕ) where
  -- the same name, in any case
  abbrev pub Alike : Token → Token → Type 0
  Alike t u = same_word (token_bytes s t) (token_bytes s u) ≡ true

  -- Equal names are declared and driven alike.

  module _ (t u : Token) (e : Alike t u) where
    declared_in_alike : (us : List Token) → declared_among s t us ≡ declared_among s u us
    unfolding declared_among
    declared_in_alike [] = refl
    declared_in_alike (v ∷ us) = rw (same_alike (token_bytes s t) (token_bytes s u) (token_bytes s (token_after s v)) e, declared_in_alike us)

    driven_in_alike : (us : List Token) → driven_in s t us ≡ driven_in s u us
    unfolding driven_in
    driven_in_alike [] = refl
    driven_in_alike (v ∷ us) = rw (same_alike (token_bytes s t) (token_bytes s u) (token_bytes s v) e, driven_in_alike us)

    pub undeclared-alike : is_undeclared s t ≡ is_undeclared s u
    unfolding declared_at
    undeclared-alike = rw (declared_in_alike (tokens s))

    pub driven-alike : is_driven s t ≡ is_driven s u
    unfolding is_driven
    driven-alike = driven_in_alike (tokens s)

  -- Numbers

  module _ (t : Token) where
    -- in the first m names a name has its number, or none, which is m
    number_take : (m : ℕ) (l : List Token) → number_in s t (take m l) ≡ min m (number_in s t l)
    unfolding number_in
    number_take zero l = omega arith
    number_take (suc m) [] = omega arith
    number_take (suc m) (u ∷ l) = go (same_word (token_bytes s u) (token_bytes s t)) (number_take m l)
      where
        go : (x : Bool) → number_in s t (take m l) ≡ min m (number_in s t l) → cond x 0 (number_in s t (take m l) + 1) ≡ min (suc m) (cond x 0 (number_in s t l + 1))
        go true h = omega arith
        go false h = omega arith

    -- a name that joins a list gets the number that it was looked for with
    number-itself : (l : List Token) → number_in s t (l ++ t ∷ []) ≡ number_in s t l
    unfolding number_in
    number-itself [] = rw (same-itself (token_bytes s t))
    number-itself (u ∷ l) = rw (number-itself l)

    number-joined : (l : List Token) → number_in s t (joined_to s l t) ≡ number_in s t l
    unfolding joined_to
    number-joined l = go (eqb (number_in s t l) (length l))
      where
        go : (x : Bool) → number_in s t (cond x (l ++ t ∷ []) l) ≡ number_in s t l
        go true = number-itself l
        go false = refl

  -- a name among a list and one name more is among the list, or is that name
  data Found (t u : Token) (l : List Token) : Type 0 where
    among : number_in s u l < length l → Found t u l
    itself : Alike t u → Found t u l

  found : (t u : Token) (l : List Token) → number_in s u (l ++ t ∷ []) < length l + 1 → Found t u l
  unfolding number_in
  found t u [] h = go (same_word (token_bytes s t) (token_bytes s u)) refl h
    where
      go : (x : Bool) → same_word (token_bytes s t) (token_bytes s u) ≡ x → cond x 0 (0 + 1) < 0 + 1 → Found t u []
      go true e k = itself e
      go false e k = absurd (omega arith)
  found t u (v ∷ l) h = go (same_word (token_bytes s v) (token_bytes s u)) refl h (λ k. found t u l k)
    where
      later : same_word (token_bytes s v) (token_bytes s u) ≡ false → Found t u l → Found t u (v ∷ l)
      later e (among p) = among (rw e (omega arith))
      later e (itself p) = itself p

      go : (x : Bool) → same_word (token_bytes s v) (token_bytes s u) ≡ x → cond x 0 (number_in s u (l ++ t ∷ []) + 1) < suc (length l) + 1
          → (number_in s u (l ++ t ∷ []) < length l + 1 → Found t u l) → Found t u (v ∷ l)
      go true e k f = among (rw e (omega arith))
      go false e k f = later e (f (omega arith))

  -- Tables

  -- a table that holds the first m names of a list
  pub record Front (m : ℕ) (l : List Token) (n : Names) : Type 0 where
    pub words : length n.words ≡ 32
    pub is : list_of n ≡ take m l
    pub count : n.count ≡ min m (length l)

  -- a name that is not new is among the table's
  new_false : (n : Names) (t : Token) → is_new s n t ≡ false → number_in s t (list_of n) < length (list_of n)
  unfolding table_number
  new_false n t h =
      let p = eqb-false (number_in s t (list_of n)) (length (list_of n)) h in
      let w = number_most s t (list_of n) in
      elim (dec_le (length (list_of n)) (number_in s t (list_of n))) [ yes z ↦ absurd (p (omega arith)) | no z ↦ omega arith ]

  module _ (m : ℕ) (l : List Token) (n : Names) (g : Front m l n) (t : Token) where
    table-number : table_number s n t ≡ min m (number_in s t l)
    unfolding table_number
    table-number = rw g.is (number_take t m l)

    table_length : length (list_of n) ≡ min m (length l)
    table_length = ap length g.is ∙ length-take m l

    -- a name finds no room exactly if its number is m or more
    pub table-over : (is_new s n t && is_full m n) ≡ leb m (number_in s t l)
    table-over = go (is_new s n t) refl (leb m n.count) refl table_length g.count (number_most s t l) table-number
      where
        go : (x : Bool) → is_new s n t ≡ x → (y : Bool) → leb m n.count ≡ y
            → length (list_of n) ≡ min m (length l) → n.count ≡ min m (length l) → number_in s t l ≤ length l → table_number s n t ≡ min m (number_in s t l)
            → (x && y) ≡ leb m (number_in s t l)
        go true e true f r c w q =
            let p = eqb-true (table_number s n t) (length (list_of n)) e in
            let z = leb-true m n.count f in
            sym (le-leb m (number_in s t l) (omega arith))
        go true e false f r c w q = let z = leb-false m n.count f in sym (lt-leb m (number_in s t l) (omega arith))
        go false e y f r c w q =
            let p = eqb-false (table_number s n t) (length (list_of n)) e in
            sym (lt-leb m (number_in s t l) (elim (dec_le m (number_in s t l)) [ yes z ↦ absurd (p (omega arith)) | no z ↦ omega arith ]))

    -- a name that is added is the last
    added_is : n.count < 32 → list_of (added n t) ≡ list_of n ++ t ∷ []
    added_is h = rw (add-one n.count) (take-suc-set n.words n.count t (let w = g.words in omega arith))

    -- one name more, in the list and in the table
    pub table-joined : m ≤ 32 → Front m (joined_to s l t) (with_name m s n t)
    unfolding with_name joined_to
    table-joined b = go (is_new s n t) refl (leb m n.count) refl (eqb (number_in s t l) (length l)) refl table_length g.count (number_most s t l) table-number
      where
        longer : m ≤ length l → Front m (l ++ t ∷ []) n
        longer h =
            let a = length-append l (t ∷ []) in
            let c = g.count in
            record { words = g.words; is = g.is ∙ sym (take-append-le m l (t ∷ []) h); count = omega arith }

        go : (x : Bool) → is_new s n t ≡ x → (y : Bool) → leb m n.count ≡ y → (z : Bool) → eqb (number_in s t l) (length l) ≡ z
            → length (list_of n) ≡ min m (length l) → n.count ≡ min m (length l) → number_in s t l ≤ length l → table_number s n t ≡ min m (number_in s t l)
            → Front m (cond z (l ++ t ∷ []) l) (cond x (cond y n (added n t)) n)
        go true e true f true i r c w q = let k = leb-true m n.count f in longer (omega arith)
        go true e true f false i r c w q = g
        go true e false f true i r c w q =
            let k = leb-false m n.count f in
            let a = length-append l (t ∷ []) in
            let h : length l ≤ m = omega arith in
            let j : length (l ++ t ∷ []) ≤ m = omega arith in
            record {
              words = length-set n.words n.count t ∙ g.words;
              is = added_is (omega arith) ∙ ap (λ (x : List Token). x ++ t ∷ []) (g.is ∙ take_all m l h) ∙ sym (take_all m (l ++ t ∷ []) j);
              count = omega arith;
            }
        go true e false f false i r c w q =
            let k = leb-false m n.count f in
            let p = eqb-true (table_number s n t) (length (list_of n)) e in
            absurd (eqb-false (number_in s t l) (length l) i (omega arith))
        go false e y f true i r c w q =
            let p = eqb-false (table_number s n t) (length (list_of n)) e in
            let k = eqb-true (number_in s t l) (length l) i in
            absurd (p (omega arith))
        go false e y f false i r c w q = g

  -- the number that the code gives a name
  pub joined_number : (m : ℕ) (l : List Token) (n : Names) (t : Token) → Front m l n → m ≤ 32 → table_number s (with_name m s n t) t ≡ min m (number_in s t l)
  joined_number m l n t g b = table-number m (joined_to s l t) (with_name m s n t) (table-joined m l n g t b) t ∙ ap (min m) (number-joined t l)

  -- a name of a table and one name more: the table had it, or it is that name, which was new
  pub data Had (n : Names) (t u : Token) : Type 0 where
    before : is_new s n u ≡ false → Had n t u
    now : is_new s n t ≡ true → Alike t u → Had n t u

  pub joined_had : (m : ℕ) (l : List Token) (n : Names) (t u : Token) → Front m l n → m ≤ 32 → is_new s (with_name m s n t) u ≡ false → Had n t u
  unfolding with_name table_number
  joined_had m l n t u g b h = go (is_new s n t) refl (leb m n.count) refl h
    where
      pick : is_new s n t ≡ true → Found t u (list_of n) → Had n t u
      pick e (among p) = before (ne_eqb (number_in s u (list_of n)) (length (list_of n)) (λ z. omega arith))
      pick e (itself p) = now e p

      go : (x : Bool) → is_new s n t ≡ x → (y : Bool) → leb m n.count ≡ y → is_new s (cond x (cond y n (added n t)) n) u ≡ false → Had n t u
      go true e true f k = before k
      go true e false f k =
          let z = leb-false m n.count f in
          let c = g.count in
          let a = added_is m l n g t (omega arith) in
          let i : length (list_of (added n t)) ≡ length (list_of n) + 1 = ap length a ∙ length-append (list_of n) (t ∷ []) in
          let j = new_false (added n t) u k in
          let w : number_in s u (list_of (added n t)) < length (list_of n) + 1 = omega arith in
          pick e (found t u (list_of n) (rw a at w))
      go false e y f k = before k
