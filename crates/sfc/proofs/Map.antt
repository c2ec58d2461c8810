-- The map of names to numbers: every name has one number and every number one name, listed as the token at which the name appears first.
use mathlib.Core.Bool.{Bool, true, false, cond, false≢true}
use mathlib.Core.List.{List, [], ◌∷◌, ◌++◌, append-nil, append_assoc}
use mathlib.Core.Path.{◌≡◌, refl, sym, ap, ◌∙◌}
use Prim.Native.Nat.{ℕ, ◌≤◌, ◌<◌}
use native.Mathlib.Omega.{arith}
use borrow.Author.Tests.{eqb-true, ltb-true, ltb-false}
use lib.Dec.{eqb, ltb}
use lib.ListN.{length, get_or, length-append, get_or-append}
use lib.Seq.{get_or_at}
use Rattle.chart.specs.WellFormed.{Every, every_nil, every_cons}
use Rattle.tokens.specs.declared.Token.{Token}
use Rattle.tokens.specs.Spelling.{same_word}
use Rattle.tokens.specs.Tokens.{token_bytes}
use Rattle.tokens.proofs.Order.{same-itself}
use Rattle.naming.specs.Names.{number_in, joined_to, joined_all, names_of}
use Rattle.grammar.specs.Program.{Program}
use Rattle.sfc.specs.Chart.{step_tokens, input_tokens, output_tokens, map_of, chart_by}
use Rattle.sfc.specs.Promised.{HasNumber, Differ, FirstAppearance, FrontOf, NameRules, MapRules}
use Rattle.sfc.proofs.Lists.{every_map, every_both}
use Rattle.sfc.proofs.Numbering.{same-on, number-holds, number-least, number-up-to, number-joined, kept-joined, kept-numbered}

-- Every name has a number

-- each number is below the count
below_count : (s : List ℕ) (ts l : List Token) → Every (λ t. number_in s t (joined_all s l ts) < length (joined_all s l ts)) ts
unfolding joined_all
below_count s [] l = every_nil
below_count s (t ∷ ts) l = every_cons (kept-numbered s t ts (joined_to s l t) (number-joined s t l)) (below_count s ts (joined_to s l t))

-- every name of some tokens has a number
pub every_name : (s : List ℕ) (ts : List Token) → Every (HasNumber s (names_of s ts)) ts
every_name s ts = every_map (λ t h. record { below = h; is = λ d. number-holds s t (names_of s ts) d h }) (below_count s ts [])

-- Two numbers are those of two names

-- names still differ when one is joined
differ_joined : (s : List ℕ) (l : List Token) (t : Token) → Differ s l → Differ s (joined_to s l t)
unfolding joined_to
differ_joined s l t f = go (eqb (number_in s t l) (length l)) refl
  where
    last : number_in s t l ≡ length l → (i j : ℕ) (d : Token) → i < j → j < length (l ++ t ∷ []) → (x : Bool) → ltb j (length l) ≡ x
        → same_word (token_bytes s (get_or (l ++ t ∷ []) i d)) (token_bytes s (get_or (l ++ t ∷ []) j d)) ≡ false
    last e i j d h k true q =
        let m = ltb-true j (length l) q in
        rw (get_or-append l (t ∷ []) d i (omega arith), get_or-append l (t ∷ []) d j m) (f i j d h m)
    last e i j d h k false q =
        let m = ltb-false j (length l) q in
        let n = length-append l (t ∷ []) in
        rw (get_or-append l (t ∷ []) d i (omega arith), get_or_at l t [] d j (omega arith)) (number-least s t l d i (omega arith))

    go : (x : Bool) → eqb (number_in s t l) (length l) ≡ x → Differ s (cond x (l ++ t ∷ []) l)
    go true q = λ i j d h k. last (eqb-true (number_in s t l) (length l) q) i j d h k (ltb j (length l)) refl
    go false q = f

-- and when some are joined
differ_numbered : (s : List ℕ) (ts l : List Token) → Differ s l → Differ s (joined_all s l ts)
unfolding joined_all
differ_numbered s [] l f = f
differ_numbered s (t ∷ ts) l f = differ_numbered s ts (joined_to s l t) (differ_joined s l t f)

-- the names at two places are not the same
pub names_differ : (s : List ℕ) (ts : List Token) → Differ s (names_of s ts)
names_differ s ts = differ_numbered s ts [] (λ i j d h k. absurd (omega arith))

-- so the number of the name at a place is that place
place-number : (s : List ℕ) (l : List Token) → Differ s l → (i : ℕ) (d : Token) → i < length l → number_in s (get_or l i d) l ≡ i
place-number s l f i d h =
    let t = get_or l i d in
    let u = number-up-to s t l d i (same-itself (token_bytes s t)) in
    go (ltb (number_in s t l) i) refl u
  where
    go : (x : Bool) → ltb (number_in s (get_or l i d) l) i ≡ x → number_in s (get_or l i d) l ≤ i → number_in s (get_or l i d) l ≡ i
    go true q u =
        let m = ltb-true (number_in s (get_or l i d) l) i q in
        absurd (false≢true (sym (f (number_in s (get_or l i d) l) i d m h) ∙ number-holds s (get_or l i d) l d (omega arith)))
    go false q u = let m = ltb-false (number_in s (get_or l i d) l) i q in omega arith

-- A name is listed as the token at which it appears first

-- a name that has no number is none of those that have one
other_name : (s : List ℕ) (l : List Token) (t u : Token) → number_in s t l ≡ length l → number_in s u l < length l → same_word (token_bytes s u) (token_bytes s t) ≡ false
other_name s l t u e h = go (same_word (token_bytes s u) (token_bytes s t)) refl
  where
    go : (x : Bool) → same_word (token_bytes s u) (token_bytes s t) ≡ x → x ≡ false
    go true q =
        let n = number-up-to s t l t (number_in s u l) (same-on (token_bytes s (get_or l (number_in s u l) t)) (token_bytes s u) (token_bytes s t) (number-holds s u l t h) q) in
        absurd (omega arith)
    go false q = refl

-- a name that is joined appears first where it is joined
first-joined : (s : List ℕ) (all done l : List Token) (t : Token) (ts : List Token) → all ≡ done ++ t ∷ ts
    → Every (λ u. number_in s u l < length l) done → Every (FirstAppearance s all) l → Every (FirstAppearance s all) (joined_to s l t)
unfolding joined_to
first-joined s all done l t ts e k f = go (eqb (number_in s t l) (length l)) refl
  where
    go : (x : Bool) → eqb (number_in s t l) (length l) ≡ x → Every (FirstAppearance s all) (cond x (l ++ t ∷ []) l)
    go true q =
        let n = eqb-true (number_in s t l) (length l) q in
        every_both f (every_cons (record { before = done; later = ts; is = e; new = every_map (λ u h. other_name s l t u n h) k }) every_nil)
    go false q = f

-- and so do all that are joined
first-numbered : (s : List ℕ) (all ts done l : List Token) → all ≡ done ++ ts
    → Every (λ u. number_in s u l < length l) done → Every (FirstAppearance s all) l → Every (FirstAppearance s all) (joined_all s l ts)
unfolding joined_all
first-numbered s all [] done l e k f = f
first-numbered s all (t ∷ ts) done l e k f =
    first-numbered s all ts (done ++ t ∷ []) (joined_to s l t) (e ∙ sym (append_assoc done (t ∷ []) ts))
    (every_both (every_map (λ u h. kept-joined s u l t h) k) (every_cons (number-joined s t l) every_nil))
    (first-joined s all done l t ts e k f)

-- every name is listed as one of the tokens, that at which it appears first
pub first_appearance : (s : List ℕ) (ts : List Token) → Every (FirstAppearance s ts) (names_of s ts)
first_appearance s ts = first-numbered s ts ts [] [] refl every_nil every_nil

-- Numbers go by order of appearance

-- a name is joined after the others
begins-joined : (s : List ℕ) (l : List Token) (t : Token) → FrontOf l (joined_to s l t)
unfolding joined_to
begins-joined s l t = go (eqb (number_in s t l) (length l))
  where
    go : (x : Bool) → FrontOf l (cond x (l ++ t ∷ []) l)
    go true = record { more = t ∷ []; is = refl }
    go false = record { more = []; is = sym (append-nil l) }

-- and so are some
begins-numbered : (s : List ℕ) (ts l : List Token) → FrontOf l (joined_all s l ts)
unfolding joined_all
begins-numbered s [] l = record { more = []; is = sym (append-nil l) }
begins-numbered s (t ∷ ts) l =
    let a = begins-joined s l t in
    let b = begins-numbered s ts (joined_to s l t) in
    record { more = a.more ++ b.more; is = b.is ∙ ap (λ (x : List Token). x ++ b.more) a.is ∙ append_assoc l a.more b.more }

-- some names and then others
numbered-both : (s : List ℕ) (xs ys l : List Token) → joined_all s l (xs ++ ys) ≡ joined_all s (joined_all s l xs) ys
unfolding joined_all
numbered-both s [] ys l = refl
numbered-both s (x ∷ xs) ys l = numbered-both s xs ys (joined_to s l x)

-- the names of the first tokens are listed first, whatever follows
pub in_order : (s : List ℕ) (xs ys : List Token) → FrontOf (names_of s xs) (names_of s (xs ++ ys))
in_order s xs ys = rw (numbered-both s xs ys []) (begins-numbered s ys (names_of s xs))

-- The printed map

-- what names_of lists are such names
names_are : (s : List ℕ) (ts : List Token) → NameRules s ts (names_of s ts) (length (names_of s ts))
names_are s ts =
    record {
      all = refl;
      every_name = every_name s ts;
      names_differ = names_differ s ts;
      place-number = place-number s (names_of s ts) (names_differ s ts);
      first_appearance = first_appearance s ts;
    }

-- every step, input and output of the chart has one name of the program, and every name of the program one number
pub map-rules : (s : List ℕ) (p : Program) → MapRules s p
unfolding map_of chart_by
map-rules s p = record { steps = names_are s (step_tokens p); inputs = names_are s (input_tokens p); outputs = names_are s (output_tokens p) }
