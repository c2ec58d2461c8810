-- The tokens of a text, each the next of the one before, and each at a later place; read again from a token's place on they are the same, but for their lines.
use mathlib.Core.Bool.{Bool, true, false, cond}
use mathlib.Core.List.{List, [], ◌∷◌}
use mathlib.Core.Path.{◌≡◌, refl, sym, ap, ◌∙◌}
use Prim.Native.Nat.{ℕ, zero, suc, ◌+◌, ◌-◌, ◌<◌}
use native.Mathlib.Omega.{arith}
use lib.ListN.{length}
use Rattle.text.specs.Bytes.{byte_at}
use Rattle.tokens.specs.declared.Spot.{Spot}
use Rattle.tokens.specs.declared.Token.{Token}
use Rattle.tokens.specs.Tokens.{spot, line_after, opens, closes, close_at, is_blank, gap_at, skip, kind_at, size_at, token_on, token_at, token_after, tokens_from, tokens, Leaves, Lies}
use Rattle.std.proofs.Common.{Option, Some, None, option_map, unwrap_or}
use Rattle.tokens.proofs.Ends.{gap_leaves, token_lies}
use Rattle.tokens.proofs.Laws.{skip_stop}
use Rattle.tokens.specs.declared.Kind.TheVariants.{End}
use Rattle.tokens.specs.Kinds.{same_kind}
use Rattle.tokens.proofs.Alike.{kind_true, kind_false}

module _ (s : List ℕ) where
  -- Places do not depend on lines.

  place_of : Option Spot → Option ℕ
  place_of o = option_map (λ (p : Spot). p.place) o

  close_place : (n a l k : ℕ) → place_of (close_at n (byte_at s) a l) ≡ place_of (close_at n (byte_at s) a k)
  unfolding close_at place_of
  close_place zero a l k = refl
  close_place (suc n) a l k = go (closes (byte_at s) a) (close_place n (a + 1) (line_after (byte_at s a) l) (line_after (byte_at s a) k))
    where
      go : (x : Bool) → place_of (close_at n (byte_at s) (a + 1) (line_after (byte_at s a) l)) ≡ place_of (close_at n (byte_at s) (a + 1) (line_after (byte_at s a) k))
          → place_of (cond x (Some (spot (a + 2) l)) (close_at n (byte_at s) (a + 1) (line_after (byte_at s a) l))) ≡ place_of (cond x (Some (spot (a + 2) k)) (close_at n (byte_at s) (a + 1) (line_after (byte_at s a) k)))
      go true e = refl
      go false e = e

  -- a gap ends at one place, whatever line it begins at
  gap_place : (a l k : ℕ) → place_of (gap_at s a l) ≡ place_of (gap_at s a k)
  unfolding gap_at place_of
  gap_place a l k = go (is_blank (byte_at s a)) (opens (byte_at s) a) (close_place (length s - (a + 2)) (a + 2) l k)
    where
      go : (x y : Bool) → place_of (close_at (length s - (a + 2)) (byte_at s) (a + 2) l) ≡ place_of (close_at (length s - (a + 2)) (byte_at s) (a + 2) k)
          → place_of (cond x (Some (spot (a + 1) (line_after (byte_at s a) l))) (cond y (close_at (length s - (a + 2)) (byte_at s) (a + 2) l) None))
          ≡ place_of (cond x (Some (spot (a + 1) (line_after (byte_at s a) k))) (cond y (close_at (length s - (a + 2)) (byte_at s) (a + 2) k) None))
      go true y e = refl
      go false true e = e
      go false false e = refl

  -- where no gap is, none is at another line
  no_gap : (a l k : ℕ) → gap_at s a l ≡ None → gap_at s a k ≡ None
  unfolding place_of
  no_gap a l k h = go (gap_at s a k) (ap place_of (sym h) ∙ gap_place a l k)
    where
      go : (o : Option Spot) → place_of None ≡ place_of o → o ≡ None
      go None e = refl
      go (Some p) e = cc

  -- all of them end at one place
  skip-place : (n a l k : ℕ) → (skip n s a l).place ≡ (skip n s a k).place
  unfolding skip place_of
  skip-place zero a l k = refl
  skip-place (suc n) a l k = go (gap_at s a l) (gap_at s a k) (gap_place a l k) (λ b i j. skip-place n b i j)
    where
      after : ℕ → Option Spot → Spot
      after i o = unwrap_or (option_map (λ (e : Spot). skip n s e.place e.line) o) (spot a i)

      go : (p q : Option Spot) → place_of p ≡ place_of q → ((b i j : ℕ) → (skip n s b i).place ≡ (skip n s b j).place) → (after l p).place ≡ (after k q).place
      go None None e f = refl
      go None (Some q) e f = cc
      go (Some p) None e f = cc
      go (Some p) (Some q) e f =
          let h : p.place ≡ q.place = cc in
          f p.place p.line q.line ∙ ap (λ (b : ℕ). (skip n s b q.line).place) h

  -- where skipping ends, no gap is left
  skip-rests : (n a l : ℕ) → length s - a < n → gap_at s (skip n s a l).place l ≡ None
  unfolding skip
  skip-rests zero a l h = absurd (omega arith)
  skip-rests (suc n) a l h = go (gap_at s a l) refl (gap_leaves s a l) (λ e. skip-rests n e.place e.line)
    where
      go : (o : Option Spot) → gap_at s a l ≡ o → Leaves s a o
          → ((e : Spot) → length s - e.place < n → gap_at s (skip n s e.place e.line).place e.line ≡ None)
          → gap_at s (unwrap_or (option_map (λ (e : Spot). skip n s e.place e.line) o) (spot a l)).place l ≡ None
      go None e v f = e
      go (Some p) e v f =
          let x = v.0 in
          let y = v.1 in
          no_gap (skip n s p.place p.line).place p.line l (f p (omega arith))

  -- Tokens that differ in their lines only

  pub record Shifted (t u : Token) : Type 0 where
    pub kind : t.kind ≡ u.kind
    pub place : t.place ≡ u.place
    pub size : t.size ≡ u.size

  on_shifted : (p q : Spot) → p.place ≡ q.place → Shifted (token_on s p) (token_on s q)
  unfolding token_on
  on_shifted p q e = record { kind = ap (kind_at s) e; place = e; size = ap (size_at s) e }

  -- the token after a place, whatever the line
  pub at_shifted : (a b l k : ℕ) → a ≡ b → Shifted (token_at s a l) (token_at s b k)
  unfolding token_at
  at_shifted a b l k e = on_shifted _ _ (skip-place (length s + 1) a l k ∙ ap (λ (c : ℕ). (skip (length s + 1) s c k).place) e)

  -- a token read again at its own place
  pub again_shifted : (a l k : ℕ) → Shifted (token_at s a l) (token_at s (token_at s a l).place k)
  unfolding token_at token_on
  again_shifted a l k =
      on_shifted _ _
      (sym (ap (λ (p : Spot). p.place)
      (skip_stop (length s + 1) s (skip (length s + 1) s a l).place k (no_gap _ l k (skip-rests (length s + 1) a l (omega arith))))))

  -- The tokens of a text

  -- us are the tokens after t; each stands at a later place
  pub data Chain : Token → List Token → Type 0 where
    last : {t : Token} → t.kind ≡ End → Chain t []
    link : {t : Token} {us : List Token} → (t.kind ≡ End → ⊥) → t.place < (token_after s t).place → t.place < length s → Chain (token_after s t) us → Chain t (token_after s t ∷ us)

  record Follows (n : ℕ) (t : Token) : Type 0 where
    rest : List Token
    is : tokens_from n s t ≡ t ∷ rest
    chain : Chain t rest

  -- the tokens from t on are t and those that follow
  follows : (n : ℕ) (t : Token) → length s - t.place < n → Lies s 0 t → Follows n t
  unfolding tokens_from
  follows zero t h y = absurd (omega arith)
  follows (suc n) t h y = go (same_kind t.kind End) refl (λ k. follows n (token_after s t) k)
    where
      go : (x : Bool) → same_kind t.kind End ≡ x → (length s - (token_after s t).place < n → Lies s 0 (token_after s t) → Follows n (token_after s t)) → Follows (suc n) t
      go true e f = record { rest = []; is = rw e; chain = last (kind_true _ _ e) }
      go false e f =
          let k = kind_false t.kind End e in
          let a = y.within k in
          let b = y.some k in
          let z = token_lies s (t.place + t.size) t.line in
          let c = z.from in
          let g = f (omega arith) (record { from = omega arith; within = z.within; some = z.some }) in
          record { rest = token_after s t ∷ g.rest; is = rw (e, g.is); chain = link {t = t} k (omega arith) (omega arith) g.chain }

  -- the tokens left of a text
  pub data Rest : List Token → Type 0 where
    none_left : Rest []
    some_left : {t : Token} {us : List Token} (a l : ℕ) → t ≡ token_at s a l → Chain t us → Rest (t ∷ us)

  -- at first all tokens are left
  pub text-rest : Rest (tokens s)
  unfolding tokens
  text-rest =
      let g = follows (length s + 1) (token_at s 0 1) (omega arith) (token_lies s 0 1) in
      rw g.is (some_left 0 1 refl g.chain)

  -- then those after one
  pub chain_rest : {t : Token} {us : List Token} → Chain t us → Rest us
  chain_rest (last k) = none_left
  chain_rest (link {t = t} k p q c) = some_left (t.place + t.size) t.line refl c
