-- A list read again from its FROM or TO on has the names that the text has there.
use mathlib.Core.Bool.{false, ◌||◌}
use mathlib.Core.List.{List, [], ◌∷◌}
use mathlib.Core.Path.{◌≡◌, refl, sym, ap, ◌∙◌}
use Prim.Native.Nat.{ℕ, zero, suc, ◌+◌, ◌-◌, ◌<◌}
use native.Mathlib.Omega.{arith}
use borrow.Author.Tests.{le-leb, lt-leb}
use Rattle.tokens.proofs.Alike.{kind_same, kind_differs}
use lib.ListN.{length}
use Rattle.tokens.specs.declared.Token.{Token}
use Rattle.tokens.specs.Tokens.{token_after, token_at, tokens_from}
use Rattle.tokens.proofs.Chain.{Shifted, at_shifted, again_shifted, Chain, last, link}
use Rattle.naming.specs.Names.{named, listed_in, is_listed}
use Rattle.tokens.specs.declared.Kind.TheVariants.{Name, End}
use Rattle.tokens.specs.Kinds.{same_kind}

module _ (s : List ℕ) (v : Token) where
  -- lines do not matter
  listed-head : (t u : Token) (us vs : List Token) → Shifted s t u → listed_in s v us ≡ listed_in s v vs → listed_in s v (t ∷ us) ≡ listed_in s v (u ∷ vs)
  unfolding listed_in
  listed-head t u us vs h e = rw (h.kind, h.place, h.size, e)

  -- a token that stands before v
  pub listed-on : (t : Token) (us : List Token) → t.place < v.place → listed_in s v (t ∷ us) ≡ (named s v t || listed_in s v us)
  unfolding listed_in
  listed-on t us h = rw (lt-leb v.place t.place h)

  -- v itself
  pub listed-itself : (us : List Token) → listed_in s v (v ∷ us) ≡ false
  unfolding listed_in
  listed-itself us = rw (le-leb v.place v.place (omega arith))

  tokens-last : (n : ℕ) (t : Token) → t.kind ≡ End → tokens_from (suc n) s t ≡ t ∷ []
  unfolding tokens_from
  tokens-last n t k = rw (kind_same t.kind End k)

  tokens-more : (n : ℕ) (t : Token) → (t.kind ≡ End → ⊥) → tokens_from (suc n) s t ≡ t ∷ tokens_from n s (token_after s t)
  unfolding tokens_from
  tokens-more n t k = rw (kind_differs t.kind End k)

  -- tokens that differ in their lines only, read on from one of them
  relisted : {t : Token} {us : List Token} → Chain s t us → (u : Token) → Shifted s t u → (n : ℕ) → length s - t.place < n → listed_in s v (t ∷ us) ≡ listed_in s v (tokens_from n s u)
  relisted (last k) u h zero p = absurd (omega arith)
  relisted (last {t = t} k) u h (suc n) p = listed-head t u [] [] h refl ∙ ap (listed_in s v) (sym (tokens-last n u (sym h.kind ∙ k)))
  relisted (link k a b c) u h zero p = absurd (omega arith)
  relisted (link {t = t} {us = us} k a b c) u h (suc n) p =
      let x = h.place in
      let y = h.size in
      let e : t.place + t.size ≡ u.place + u.size = omega arith in
      listed-head t u (token_after s t ∷ us) (tokens_from n s (token_after s u)) h (relisted c (token_after s u) (at_shifted s (t.place + t.size) (u.place + u.size) t.line u.line e) n (omega arith))
      ∙ ap (listed_in s v) (sym (tokens-more n u (λ z. k (h.kind ∙ z))))

  -- whether a name stands among the tokens from t on, which is no name, and before it
  pub listed-again : {t : Token} {us : List Token} (a l : ℕ) → t ≡ token_at s a l → Chain s t us → same_kind t.kind Name ≡ false → t.place < v.place → is_listed s t.place v ≡ listed_in s v us
  unfolding is_listed
  listed-again {t} {us} a l e c k h =
      sym (relisted c (token_at s t.place 0) (rw e (again_shifted s a l 0)) (length s + 1) (omega arith)) ∙ listed-on t us h ∙ rw k
