-- The looks that the code takes at the text tell what the history tells: which names are declared already, and which are in the list already.
use mathlib.Core.Bool.{Bool, true, false, cond, not, ◌||◌, false≢true}
use mathlib.Core.List.{List, [], ◌∷◌}
use mathlib.Core.Path.{◌≡◌, refl, sym, ap, ◌∙◌}
use Prim.Native.Nat.{ℕ, ◌<◌, ◌≤◌}
use native.Mathlib.Omega.{arith}
use borrow.Author.Tests.{eq-eqb, ne_eqb}
use lib.Dec.{eqb}
use Rattle.tokens.specs.declared.Token.{Token}
use Rattle.tokens.specs.Kinds.{same_kind}
use Rattle.tokens.specs.declared.Kind.TheVariants.{Name}
use Rattle.tokens.specs.Spelling.{same_word}
use Rattle.tokens.specs.Tokens.{token_bytes, tokens}
use Rattle.tokens.proofs.Order.{same-itself}
use Rattle.tokens.proofs.Chain.{Chain, last, link, Rest, some_left, text-rest, chain_rest}
use Rattle.naming.specs.Names.{step_word, named, declared_among, declared_at, is_first, is_listed, listed_in, is_qualifier}
use Rattle.naming.proofs.Lists.{listed-on, listed-itself, listed-again}
use Rattle.grammar.specs.declared.Due.{Due}
use Rattle.grammar.specs.declared.Phase.{Phase}
use Rattle.grammar.specs.Rows.{follow}
use Rattle.grammar.specs.declared.Phase.TheVariants.{Outside, Stopped}
use Rattle.std.specs.Prelude.{Option, Some, None}
use Rattle.tokens.proofs.Alike.{kind_true}
use Rattle.naming.specs.Names.{is_at}
use Rattle.outline.specs.Faults.{place_of, declaring, beginning, enlisting, ReadToken, Reached, nothing_read, one_more, declared_names, list_names, is_one_of}
use Rattle.outline.proofs.Phases.{in_list, after_step, list-after, beginning-kind, enlisting-kind, unlisted_kind, enlisting_there, after-step, declaring_there, declaring-kind}
use Rattle.outline.proofs.Agrees.{list_from}

-- v is the first token left or stands after it
abbrev Ahead : List Token → Token → Type 0
Ahead [] v = ⊥
Ahead (u ∷ us) v = u.place ≤ v.place

-- tokens that stand before a place
data Below (a : ℕ) : List Token → Type 0 where
  nothing : Below a []
  another : {u : Token} {us : List Token} → u.place < a → Below a us → Below a (u ∷ us)

not_false : (x : Bool) → not x ≡ true → x ≡ false
not_false true e = absurd (false≢true e)
not_false false e = refl

module _ (s : List ℕ) where
  ahead_past : {t : Token} {us : List Token} (v : Token) → Chain s t us → Ahead us v → t.place < v.place
  ahead_past v (last k) h = absurd h
  ahead_past v (link k p q c) h = omega arith

  -- the place of the oldest of some names that v is, or else e
  unfoldable oldest : Token → List Token → Option ℕ → Option ℕ
  oldest v [] e = e
  oldest v (u ∷ us) e = oldest v us (cond (same_word (token_bytes s u) (token_bytes s v)) (Some u.place) e)

  -- where v is declared among the tokens left, the first of which is just being declared or not
  unfoldable ahead : Bool → Token → List Token → Option ℕ
  ahead true v [] = None
  ahead true v (u ∷ us) = cond (named s v u) (Some u.place) (declared_among s v (u ∷ us))
  ahead false v us = declared_among s v us

  -- INITIAL_STEP or STEP
  ahead_step : {t : Token} {us : List Token} (v : Token) → Chain s t us → step_word t ≡ true → declared_among s v (t ∷ us) ≡ ahead true v us
  unfolding declared_among ahead
  ahead_step v (last k) e = absurd (false≢true (rw k at e))
  ahead_step v (link k i j y) e = rw e

  record Told (h : List ReadToken) (d : Due) (us : List Token) : Type 0 where
    rest : Rest s us
    listed : in_list d.phase ≡ true → (v : Token) → Ahead us v → is_listed s (list_from h) v ≡ (is_one_of s v (list_names h) || listed_in s v us)
    declared : (v : Token) → declared_at s v ≡ oldest v (declared_names h) (ahead (after_step d.phase) v us)
    below : (v : Token) → Ahead us v → Below v.place (declared_names h)

  told_start : Told [] (record { phase = Outside; depth = 0 }) (tokens s)
  unfolding declared_at oldest ahead declared_names
  told_start = record { rest = text-rest s; listed = λ e. absurd (false≢true e); declared = λ v. refl; below = λ v a. nothing }

  module _ (h : List ReadToken) (d : Due) (t : Token) (us : List Token) (g : Told h d (t ∷ us)) (n : (follow d t.kind (is_qualifier s t)).phase ≡ Stopped → ⊥) where
    abbrev c : ℕ
    c = place_of d.phase t.kind

    abbrev p' : Phase
    p' = (follow d t.kind (is_qualifier s t)).phase

    abbrev x : ReadToken
    x = record { place = c; token = t }

    -- the tokens after t
    chain : Chain s t us
    chain = go g.rest
      where
        go : Rest s (t ∷ us) → Chain s t us
        go (some_left a l e k) = k

    -- Lists

    -- FROM or TO: a list begins
    begun-list : (v : Token) → t.place < v.place → same_kind t.kind Name ≡ false → is_listed s t.place v ≡ listed_in s v us
    begun-list v l k = go g.rest
      where
        go : Rest s (t ∷ us) → is_listed s t.place v ≡ listed_in s v us
        go (some_left a i e y) = listed-again s v a i e y k l

    regroup : (a b c : Bool) → (a || (b || c)) ≡ ((b || a) || c)
    regroup true true c = refl
    regroup true false c = refl
    regroup false true c = refl
    regroup false false c = refl

    -- a list after one token more
    listed_more : in_list p' ≡ true → (v : Token) → Ahead us v → is_listed s (list_from (x ∷ h)) v ≡ (is_one_of s v (list_names (x ∷ h)) || listed_in s v us)
    unfolding list_from list_names is_one_of
    listed_more i v a =
        go (eqb c beginning) (eqb c enlisting) (same_kind t.kind Name) refl (rw i at (list-after d t.kind (is_qualifier s t) n)) (beginning-kind d t.kind (is_qualifier s t) n)
        (enlisting-kind d t.kind (is_qualifier s t) n) (rw i at (unlisted_kind d t.kind (is_qualifier s t) n))
      where
        l : t.place < v.place
        l = ahead_past v chain a

        before : in_list d.phase ≡ true → is_listed s (list_from h) v ≡ (is_one_of s v (list_names h) || (named s v t || listed_in s v us))
        before e = g.listed e v (let z = ahead_past v chain a in omega arith) ∙ ap (λ (y : Bool). is_one_of s v (list_names h) || y) (listed-on s v t us l)

        go : (b e m : Bool) → same_kind t.kind Name ≡ m → (b || in_list d.phase) ≡ true → (not b || not m) ≡ true → (not e || m) ≡ true → (b || (e || not m)) ≡ true
            → is_listed s (cond b t.place (list_from h)) v ≡ (is_one_of s v (cond b [] (cond e (t ∷ list_names h) (list_names h))) || listed_in s v us)
        go true e m k q r u w = begun-list v l (k ∙ not_false m r)
        go false true m k q r u w = before q ∙ rw (k ∙ u) (regroup (is_one_of s v (list_names h)) (same_word (token_bytes s t) (token_bytes s v)) (listed_in s v us))
        go false false m k q r u w = before q ∙ rw (k ∙ not_false m w)

    -- Declarations

    -- any other token
    ahead_none : (v : Token) → step_word t ≡ false → declared_among s v (t ∷ us) ≡ declared_among s v us
    unfolding declared_among
    ahead_none v e = rw e

    -- declarations after one token more
    declared-more : (v : Token) → declared_at s v ≡ oldest v (declared_names (x ∷ h)) (ahead (after_step p') v us)
    unfolding declared_names oldest ahead
    declared-more v =
        go (eqb c declaring) (after_step d.phase) (after_step p') (step_word t) refl (same_kind t.kind Name) refl (after-step d t.kind (is_qualifier s t) n)
        (declaring_there d t.kind (is_qualifier s t) n) (declaring-kind d t.kind (is_qualifier s t) n) (g.declared v)
      where
        go : (e a b w : Bool) → step_word t ≡ w → (m : Bool) → same_kind t.kind Name ≡ m → cond b w (not w) ≡ true → cond e a (not a) ≡ true → (not e || m) ≡ true
            → declared_at s v ≡ oldest v (declared_names h) (ahead a v (t ∷ us)) → declared_at s v ≡ oldest v (cond e (t ∷ declared_names h) (declared_names h)) (ahead b v us)
        go true true true w i m j k q r f = absurd (false≢true (rw (kind_true t.kind Name (j ∙ r)) at (i ∙ k)))
        go true true false w i m j k q r f = f ∙ rw (j ∙ r, ahead_none v (i ∙ not_false w k))
        go true false b w i m j k q r f = absurd (false≢true q)
        go false true b w i m j k q r f = absurd (false≢true q)
        go false false true w i m j k q r f = f ∙ ap (oldest v (declared_names h)) (ahead_step v chain (i ∙ k))
        go false false false w i m j k q r f = f ∙ ap (oldest v (declared_names h)) (ahead_none v (i ∙ not_false w k))

    -- all names declared stand before the tokens left
    below_more : (v : Token) → Ahead us v → Below v.place (declared_names (x ∷ h))
    unfolding declared_names
    below_more v a = go (eqb c declaring)
      where
        go : (b : Bool) → Below v.place (cond b (t ∷ declared_names h) (declared_names h))
        go true = another (ahead_past v chain a) (g.below v (let z = ahead_past v chain a in omega arith))
        go false = g.below v (let z = ahead_past v chain a in omega arith)

    told_more : Told (x ∷ h) (follow d t.kind (is_qualifier s t)) us
    told_more = record { rest = chain_rest s chain; listed = listed_more; declared = declared-more; below = below_more }

  told : {h : List ReadToken} {d : Due} {us : List Token} → Reached s h d us → Told h d us
  told nothing_read = told_start
  told (one_more {h = h} {d = d} {t = t} {us = us} q n) = told_more h d t us (told q) n

  -- What the code asks of a name is what the table asks.

  -- a name is listed twice if it is one of the list
  pub listed-is : {x : ReadToken} {h : List ReadToken} {d : Due} {us : List Token} → Reached s (x ∷ h) d us → x.place ≡ enlisting → is_listed s (list_from h) x.token ≡ is_one_of s x.token (list_names h)
  listed-is (one_more {h = h} {d = d} {t = t} {us = us} q n) e =
      (told q).listed (rw e at (enlisting_there d t.kind (is_qualifier s t) n)) t (omega arith)
      ∙ ap (λ (b : Bool). is_one_of s t (list_names h) || b) (listed-itself s t us) ∙ or_none (is_one_of s t (list_names h))
    where
      or_none : (b : Bool) → (b || false) ≡ b
      or_none true = refl
      or_none false = refl

  -- no name is v, or some is, which stands before
  oldest_none : (v : Token) (us : List Token) (e : Option ℕ) → is_one_of s v us ≡ false → oldest v us e ≡ e
  unfolding is_one_of oldest
  oldest_none v [] e h = refl
  oldest_none v (u ∷ us) e h = go (same_word (token_bytes s u) (token_bytes s v)) h (λ k z. oldest_none v us k z)
    where
      go : (b : Bool) → (b || is_one_of s v us) ≡ false → ((k : Option ℕ) → is_one_of s v us ≡ false → oldest v us k ≡ k) → oldest v us (cond b (Some u.place) e) ≡ e
      go true z f = absurd (false≢true (sym z))
      go false z f = f e z

  oldest_below : (v : Token) (a : ℕ) {us : List Token} (e : Option ℕ) → Below a us → is_one_of s v us ≡ true → is_at a (oldest v us e) ≡ false
  unfolding is_one_of oldest
  oldest_below v a e nothing h = absurd (false≢true h)
  oldest_below v a e (another {u = u} {us = us} p b) h = go (same_word (token_bytes s u) (token_bytes s v)) (is_one_of s v us) refl h (λ k z. oldest_below v a k b z)
    where
      go : (x y : Bool) → is_one_of s v us ≡ y → (x || y) ≡ true → ((k : Option ℕ) → is_one_of s v us ≡ true → is_at a (oldest v us k) ≡ false) → is_at a (oldest v us (cond x (Some u.place) e)) ≡ false
      go true true q z f = f (Some u.place) q
      go true false q z f = rw (oldest_none v us (Some u.place) q) (ne_eqb u.place a (λ y. omega arith))
      go false true q z f = f e q
      go false false q z f = absurd (false≢true z)

  -- a name is declared first here if it is none of those declared before
  pub first-is : {x : ReadToken} {h : List ReadToken} {d : Due} {us : List Token} → Reached s (x ∷ h) d us → x.place ≡ declaring → is_first s x.token ≡ not (is_one_of s x.token (declared_names h))
  unfolding ahead
  first-is (one_more {h = h} {d = d} {t = t} {us = us} q n) e = go (is_one_of s t (declared_names h)) refl
    where
      k : same_kind t.kind Name ≡ true
      k = rw e at (declaring-kind d t.kind (is_qualifier s t) n)

      there : declared_at s t ≡ oldest t (declared_names h) (Some t.place)
      there = (told q).declared t ∙ rw (rw e at (declaring_there d t.kind (is_qualifier s t) n), k, same-itself (token_bytes s t))

      go : (b : Bool) → is_one_of s t (declared_names h) ≡ b → is_first s t ≡ not b
      go true z = rw there (oldest_below t t.place (Some t.place) ((told q).below t (omega arith)) z)
      go false z = rw (there, oldest_none t (declared_names h) (Some t.place) z) (eq-eqb t.place t.place refl)
