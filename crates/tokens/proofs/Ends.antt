-- The tokens of a text end with the token of its end, which stands nowhere else, and they are few.
use mathlib.Core.Bool.{Bool, true, false, cond}
use mathlib.Core.List.{List, [], ◌∷◌}
use mathlib.Core.Path.{◌≡◌, refl}
use Prim.Native.Nat.{ℕ, zero, suc, ◌+◌, ◌-◌, ◌<◌, ◌≤◌}
use native.Mathlib.Omega.{arith}
use lib.ListN.{length}
use Rattle.text.specs.Bytes.{byte_at}
use Rattle.tokens.specs.declared.Spot.{Spot}
use Rattle.tokens.specs.declared.Token.{Token}
use Rattle.tokens.specs.Tokens.{spot, is_blank, line_after, opens, closes, close_at, gap_at, skip, token_at, token_after, tokens_from, tokens, Further, Leaves, Lies}
use Rattle.tokens.proofs.Laws.{closes-inside, blank-inside, leaves_sooner, lies}
use Rattle.std.proofs.Common.{Option, Some, None, option_map, unwrap_or}
use Rattle.tokens.specs.declared.Kind.TheVariants.{End}
use Rattle.tokens.specs.Kinds.{same_kind}
use Rattle.tokens.proofs.Alike.{kind_true, kind_false}

-- the last token, and it alone, is the end of the text
pub data Ended : List Token → Type 0 where
  at_end : {t : Token} → t.kind ≡ End → Ended (t ∷ [])
  before_end : {t : Token} {us : List Token} → (t.kind ≡ End → ⊥) → Ended us → Ended (t ∷ us)

-- Gaps end further on, and within the text.

close_leaves : (n : ℕ) (s : List ℕ) (a l : ℕ) → Leaves s a (close_at n (byte_at s) a l)
unfolding close_at
close_leaves zero s a l = tt
close_leaves (suc n) s a l = go (closes (byte_at s) a) refl (close_leaves n s (a + 1) (line_after (byte_at s a) l))
  where
    rest : Option Spot
    rest = close_at n (byte_at s) (a + 1) (line_after (byte_at s a) l)

    go : (t : Bool) → closes (byte_at s) a ≡ t → Leaves s (a + 1) rest → Leaves s a (cond t (Some (spot (a + 2) l)) rest)
    go true p r = (omega arith, closes-inside s a p)
    go false p r = leaves_sooner s a (a + 1) rest (omega arith) r

here : (s : List ℕ) (a l : ℕ) → Further s a (spot a l)
here s a l = record { from = omega arith; within = omega arith }

pub gap_leaves : (s : List ℕ) (a l : ℕ) → Leaves s a (gap_at s a l)
unfolding gap_at
gap_leaves s a l = go (is_blank (byte_at s a)) refl (opens (byte_at s) a)
  where
    go : (t : Bool) → is_blank (byte_at s a) ≡ t → (u : Bool)
        → Leaves s a (cond t (Some (spot (a + 1) (line_after (byte_at s a) l))) (cond u (close_at (length s - (a + 2)) (byte_at s) (a + 2) l) None))
    go true p u = let i = blank-inside s a p in (omega arith, omega arith)
    go false p true = leaves_sooner s a (a + 2) _ (omega arith) (close_leaves (length s - (a + 2)) s (a + 2) l)
    go false p false = tt

skip_further : (n : ℕ) (s : List ℕ) (a l : ℕ) → Further s a (skip n s a l)
unfolding skip
skip_further zero s a l = here s a l
skip_further (suc n) s a l = go (gap_at s a l) (gap_leaves s a l) (λ e. skip_further n s e.place e.line)
  where
    go : (o : Option Spot) → Leaves s a o → ((e : Spot) → Further s e.place (skip n s e.place e.line)) → Further s a (unwrap_or (option_map (λ (e : Spot). skip n s e.place e.line) o) (spot a l))
    go None g f = here s a l
    go (Some e) g f =
        let x = g.0 in
        let y = g.1 in
        let u = (f e).from in
        let v = (f e).within in
        record { from = omega arith; within = omega arith }

-- Tokens

-- the first token from a place on lies there
pub token_lies : (s : List ℕ) (a l : ℕ) → Lies s a (token_at s a l)
unfolding token_at
token_lies s a l = lies s a (skip (length s + 1) s a l) (skip_further (length s + 1) s a l)

from-ended : (n : ℕ) (s : List ℕ) (a : ℕ) (t : Token) → Lies s a t → length s - t.place < n → Ended (tokens_from n s t)
unfolding tokens_from
from-ended zero s a t i h = absurd (omega arith)
from-ended (suc n) s a t i h = go (same_kind t.kind End) refl (λ k. from-ended n s (t.place + t.size) (token_after s t) (token_lies s (t.place + t.size) t.line) (shorter k))
  where
    shorter : (t.kind ≡ End → ⊥) → length s - (token_after s t).place < n
    shorter k =
        let p = i.within k in
        let q = i.some k in
        let r = (token_lies s (t.place + t.size) t.line).from in
        omega arith

    go : (x : Bool) → same_kind t.kind End ≡ x → ((t.kind ≡ End → ⊥) → Ended (tokens_from n s (token_after s t))) → Ended (cond x (t ∷ []) (t ∷ tokens_from n s (token_after s t)))
    go true e f = at_end (kind_true _ _ e)
    go false e f = before_end (kind_false _ _ e) (f (kind_false _ _ e))

-- the tokens of a text end with its end, and no other is of that kind
pub tokens-ended : (s : List ℕ) → Ended (tokens s)
unfolding tokens
tokens-ended s = from-ended (length s + 1) s 0 (token_at s 0 1) (token_lies s 0 1) (omega arith)

from_few : (n : ℕ) (s : List ℕ) (t : Token) → length (tokens_from n s t) ≤ n
unfolding tokens_from
from_few zero s t = omega arith
from_few (suc n) s t = go (same_kind t.kind End) (from_few n s (token_after s t))
  where
    go : (x : Bool) → length (tokens_from n s (token_after s t)) ≤ n → length (cond x (t ∷ []) (t ∷ tokens_from n s (token_after s t))) ≤ suc n
    go true h = omega arith
    go false h = omega arith

-- a text has at most one token more than bytes
pub tokens_few : (s : List ℕ) → length (tokens s) ≤ length s + 1
unfolding tokens
tokens_few s = from_few (length s + 1) s (token_at s 0 1)
