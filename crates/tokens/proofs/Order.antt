-- Tokens stand in the order of their lines; words that are the same in any case are alike to every other word.
use mathlib.Core.Bool.{Bool, true, false, cond, ◌&&◌, false≢true}
use mathlib.Core.List.{List, [], ◌∷◌}
use mathlib.Core.Path.{◌≡◌, refl, ap}
use Prim.Native.Nat.{ℕ, zero, suc, ◌+◌, ◌-◌, ◌≤◌}
use native.Mathlib.Omega.{arith}
use borrow.Author.Tests.{eq-eqb, eqb-true}
use lib.Dec.{eqb, ltb}
use lib.ListN.{length}
use Rattle.std.proofs.Common.{Option, Some, None, option_map, unwrap_or, IfSome}
use Rattle.text.specs.Bytes.{Bytes, byte_at}
use Rattle.tokens.specs.declared.Spot.{Spot}
use Rattle.tokens.specs.declared.Token.{Token}
use Rattle.tokens.specs.Spelling.{upper, same_word}
use Rattle.tokens.specs.Tokens.{spot, line_after, opens, closes, close_at, is_blank, gap_at, skip, token_on, token_at, token_after, tokens_from, tokens}
use Rattle.tokens.specs.declared.Kind.TheVariants.{End}
use Rattle.tokens.specs.Kinds.{same_kind}

-- Lines

-- a byte leads to the same line or the next
line_after_lem : (b l : ℕ) → l ≤ line_after b l
line_after_lem b l = go (eqb b 10) (ltb l 16777216)
  where
    go : (x y : Bool) → l ≤ cond x (cond y (l + 1) l) l
    go true true = omega arith
    go true false = omega arith
    go false y = omega arith

-- a gap that is left at line l or later
abbrev Later : ℕ → Option Spot → Type 0
Later l o = IfSome o (λ (p : Spot). l ≤ p.line)

later_still : (l k : ℕ) (o : Option Spot) → l ≤ k → Later k o → Later l o
later_still l k None h r = tt
later_still l k (Some p) h r = omega arith

-- a comment that is left is left at its own line or later
close_line : (n : ℕ) (b : Bytes) (a l : ℕ) → Later l (close_at n b a l)
unfolding close_at
close_line zero b a l = tt
close_line (suc n) b a l = go (closes b a) (close_line n b (a + 1) (line_after (b a) l))
  where
    go : (x : Bool) → Later (line_after (b a) l) (close_at n b (a + 1) (line_after (b a) l)) → Later l (cond x (Some (spot (a + 2) l)) (close_at n b (a + 1) (line_after (b a) l)))
    go true r = omega arith
    go false r = later_still l (line_after (b a) l) _ (line_after_lem (b a) l) r

-- a gap ends at its own line or later
gap_line : (s : List ℕ) (a l : ℕ) → Later l (gap_at s a l)
unfolding gap_at
gap_line s a l = go (is_blank (byte_at s a)) (opens (byte_at s) a)
  where
    go : (x y : Bool) → Later l (cond x (Some (spot (a + 1) (line_after (byte_at s a) l))) (cond y (close_at (length s - (a + 2)) (byte_at s) (a + 2) l) None))
    go true y = line_after_lem (byte_at s a) l
    go false true = close_line (length s - (a + 2)) (byte_at s) (a + 2) l
    go false false = tt

-- so do all of them
skip-line : (n : ℕ) (s : List ℕ) (a l : ℕ) → l ≤ (skip n s a l).line
unfolding skip
skip-line zero s a l = omega arith
skip-line (suc n) s a l = go (gap_at s a l) (gap_line s a l) (λ e. skip-line n s e.place e.line)
  where
    go : (o : Option Spot) → Later l o → ((e : Spot) → e.line ≤ (skip n s e.place e.line).line) → l ≤ (unwrap_or (option_map (λ (e : Spot). skip n s e.place e.line) o) (spot a l)).line
    go None g f = omega arith
    go (Some e) g f = let h = f e in omega arith

-- and a token stands there
token-line : (s : List ℕ) (a l : ℕ) → l ≤ (token_at s a l).line
unfolding token_at token_on
token-line s a l = skip-line (length s + 1) s a l

-- tokens whose lines never fall, from line l on
pub data Onward : ℕ → List Token → Type 0 where
  none_left : {l : ℕ} → Onward l []
  one_left : {l : ℕ} {t : Token} {us : List Token} → l ≤ t.line → Onward t.line us → Onward l (t ∷ us)

-- the tokens from t on
tokens-onward : (n : ℕ) (s : List ℕ) (t : Token) (l : ℕ) → l ≤ t.line → Onward l (tokens_from n s t)
unfolding tokens_from
tokens-onward zero s t l h = none_left
tokens-onward (suc n) s t l h = go (same_kind t.kind End) (tokens-onward n s (token_after s t) t.line (token-line s (t.place + t.size) t.line))
  where
    go : (x : Bool) → Onward t.line (tokens_from n s (token_after s t)) → Onward l (cond x (t ∷ []) (t ∷ tokens_from n s (token_after s t)))
    go true o = one_left h none_left
    go false o = one_left h o

-- the lines of a text's tokens never fall
pub text-onward : (s : List ℕ) → Onward 0 (tokens s)
unfolding tokens
text-onward s = tokens-onward (length s + 1) s (token_at s 0 1) 0 (omega arith)

-- Words

-- a word is the same as itself
pub same-itself : (a : List ℕ) → same_word a a ≡ true
unfolding same_word
same-itself [] = refl
same-itself (x ∷ a) = rw (eq-eqb (upper x) (upper x) refl) (same-itself a)

-- words that are the same begin alike and go on alike
same_head : (x y : ℕ) (z : Bool) → (eqb (upper x) (upper y) && z) ≡ true → (upper x ≡ upper y) × (z ≡ true)
same_head x y z h = go (eqb (upper x) (upper y)) refl h
  where
    go : (u : Bool) → eqb (upper x) (upper y) ≡ u → (u && z) ≡ true → (upper x ≡ upper y) × (z ≡ true)
    go true p q = (eqb-true (upper x) (upper y) p, q)
    go false p q = absurd (false≢true q)

-- what is the same as the one of two equal words is the same as the other
pub same_alike : (a b w : List ℕ) → same_word a b ≡ true → same_word w a ≡ same_word w b
unfolding same_word
same_alike [] [] w h = refl
same_alike [] (y ∷ b) w h = absurd (false≢true h)
same_alike (x ∷ a) [] w h = absurd (false≢true h)
same_alike (x ∷ a) (y ∷ b) [] h = refl
same_alike (x ∷ a) (y ∷ b) (z ∷ w) h = let p = same_head x y (same_word a b) h in rw p.0 (ap (λ (v : Bool). eqb (upper z) (upper y) && v) (same_alike a b w p.1))
