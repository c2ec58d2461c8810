-- The condition that is written for an SFC condition is a condition of 01's grammar, of the same structure.
use mathlib.Core.Bool.{false}
use mathlib.Core.List.{List, [], ◌∷◌, ◌++◌, append-nil, append_assoc}
use mathlib.Core.Path.{◌≡◌, refl, sym, ◌∙◌}
use Prim.Native.Nat.{ℕ, suc, ◌+◌, ◌≤◌, ◌<◌}
use native.Mathlib.Omega.{arith}
use lib.ListN.{length, get_or, drop, length-append}
use Rattle.text.specs.Bytes.{byte_at}
use Rattle.text.specs.Numbers.{is_digit}
use Rattle.text.specs.Decimal.{decimal}
use Rattle.text.proofs.Numbers.{number_sound}
use Rattle.text.proofs.Decimal.{byte_head, drop_past, decimal_complete}
use Rattle.cond.specs.Meaning.{Cond, input, always, never, item, neg, both, either}
use Rattle.cond.specs.Grammar.{Numeral, Spans}
use Rattle.cond.specs.Grammar as chart
use Rattle.tokens.specs.declared.Token.{Token}
use Rattle.naming.specs.Names.{number_in}
use Rattle.grammar.specs.Program.{Expr, true', false', variable, not', brackets, and', or'}
use Rattle.grammar.specs.Grammar.{ConditionPart, operand, factor, term, condition, Reads, truth, falsity, a_name, bracketed, plain, negated, one-factor, more_factors, one-term, more_terms}
use Rattle.sfc.specs.Chart.{Map, spell}
use Rattle.sfc.proofs.Numbering.{number-at_most}

-- which part of 01's grammar a part of the SFC grammar becomes
abbrev pub part_of : ConditionPart → chart.Part
part_of operand = chart.factor
part_of factor = chart.factor
part_of term = chart.term
part_of condition = chart.condition

-- Texts

-- where two parts with a byte between them stand in a text, and what follows them
record Between (w : List ℕ) (a : ℕ) (x : List ℕ) (b : ℕ) (y r : List ℕ) : Type 0 where
  first : drop a w ≡ x ++ b ∷ (y ++ r)
  byte : byte_at w (a + length x) ≡ b
  second : drop (a + length x + 1) w ≡ y ++ r
  ends : a + length x + 1 + length y ≡ a + length (x ++ b ∷ y)

-- what stands there is found there
between : (w : List ℕ) (a : ℕ) (x : List ℕ) (b : ℕ) (y r : List ℕ) → drop a w ≡ (x ++ b ∷ y) ++ r → Between w a x b y r
between w a x b y r q =
    let p : drop a w ≡ x ++ b ∷ (y ++ r) = q ∙ append_assoc x (b ∷ y) r in
    let d : drop (a + length x) w ≡ b ∷ (y ++ r) = drop_past w a x (b ∷ (y ++ r)) p in
    let n = length-append x (b ∷ y) in
    record { first = p; byte = byte_head w (a + length x) (b ∷ (y ++ r)) d; second = drop_past w (a + length x) (b ∷ []) (y ++ r) d; ends = omega arith }

-- a number that is written is one of 01's
numeral_written : (w : List ℕ) (a v : ℕ) (r : List ℕ) → v < 10000000 → drop a w ≡ decimal v ++ r → is_digit (get_or r 0 0) ≡ false → Numeral (byte_at w) a (a + length (decimal v)) v
numeral_written w a v r l q f = (number_sound 7 (byte_at w) a (a + length (decimal v)) v (omega arith) (decimal_complete 7 w a v r (omega arith) l q f)).is

-- Conditions

module _ (s : List ℕ) (m : Map) where
  -- what a condition becomes: a name is its input, and brackets have no meaning of their own
  unfoldable pub translated : Expr → Cond
  translated true' = always
  translated false' = never
  translated (variable t) = item input (number_in s t m.inputs)
  translated (not' e) = neg (translated e)
  translated (brackets e) = translated e
  translated (and' e f) = both (translated e) (translated f)
  translated (or' e f) = either (translated e) (translated f)

  -- what is written for a part, wherever it stands in a text and with no digit after it, is that part of 01's grammar
  pub written : {p : ConditionPart} {us vs : List Token} {e : Expr} → length m.inputs ≤ 32 → Reads p us vs e → (w : List ℕ) (a : ℕ) (r : List ℕ)
      → drop a w ≡ spell s m e ++ r → is_digit (get_or r 0 0) ≡ false → Spans (byte_at w) (part_of p) a (a + length (spell s m e)) (translated e)
  unfolding spell translated
  written n (truth k) w a r q f = chart.atom a (a + 1) always (chart.true' (byte_head w a _ q))
  written n (falsity k) w a r q f = chart.atom a (a + 1) never (chart.false' (byte_head w a _ q))
  written n (a_name {t} k) w a r q f =
      let l = number-at_most s t m.inputs in
      let d : drop (a + 1) w ≡ decimal (number_in s t m.inputs) ++ r = drop_past w a (105 ∷ []) _ q in
      let e : a + 1 + length (decimal (number_in s t m.inputs)) ≡ a + suc (length (decimal (number_in s t m.inputs))) = omega arith in
      let x = numeral_written w (a + 1) (number_in s t m.inputs) r (omega arith) d f in
      chart.atom a _ _ (chart.input' _ _ (byte_head w a _ q) (rw e at x))
  written n (bracketed {e} o x c) w a r q f =
      let z = between w (a + 1) (spell s m e) 41 [] r (drop_past w a (40 ∷ []) _ q) in
      let i : a + 1 + length (spell s m e) + 1 ≡ a + suc (length (spell s m e ++ 41 ∷ [])) = let j = z.ends in omega arith in
      let y = chart.bracketed a _ _ (byte_head w a _ q) (written n x w (a + 1) (41 ∷ r) z.first refl) z.byte in
      rw i at y
  written n (plain x) w a r q f = written n x w a r q f
  written n (negated {e} k x) w a r q f =
      let i : a + 1 + length (spell s m e) ≡ a + suc (length (spell s m e)) = omega arith in
      let y = chart.negation a _ _ (byte_head w a _ q) (written n x w (a + 1) r (drop_past w a (33 ∷ []) _ q) f) in
      rw i at y
  written n (one-factor x) w a r q f = chart.one-factor a _ _ (written n x w a r q f)
  written n (more_factors {e} {f = g} x k y) w a r q f =
      let z = between w a (spell s m e) 46 (spell s m g) r q in
      let u = chart.more_factors a _ _ _ _ (written n x w a _ z.first refl) z.byte (written n y w _ r z.second f) in
      rw z.ends at u
  written n (one-term x) w a r q f = chart.one-term a _ _ (written n x w a r q f)
  written n (more_terms {e} {f = g} x k y) w a r q f =
      let z = between w a (spell s m e) 43 (spell s m g) r q in
      let u = chart.more_terms a _ _ _ _ (written n x w a _ z.first refl) z.byte (written n y w _ r z.second f) in
      rw z.ends at u

  -- the written condition is one of 01's grammar, and means what the SFC condition becomes
  pub condition-written : {us vs : List Token} {e : Expr} → length m.inputs ≤ 32 → Reads condition us vs e
      → Spans (byte_at (spell s m e)) chart.condition 0 (length (spell s m e)) (translated e)
  condition-written {e} n x =
      let i : 0 + length (spell s m e) ≡ length (spell s m e) = omega arith in
      let y = written n x (spell s m e) 0 [] (sym (append-nil (spell s m e))) refl in
      rw i at y
