-- Tokens that pass and end, where an operand is due, begin with a condition.
use mathlib.Core.Bool.{Bool, true, false, not, ◌||◌, false≢true}
use mathlib.Core.List.{List, [], ◌∷◌}
use mathlib.Core.Path.{◌≡◌, refl}
use Prim.Native.Nat.{ℕ, zero, suc, ◌+◌, ◌-◌, ◌<◌, ◌≤◌}
use native.Mathlib.Omega.{arith}
use borrow.Author.Tests.{eqb-true, lt-ltb}
use lib.Dec.{eqb}
use lib.ListN.{length}
use Rattle.tokens.specs.declared.Kind.{Kind}
use Rattle.tokens.specs.declared.Token.{Token}
use Rattle.tokens.proofs.Ends.{Ended}
use Rattle.grammar.specs.Program.{Expr}
use Rattle.grammar.specs.Grammar.{Is, ConditionPart, operand, factor, term, condition, Reads, truth, falsity, a_name, bracketed, plain, negated, one-factor, more_factors, one-term, more_terms}
use Rattle.grammar.specs.Rows.{next_in, next_due, in_condition}
use Rattle.grammar.specs.declared.Phase.{Phase}
use Rattle.grammar.specs.declared.Phase.TheVariants.{OperandDue, PlainDue, OperatorDue, EndDue}
use Rattle.grammar.specs.Passing.{due, Passes}
use Rattle.grammar.proofs.Lengths.{reads_past}
use Rattle.grammar.proofs.Stands.{pick, Stands, here, there, stands}
use Rattle.tokens.specs.declared.Kind.TheVariants.{And, Or, Not, True, False, Name, Semicolon, Open, Close}

-- what follows from itself for fewer tokens
pub by_length : (P : List Token → Type 0) → ((us : List Token) → ((vs : List Token) → length vs < length us → P vs) → P us) → (us : List Token) → P us
by_length P f us = below (suc (length us)) us (omega arith)
  where
    below : (n : ℕ) (ws : List Token) → length ws < n → P ws
    below zero ws h = absurd (omega arith)
    below (suc n) ws h = f ws (λ vs k. below n vs (omega arith))

-- Conditions

-- the kinds of an operand, each with what is due after it
abbrev operands : List (Kind × Phase)
operands = (Open, OperandDue) ∷ (True, OperatorDue) ∷ (False, OperatorDue) ∷ (Name, OperatorDue) ∷ []

-- the kinds after an operand
abbrev operators : List (Kind × Phase)
operators = (And, OperandDue) ∷ (Or, OperandDue) ∷ (Close, OperatorDue) ∷ (Semicolon, EndDue) ∷ []

-- `)` may stand within brackets only, and `;` outside them
depth-some : (d : ℕ) → not (eqb d 0 || false) ≡ true → d ≡ 0 → ⊥
depth-some d h e = let z : ◌≡◌ {A = Bool} false true = rw e at h in false≢true z

depth-none : (d : ℕ) → not (not (eqb d 0)) ≡ true → d ≡ 0
depth-none d h = go (eqb d 0) refl h
  where
    go : (x : Bool) → eqb d 0 ≡ x → not (not x) ≡ true → d ≡ 0
    go true e i = eqb-true d 0 e
    go false e i = absurd (false≢true i)

module _ (s : List ℕ) where
  -- a part of a condition, after which an operator is due
  record Front (p : ConditionPart) (d : ℕ) (us : List Token) : Type 0 where
    value : Expr
    rest : List Token
    reads : Reads p us rest value
    passes : Passes s (due OperatorDue d) rest
    ended : Ended rest

  -- the token that closes a condition: `)` within brackets, and else `;`
  pub data Closed (d : ℕ) : List Token → Type 0 where
    by_bracket : {t : Token} {us : List Token} → Is t Close → (d ≡ 0 → ⊥) → Passes s (due OperatorDue (d - 1)) us → Ended us → Closed d (t ∷ us)
    by_semicolon : {t : Token} {us : List Token} → Is t Semicolon → d ≡ 0 → Passes s (due EndDue d) us → Ended us → Closed d (t ∷ us)

  -- a whole condition
  pub record Whole (d : ℕ) (us : List Token) : Type 0 where
    pub value : Expr
    pub rest : List Token
    pub reads : Reads condition us rest value
    pub closed : Closed d rest

  -- what stands after a term
  data Rest (d : ℕ) : List Token → Type 0 where
    closing : {us : List Token} → Closed d us → Rest d us
    or_more : {t : Token} {us : List Token} → Is t Or → Whole d us → Rest d (t ∷ us)

  record Term (d : ℕ) (us : List Token) : Type 0 where
    value : Expr
    rest : List Token
    reads : Reads term us rest value
    after : Rest d rest

  -- a term and what stands after it are a condition
  whole : {d : ℕ} {us ws : List Token} {e : Expr} → Reads term us ws e → Rest d ws → Whole d us
  whole r (closing c) = record { value = _; rest = _; reads = one-term r; closed = c }
  whole r (or_more h w) = record { value = _; rest = _; reads = more_terms r h w.reads; closed = w.closed }

  -- a condition is read at every depth that the rows count
  Enters : List Token → Type 0
  Enters us = (d : ℕ) → d + length us ≤ 16777216 → Passes s (due OperandDue d) us → Ended us → Term d us

  -- a condition in brackets is an operand
  bracket_front : {d : ℕ} {o : Token} {us ws : List Token} {e : Expr} → Is o Open → Reads condition us ws e → Closed (d + 1) ws → Front operand d (o ∷ us)
  bracket_front {d} h r (by_bracket k z y e) =
      let q : d + 1 - 1 ≡ d = omega arith in
      record { value = _; rest = _; reads = bracketed h r k; passes = rw q at y; ended = e }
  bracket_front h r (by_semicolon k z y e) = absurd (omega arith)

  -- an operand, a factor and a term stand in front, if in fewer tokens conditions do
  operand_front : (p : Phase) (d : ℕ) (us : List Token) → in_condition p ≡ true → d + length us ≤ 16777216 → ((vs : List Token) → length vs < length us → Enters vs)
      → Stands s p d operands us → Front operand d us
  unfolding Enters
  operand_front p d us c b f (here {us = vs} m y e) =
      let x = f vs (omega arith) (d + 1) (omega arith) (rw (c, lt-ltb d 16777216 (omega arith)) at y) e in
      let w = whole x.reads x.after in
      bracket_front m.is w.reads w.closed
  operand_front p d us c b f (there (here m y e)) = record { value = _; rest = _; reads = truth m.is; passes = rw c at y; ended = e }
  operand_front p d us c b f (there (there (here m y e))) = record { value = _; rest = _; reads = falsity m.is; passes = rw c at y; ended = e }
  operand_front p d us c b f (there (there (there (here m y e)))) = record { value = _; rest = _; reads = a_name m.is; passes = rw c at y; ended = e }
  operand_front p d us c b f (there (there (there (there x16)))) = elim x16 [ ]

  factor_front : (d : ℕ) (us : List Token) → d + length us ≤ 16777216 → ((vs : List Token) → length vs < length us → Enters vs)
      → Stands s OperandDue d ((Not, PlainDue) ∷ operands) us → Front factor d us
  unfolding next_due next_in pick
  factor_front d us b f (here {us = vs} m y e) =
      let x = operand_front PlainDue d vs refl (omega arith) (λ ws h. f ws (omega arith)) (stands s operands (λ k. refl) refl y e) in
      record { value = _; rest = _; reads = negated m.is x.reads; passes = x.passes; ended = x.ended }
  factor_front d us b f (there h) =
      let x = operand_front OperandDue d us refl b f h in
      record { value = _; rest = _; reads = plain x.reads; passes = x.passes; ended = x.ended }

  term_of : (d : ℕ) {us ws : List Token} {e : Expr} → d + length us ≤ 16777216 → ((vs : List Token) → length vs < length us → Enters vs)
      → Reads factor us ws e → Stands s OperatorDue d operators ws → Term d us
  unfolding Enters
  term_of d b f r (here {us = vs} m y e) =
      let i = reads_past r in
      let x = f vs (omega arith) d (omega arith) y e in
      record { value = _; rest = _; reads = more_factors r m.is x.reads; after = x.after }
  term_of d b f r (there (here {us = vs} m y e)) =
      let i = reads_past r in
      let x = f vs (omega arith) d (omega arith) y e in
      record { value = _; rest = _; reads = one-factor r; after = or_more m.is (whole x.reads x.after) }
  term_of d b f r (there (there (here m y e))) = record { value = _; rest = _; reads = one-factor r; after = closing (by_bracket m.is (depth-some d m.even) y e) }
  term_of d b f r (there (there (there (here m y e)))) = record { value = _; rest = _; reads = one-factor r; after = closing (by_semicolon m.is (depth-none d m.even) y e) }
  term_of d {us = us} {ws = ws} {e = e} b f r (there (there (there (there x16)))) = elim x16 [ ]

  -- where an operand is due, a term stands
  enters : (us : List Token) → Enters us
  unfolding Enters next_due next_in pick
  enters = by_length Enters (λ us f d b y e.
      let x = factor_front d us b f (stands s ((Not, PlainDue) ∷ operands) (λ k. refl) refl y e) in
      term_of d b f x.reads (stands s operators (λ k. refl) refl x.passes x.ended))

  -- where an operand is due, a condition stands
  pub condition-stands : (d : ℕ) (us : List Token) → d + length us ≤ 16777216 → Passes s (due OperandDue d) us → Ended us → Whole d us
  unfolding Enters
  condition-stands d us b y e = let x = enters us d b y e in whole x.reads x.after
