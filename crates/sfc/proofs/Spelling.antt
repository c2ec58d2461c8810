-- A condition of the grammar, read by the code's fold: its inputs are joined and its bytes are put.
use mathlib.Core.Bool.{Bool, true, false, cond}
use mathlib.Core.List.{List, [], ◌∷◌, ◌++◌, append_assoc}
use mathlib.Core.Path.{◌≡◌, refl, sym, ap, ◌∙◌}
use Prim.Native.Nat.{ℕ, suc, ◌-◌, ◌≤◌}
use native.Mathlib.Numerals.{add-one}
use native.Mathlib.Omega.{arith}
use borrow.Author.Tests.{lt-ltb, ne_eqb}
use lib.ListN.{length, length-append}
use Rattle.std.specs.Prelude.{None}
use Rattle.text.specs.Decimal.{decimal}
use Rattle.tokens.specs.declared.Token.{Token}
use Rattle.tokens.specs.declared.Kind.{Kind}
use Rattle.tokens.specs.Kinds.{same_kind}
use Rattle.tokens.specs.declared.Kind.TheVariants.{And, Or, Not, True, False, Name, Open, Close, Semicolon}
use Rattle.tokens.specs.Tokens.{up}
use Rattle.naming.specs.declared.Names.{Names}
use Rattle.naming.specs.Names.{number_in, with_name, table_number}
use Rattle.naming.proofs.Tables.{Table, joins}
use Rattle.grammar.specs.Program.{Expr}
use Rattle.grammar.specs.Grammar.{Is, ConditionPart, operand, factor, term, condition, Reads, truth, falsity, a_name, bracketed, plain, negated, one-factor, more_factors, one-term, more_terms}
use Rattle.grammar.specs.declared.Phase.{Phase}
use Rattle.grammar.specs.Rows.{in_condition, next_due, next_in, same_phase}
use Rattle.grammar.specs.declared.Phase.TheVariants.{EndDue, SemicolonDue, Stopped, OperandDue, PlainDue, OperatorDue}
use Rattle.outline.specs.Faults.{in_lists, sign_bytes}
use Rattle.outline.specs.declared.Reading.{Reading}
use Rattle.outline.specs.declared.Condition.{Condition}
use Rattle.outline.specs.Reading.{reading, put_bytes, pieced, asked, acted, conditioned, after_token, reading_from}
use Rattle.outline.proofs.Steps.{due, Follows, follows, step_is, pieced_fine, asked_fine}
use Rattle.outline.proofs.Spelt.{Spelt, spelt_length, spelt_puts}
use Rattle.writer.specs.Lines.{made}
use Rattle.writer.proofs.Goes.{Goes, goes_one, goes_then, still, first_fine}
use Rattle.sfc.specs.Chart.{Map, spell}
use Rattle.sfc.specs.Chart as charts

-- r in a condition: what is due, the table of inputs, and the bytes so far
abbrev pub inside : Reading → Phase → ℕ → Names → Condition → Reading
inside r p d n c =
    reading (due p d) r.fault (record { steps = r.known.steps; inputs = n; outputs = r.known.outputs; initial = r.known.initial }) r.made
    (record {
      step = r.part.step;
      variable = r.part.variable;
      qualifier = r.part.qualifier;
      output = r.part.output;
      start = r.part.start;
      listed = r.part.listed;
      before = r.part.before;
      condition = c;
    })

-- what is due where a part begins; an operand may stand after NOT
abbrev pub phase_of : ConditionPart → Bool → Phase
phase_of operand b = cond b PlainDue OperandDue
phase_of factor b = OperandDue
phase_of term b = OperandDue
phase_of condition b = OperandDue

-- a token of a condition that is its own byte: p was due, p' is due then
abbrev Byte : Phase → Phase → Kind → Type 0
Byte p p' k =
    (same_phase p' Stopped ≡ false) × (in_lists p ≡ false) × (in_condition p ≡ true)
    × (same_kind k Semicolon ≡ false) × (same_kind k Name ≡ false) × (same_phase p' EndDue ≡ false) × (same_phase p' SemicolonDue ≡ false)

-- no line is made where neither a move nor an action is at its end
pub none_made : (r : Reading) → same_phase r.due.phase EndDue ≡ false → same_phase r.due.phase SemicolonDue ≡ false → made r ≡ []
unfolding made
none_made r a b = rw (a, b)

-- brackets are no deeper than there are bytes
longer : (w : List ℕ) (b d : ℕ) → d ≤ length w → suc d ≤ length (w ++ b ∷ [])
longer w b d h = let z = length-append w (b ∷ []) in omega arith

deeper : (w v : List ℕ) (b d : ℕ) → d ≤ length w → d ≤ length ((w ++ v) ++ b ∷ [])
deeper w v b d h = let z = length-append (w ++ v) (b ∷ []) in let y = length-append w v in omega arith

module _ (s : List ℕ) (m : Map) where
  -- a byte of a condition is put
  byte_acts : (r : Reading) (t : Token) (p : Phase) (k : Kind) → t.kind ≡ k → Byte p r.due.phase k → acted s p r t ≡ pieced r t.line (sign_bytes k)
  unfolding acted conditioned
  byte_acts r t p k i b = rw (b.0, b.1, b.2, i, b.3, b.4)

  -- a name of a condition is asked for
  input_acts : (r : Reading) (n : Names) (c : Condition) (t : Token) (p : Phase) (d : ℕ) → Is t Name → (in_lists p ≡ false) × (in_condition p ≡ true)
      → acted s p (inside r OperatorDue d n c) t ≡ asked s (inside r OperatorDue d n c) t
  unfolding acted conditioned
  input_acts r n c t p d i b = rw (b.0, b.1, i)

  -- what a condition, or a part of it, has done
  pub record Spells (r : Reading) (p : Phase) (d : ℕ) (n : Names) (c : Condition) (w : List ℕ) (us : List Token) (rest : List Token) (p' : Phase) (d' : ℕ) (bytes : List ℕ) (vs : List Token) : Type 0 where
    pub names : Names
    pub bytes' : Condition
    pub goes : Goes s (inside r p d n c) us [] (inside r p' d' names bytes') vs
    pub table : Table s m.inputs 32 names rest
    pub spelt : Spelt bytes' (w ++ bytes)

  module _ (r : Reading) (n : Names) (c : Condition) (w : List ℕ) (rest : List Token) (g : Spelt c w) where
    -- a token that is its own byte is put
    byte : (t : Token) (us : List Token) (k : Kind) (p : Phase) (d : ℕ) (p' : Phase) (d' : ℕ) → Is t k → Follows p d k p' d' → Byte p p' k → Table s m.inputs 32 n rest
        → (reading_from s (inside r p d n c) (t ∷ us)).fault ≡ None → Spells r p d n c w (t ∷ us) rest p' d' (sign_bytes k) us
    byte t us k p d p' d' i f b l h =
        let q : Reading = inside r p' d' n c in
        let e : after_token s (inside r p d n c) t ≡ pieced q t.line (sign_bytes k) = step_is s (inside r p d n c) t k p d p' d' refl i f ∙ byte_acts q t p k i b in
        let z = pieced_fine q t.line (sign_bytes k) (sym (ap (λ (x : Reading). x.fault) e) ∙ first_fine s (inside r p d n c) t us h) in
        record {
          names = n;
          bytes' = put_bytes c (sign_bytes k);
          goes = goes_one s (inside r p d n c) (inside r p' d' n (put_bytes c (sign_bytes k))) t us [] (e ∙ z.is) (none_made (inside r p' d' n (put_bytes c (sign_bytes k))) b.5 b.6);
          table = l;
          spelt = spelt_puts (sign_bytes k) c w g z.fits;
        }

    -- a name is joined to the inputs, and written by its number
    input : (t : Token) (us : List Token) (p : Phase) (d : ℕ) → Is t Name → Follows p d Name OperatorDue d → (in_lists p ≡ false) × (in_condition p ≡ true)
        → Table s m.inputs 32 n (t ∷ rest) → (reading_from s (inside r p d n c) (t ∷ us)).fault ≡ None
        → Spells r p d n c w (t ∷ us) rest OperatorDue d (105 ∷ decimal (number_in s t m.inputs)) us
    input t us p d i f b l h =
        let q : Reading = inside r OperatorDue d n c in
        let e : after_token s (inside r p d n c) t ≡ asked s q t = step_is s (inside r p d n c) t Name p d OperatorDue d refl i f ∙ input_acts r n c t p d i b in
        let z = asked_fine s q t (sym (ap (λ (x : Reading). x.fault) e) ∙ first_fine s (inside r p d n c) t us h) in
        let j = joins s m.inputs 32 n t rest (omega arith) l z.free in
        let o : ℕ = table_number s (with_name 32 s n t) t in
        let q' : Reading = inside r OperatorDue d (with_name 32 s n t) (put_bytes c (105 ∷ decimal o)) in
        record {
          names = with_name 32 s n t;
          bytes' = put_bytes c (105 ∷ decimal o);
          goes = goes_one s (inside r p d n c) q' t us [] (e ∙ z.is) (none_made q' refl refl);
          table = j.table;
          spelt = rw (← j.number) (spelt_puts (105 ∷ decimal o) c w g z.fits);
        }

  -- a part, and then another
  spells_then : {r : Reading} {p p' q : Phase} {d d' e : ℕ} {n : Names} {c : Condition} {w bs cs : List ℕ} {us vs ws rest rest' : List Token} → Spells r p d n c w us rest p' d' bs vs
      → ((k : Names) (b : Condition) → Table s m.inputs 32 k rest → Spelt b (w ++ bs) → (reading_from s (inside r p' d' k b) vs).fault ≡ None → Spells r p' d' k b (w ++ bs) vs rest' q e cs ws)
      → (reading_from s (inside r p d n c) us).fault ≡ None → Spells r p d n c w us rest' q e (bs ++ cs) ws
  spells_then {w = w} {bs = bs} {cs = cs} a f h =
      let b = f a.names a.bytes' a.table a.spelt (still s a.goes h) in
      record { names = b.names; bytes' = b.bytes'; goes = goes_then s a.goes b.goes; table = b.table; spelt = rw (append_assoc w bs cs) at b.spelt }

  module _ (r : Reading) (n : Names) (c : Condition) (w : List ℕ) (rest : List Token) (g : Spelt c w) (t : Token) (us : List Token) (d : ℕ) where
    -- a token at the beginning of an operand, perhaps after NOT
    first_byte : (b : Bool) (k : Kind) (p' : Phase) (d' : ℕ) → Is t k → Follows OperandDue d k p' d' → Follows PlainDue d k p' d' → Byte OperandDue p' k → Byte PlainDue p' k → Table s m.inputs 32 n rest
        → (reading_from s (inside r (phase_of operand b) d n c) (t ∷ us)).fault ≡ None → Spells r (phase_of operand b) d n c w (t ∷ us) rest p' d' (sign_bytes k) us
    first_byte true k p' d' i x y u v l h = byte r n c w rest g t us k PlainDue d p' d' i y v l h
    first_byte false k p' d' i x y u v l h = byte r n c w rest g t us k OperandDue d p' d' i x u l h

    -- TRUE and FALSE
    constant_true : (b : Bool) → Is t True → Table s m.inputs 32 n rest
        → (reading_from s (inside r (phase_of operand b) d n c) (t ∷ us)).fault ≡ None → Spells r (phase_of operand b) d n c w (t ∷ us) rest OperatorDue d (49 ∷ []) us
    unfolding next_due next_in
    constant_true b i l h =
        first_byte b True OperatorDue d i (follows OperandDue d True refl refl) (follows PlainDue d True refl refl)
        (refl, refl, refl, refl, refl, refl, refl) (refl, refl, refl, refl, refl, refl, refl) l h

    constant_false : (b : Bool) → Is t False → Table s m.inputs 32 n rest
        → (reading_from s (inside r (phase_of operand b) d n c) (t ∷ us)).fault ≡ None → Spells r (phase_of operand b) d n c w (t ∷ us) rest OperatorDue d (48 ∷ []) us
    unfolding next_due next_in
    constant_false b i l h =
        first_byte b False OperatorDue d i (follows OperandDue d False refl refl) (follows PlainDue d False refl refl)
        (refl, refl, refl, refl, refl, refl, refl) (refl, refl, refl, refl, refl, refl, refl) l h

    -- brackets
    opening : (b : Bool) → Is t Open → d ≤ 64 → Table s m.inputs 32 n rest
        → (reading_from s (inside r (phase_of operand b) d n c) (t ∷ us)).fault ≡ None → Spells r (phase_of operand b) d n c w (t ∷ us) rest OperandDue (suc d) (40 ∷ []) us
    unfolding next_due next_in
    opening b i k l h =
        let e : up d ≡ suc d = rw (lt-ltb d 16777216 (omega arith)) (add-one d) in
        first_byte b Open OperandDue (suc d) i (rw (← e) (follows OperandDue d Open refl refl)) (rw (← e) (follows PlainDue d Open refl refl))
        (refl, refl, refl, refl, refl, refl, refl) (refl, refl, refl, refl, refl, refl, refl) l h

    closing : Is t Close → Table s m.inputs 32 n rest
        → (reading_from s (inside r OperatorDue (suc d) n c) (t ∷ us)).fault ≡ None → Spells r OperatorDue (suc d) n c w (t ∷ us) rest OperatorDue d (41 ∷ []) us
    unfolding next_due next_in
    closing i l h =
        let e : suc d - 1 ≡ d = omega arith in
        byte r n c w rest g t us Close OperatorDue (suc d) OperatorDue d i (rw e at (follows OperatorDue (suc d) Close (rw (ne_eqb (suc d) 0 (λ z. omega arith))) refl))
        (refl, refl, refl, refl, refl, refl, refl) l h

    -- NOT
    negating : Is t Not → Table s m.inputs 32 n rest
        → (reading_from s (inside r OperandDue d n c) (t ∷ us)).fault ≡ None → Spells r OperandDue d n c w (t ∷ us) rest PlainDue d (33 ∷ []) us
    unfolding next_due next_in
    negating i l h = byte r n c w rest g t us Not OperandDue d PlainDue d i (follows OperandDue d Not refl refl) (refl, refl, refl, refl, refl, refl, refl) l h

    -- AND and OR
    joining_and : Is t And → Table s m.inputs 32 n rest
        → (reading_from s (inside r OperatorDue d n c) (t ∷ us)).fault ≡ None → Spells r OperatorDue d n c w (t ∷ us) rest OperandDue d (46 ∷ []) us
    unfolding next_due next_in
    joining_and i l h = byte r n c w rest g t us And OperatorDue d OperandDue d i (follows OperatorDue d And refl refl) (refl, refl, refl, refl, refl, refl, refl) l h

    joining_or : Is t Or → Table s m.inputs 32 n rest
        → (reading_from s (inside r OperatorDue d n c) (t ∷ us)).fault ≡ None → Spells r OperatorDue d n c w (t ∷ us) rest OperandDue d (43 ∷ []) us
    unfolding next_due next_in
    joining_or i l h = byte r n c w rest g t us Or OperatorDue d OperandDue d i (follows OperatorDue d Or refl refl) (refl, refl, refl, refl, refl, refl, refl) l h

    -- a name
    naming : (b : Bool) → Is t Name → Table s m.inputs 32 n (t ∷ rest) → (reading_from s (inside r (phase_of operand b) d n c) (t ∷ us)).fault ≡ None
        → Spells r (phase_of operand b) d n c w (t ∷ us) rest OperatorDue d (105 ∷ decimal (number_in s t m.inputs)) us
    unfolding next_due next_in
    naming true i l h = input r n c w rest g t us PlainDue d i (follows PlainDue d Name refl refl) (refl, refl) l h
    naming false i l h = input r n c w rest g t us OperandDue d i (follows OperandDue d Name refl refl) (refl, refl) l h

  -- any part of a condition, at any depth of brackets that the bytes so far have room for
  pub spells : {part : ConditionPart} {us vs : List Token} {e : Expr} → Reads part us vs e → (b : Bool) (r : Reading) (n : Names) (c : Condition) (w : List ℕ) (d : ℕ) (rest : List Token) → d ≤ length w
      → Spelt c w → Table s m.inputs 32 n (charts.asked_by e ++ rest) → (reading_from s (inside r (phase_of part b) d n c) us).fault ≡ None
      → Spells r (phase_of part b) d n c w us rest OperatorDue d (spell s m e) vs
  unfolding charts.asked_by spell
  spells (truth {t = t} {us = us} i) b r n c w d rest k g l h = constant_true r n c w rest g t us d b i l h
  spells (falsity {t = t} {us = us} i) b r n c w d rest k g l h = constant_false r n c w rest g t us d b i l h
  spells (a_name {t = t} {us = us} i) b r n c w d rest k g l h = naming r n c w rest g t us d b i l h
  spells (bracketed {o = o} {c = z} {us = us} {vs = vs} {e = e} i x j) b r n c w d rest k g l h =
      let q = spelt_length c w g in
      let f = g.few in
      spells_then (opening r n c w (charts.asked_by e ++ rest) g o us d b i (omega arith) l h)
      (λ n1 c1 l1 g1 h1. spells_then (spells x false r n1 c1 (w ++ 40 ∷ []) (suc d) rest (longer w 40 d k) g1 l1 h1)
      (λ n2 c2 l2 g2 h2. closing r n2 c2 ((w ++ 40 ∷ []) ++ spell s m e) rest g2 z vs d j l2 h2) h1) h
  spells (plain x) b r n c w d rest k g l h = spells x false r n c w d rest k g l h
  spells (negated {t = t} {us = us} {e = e} i x) b r n c w d rest k g l h =
      spells_then (negating r n c w (charts.asked_by e ++ rest) g t us d i l h)
      (λ n1 c1 l1 g1 h1. spells x true r n1 c1 (w ++ 33 ∷ []) d rest (let z = length-append w (33 ∷ []) in omega arith) g1 l1 h1) h
  spells (one-factor x) b r n c w d rest k g l h = spells x false r n c w d rest k g l h
  spells (more_factors {t = t} {vs = vs} {e = e} {f = f} x i y) b r n c w d rest k g l h =
      spells_then (spells x false r n c w d (charts.asked_by f ++ rest) k g (rw (append_assoc (charts.asked_by e) (charts.asked_by f) rest) at l) h)
      (λ n1 c1 l1 g1 h1. spells_then (joining_and r n1 c1 (w ++ spell s m e) (charts.asked_by f ++ rest) g1 t vs d i l1 h1)
      (λ n2 c2 l2 g2 h2. spells y false r n2 c2 ((w ++ spell s m e) ++ 46 ∷ []) d rest (deeper w (spell s m e) 46 d k) g2 l2 h2) h1) h
  spells (one-term x) b r n c w d rest k g l h = spells x false r n c w d rest k g l h
  spells (more_terms {t = t} {vs = vs} {e = e} {f = f} x i y) b r n c w d rest k g l h =
      spells_then (spells x false r n c w d (charts.asked_by f ++ rest) k g (rw (append_assoc (charts.asked_by e) (charts.asked_by f) rest) at l) h)
      (λ n1 c1 l1 g1 h1. spells_then (joining_or r n1 c1 (w ++ spell s m e) (charts.asked_by f ++ rest) g1 t vs d i l1 h1)
      (λ n2 c2 l2 g2 h2. spells y false r n2 c2 ((w ++ spell s m e) ++ 43 ∷ []) d rest (deeper w (spell s m e) 43 d k) g2 l2 h2) h1) h
