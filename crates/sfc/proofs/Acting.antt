-- An action of the grammar, read by the code's fold: its variable is joined to the outputs, and its line is made.
use mathlib.Core.Bool.{Bool, true, false, ◌&&◌}
use mathlib.Core.List.{List, [], ◌∷◌}
use mathlib.Core.Path.{◌≡◌, refl, sym, ap, ◌∙◌}
use Prim.Native.Nat.{ℕ, ◌<◌}
use native.Mathlib.Omega.{arith}
use Rattle.std.specs.Prelude.{Option, Some, None, is_some}
use Rattle.line.specs.Write.{Line, hold', latch'}
use Rattle.tokens.specs.declared.Token.{Token}
use Rattle.tokens.specs.declared.Kind.{Kind}
use Rattle.tokens.specs.Kinds.{same_kind}
use Rattle.tokens.specs.declared.Kind.TheVariants.{Name, Open, Close, Semicolon}
use Rattle.naming.specs.declared.Names.{Names}
use Rattle.naming.specs.Names.{number_in, with_name, table_number, qualifier, is_qualifier}
use Rattle.naming.proofs.Tables.{Table, Joins, joins}
use Rattle.naming.specs.declared.Qualifier.{Qualifier}
use Rattle.naming.specs.declared.Qualifier.TheVariants.{N, S, R}
use Rattle.grammar.specs.Grammar.{Is, Qualifies}
use Rattle.grammar.specs.declared.Phase.{Phase}
use Rattle.grammar.specs.Rows.{follow, next_due, next_in}
use Rattle.grammar.specs.declared.Phase.TheVariants.{ActionDue, OpenDue, QualifierDue, CloseDue, SemicolonDue}
use Rattle.outline.specs.Faults.{is_n}
use Rattle.outline.specs.declared.Reading.{Reading}
use Rattle.outline.specs.declared.Made.{Made}
use Rattle.outline.specs.Reading.{reading, with_due, drives, drives_over, meant, qualified, driven, stepped, acted, after_token, reading_from}
use Rattle.outline.proofs.Steps.{due, follows, step_is, meant_fine, driven_fine}
use Rattle.writer.specs.Lines.{made}
use Rattle.writer.proofs.Goes.{Goes, goes_one, goes_then, still, first_fine}
use Rattle.sfc.specs.Chart.{Map}
use Rattle.sfc.proofs.Spelling.{none_made}

-- r among the actions of a step: what is due, the table of outputs, what was made, and the action's variable, qualifier and output
abbrev pub acting : Reading → Phase → Names → Made → Token → Option Qualifier → ℕ → Reading
acting r p n k v q o =
    reading (due p 0) r.fault (record { steps = r.known.steps; inputs = r.known.inputs; outputs = n; initial = r.known.initial }) k
    (record { step = r.part.step; variable = v; qualifier = q; output = o; start = r.part.start; listed = r.part.listed; before = r.part.before; condition = r.part.condition })

-- the line of an action of step a on output o
abbrev pub line_for : Qualifier → ℕ → ℕ → Line
line_for N a o = hold' (record { step = a; output = o; condition = 49 ∷ [] })
line_for S a o = latch' (record { step = a; activation = true; output = o; on = true })
line_for R a o = latch' (record { step = a; activation = true; output = o; on = false })

-- the line that is made where the bracket is closed
line_made : (q : Qualifier) (r : Reading) (p : Phase) (n : Names) (k : Made) (v : Token) (o : ℕ) → made (acting r SemicolonDue n k v (Some q) o) ≡ line_for q r.part.step o ∷ []
unfolding made
line_made N r p n k v o = refl
line_made S r p n k v o = refl
line_made R r p n k v o = refl

module _ (s : List ℕ) where
  -- the five tokens of an action, one by one: its variable
  variable-step : (r : Reading) (n : Names) (k : Made) (u : Token) (q : Option Qualifier) (o : ℕ) (v : Token) → Is v Name → after_token s (acting r ActionDue n k u q o) v ≡ meant s (acting r OpenDue n k u q o) v
  unfolding next_due next_in acted stepped
  variable-step r n k u q o v i = step_is s (acting r ActionDue n k u q o) v Name ActionDue 0 OpenDue 0 refl i (follows ActionDue 0 Name refl refl) ∙ rw i

  -- its bracket
  open_step : (r : Reading) (n : Names) (k : Made) (u : Token) (q : Option Qualifier) (o : ℕ) (t : Token) → Is t Open → after_token s (acting r OpenDue n k u q o) t ≡ acting r QualifierDue n k u q o
  unfolding next_due next_in acted stepped
  open_step r n k u q o t i = step_is s (acting r OpenDue n k u q o) t Open OpenDue 0 QualifierDue 0 refl i (follows OpenDue 0 Open refl refl)

  -- a qualifier's word may stand where one is due
  is-qualifier : (t : Token) (q : Qualifier) → Qualifies s t q → is_qualifier s t ≡ true
  is-qualifier t q g = ap (λ (x : Kind). same_kind x Name && is_some (qualifier s t)) g.is_name ∙ ap is_some g.is

  -- its qualifier
  qualifier-step : (r : Reading) (n : Names) (k : Made) (u : Token) (q : Option Qualifier) (o : ℕ) (t : Token) (b : Qualifier) → Qualifies s t b → after_token s (acting r QualifierDue n k u q o) t ≡ acting r CloseDue n k u (Some b) o
  unfolding after_token follow next_due next_in acted stepped qualified
  qualifier-step r n k u q o t b g =
      ap (λ (x : Bool). acted s QualifierDue (with_due (acting r QualifierDue n k u q o) (follow (due QualifierDue 0) t.kind x)) t) (is-qualifier t b g)
      ∙ ap (λ (x : Kind). acted s QualifierDue (with_due (acting r QualifierDue n k u q o) (follow (due QualifierDue 0) x true)) t) g.is_name
      ∙ ap (λ (x : Option Qualifier). acting r CloseDue n k u x o) g.is

  -- the bracket closed
  close_step : (r : Reading) (n : Names) (k : Made) (u : Token) (q : Option Qualifier) (o : ℕ) (t : Token) → Is t Close → after_token s (acting r CloseDue n k u q o) t ≡ driven s (acting r SemicolonDue n k u q o)
  unfolding next_due next_in acted stepped
  close_step r n k u q o t i = step_is s (acting r CloseDue n k u q o) t Close CloseDue 0 SemicolonDue 0 refl i (follows CloseDue 0 Close refl refl)

  -- and its end
  semicolon-step : (r : Reading) (n : Names) (k : Made) (u : Token) (q : Option Qualifier) (o : ℕ) (t : Token) → Is t Semicolon → after_token s (acting r SemicolonDue n k u q o) t ≡ acting r ActionDue n k u q o
  unfolding next_due next_in acted stepped
  semicolon-step r n k u q o t i = step_is s (acting r SemicolonDue n k u q o) t Semicolon SemicolonDue 0 ActionDue 0 refl i (follows SemicolonDue 0 Semicolon refl refl)

module _ (s : List ℕ) (m : Map) (r : Reading) (n : Names) (k : Made) (u : Token) (a : Option Qualifier) (b : ℕ) (v : Token) (q : Qualifier) where
  -- the number of the action's output
  abbrev number' : ℕ
  number' = number_in s v m.outputs

  -- what an action has done
  pub record Acts (us : List Token) (rest : List Token) (vs : List Token) : Type 0 where
    pub names : Names
    pub goes : Goes s (acting r ActionDue n k u a b) us (line_for q r.part.step number' ∷ []) (acting r ActionDue names (drives k (is_n (Some q)) number') v (Some q) number') vs
    pub table : Table s m.outputs 32 names rest
    pub apart : drives_over k (is_n (Some q)) number' ≡ false
    pub low : number' < 32

  -- the bracket is closed: the line is made
  drives_once : (c : Token) (us rest : List Token) → Is c Close → Table s m.outputs 32 n (v ∷ rest) → (reading_from s (acting r CloseDue n k v (Some q) b) (c ∷ us)).fault ≡ None
      → (Goes s (acting r CloseDue n k v (Some q) b) (c ∷ us) (line_for q r.part.step number' ∷ []) (acting r SemicolonDue (with_name 32 s n v) (drives k (is_n (Some q)) number') v (Some q) number') us)
      × (Joins s m.outputs 32 n v rest) × (drives_over k (is_n (Some q)) number' ≡ false)
  drives_once c us rest i l h =
      let p : Reading = acting r SemicolonDue n k v (Some q) b in
      let e = close_step s r n k v (Some q) b c i in
      let z = driven_fine s p (sym (ap (λ (x : Reading). x.fault) e) ∙ first_fine s (acting r CloseDue n k v (Some q) b) c us h) in
      let j = joins s m.outputs 32 n v rest (omega arith) l z.free in
      let o : ℕ = table_number s (with_name 32 s n v) v in
      let f : after_token s (acting r CloseDue n k v (Some q) b) c ≡ acting r SemicolonDue (with_name 32 s n v) (drives k (is_n (Some q)) o) v (Some q) o = e ∙ z.is in
      let g : after_token s (acting r CloseDue n k v (Some q) b) c ≡ acting r SemicolonDue (with_name 32 s n v) (drives k (is_n (Some q)) number') v (Some q) number' =
      f ∙ ap (λ (x : ℕ). acting r SemicolonDue (with_name 32 s n v) (drives k (is_n (Some q)) x) v (Some q) x) j.number in
      let d : drives_over k (is_n (Some q)) o ≡ false = z.apart in (
        goes_one s (acting r CloseDue n k v (Some q) b) (acting r SemicolonDue (with_name 32 s n v) (drives k (is_n (Some q)) number') v (Some q) number') c us (line_for q r.part.step number' ∷ []) g
            (line_made q r SemicolonDue (with_name 32 s n v) (drives k (is_n (Some q)) number') v number'),
        j,
        ap (λ (x : ℕ). drives_over k (is_n (Some q)) x) (sym j.number) ∙ d,
      )

  -- one action
  pub acts : (o w c z : Token) (us rest : List Token) → Is v Name → Is o Open → Qualifies s w q → Is c Close → Is z Semicolon → Table s m.outputs 32 n (v ∷ rest)
      → (reading_from s (acting r ActionDue n k u a b) (v ∷ o ∷ w ∷ c ∷ z ∷ us)).fault ≡ None → Acts (v ∷ o ∷ w ∷ c ∷ z ∷ us) rest us
  acts o w c z us rest i j x y d l h =
      let e = variable-step s r n k u a b v i in
      let f = meant_fine s (acting r OpenDue n k u a b) v (sym (ap (λ (x : Reading). x.fault) e) ∙ first_fine s (acting r ActionDue n k u a b) v (o ∷ w ∷ c ∷ z ∷ us) h) in
      let g1 = goes_one s (acting r ActionDue n k u a b) (acting r OpenDue n k v a b) v (o ∷ w ∷ c ∷ z ∷ us) [] (e ∙ f) (none_made (acting r OpenDue n k v a b) refl refl) in
      let g2 = goes_one s (acting r OpenDue n k v a b) (acting r QualifierDue n k v a b) o (w ∷ c ∷ z ∷ us) [] (open_step s r n k v a b o j) (none_made (acting r QualifierDue n k v a b) refl refl) in
      let g3 = goes_one s (acting r QualifierDue n k v a b) (acting r CloseDue n k v (Some q) b) w (c ∷ z ∷ us) []
      (qualifier-step s r n k v a b w q x) (none_made (acting r CloseDue n k v (Some q) b) refl refl) in
      let t = drives_once c (z ∷ us) rest y l (still s g3 (still s g2 (still s g1 h))) in
      let n' : Names = with_name 32 s n v in
      let k' : Made = drives k (is_n (Some q)) number' in
      let g5 = goes_one s (acting r SemicolonDue n' k' v (Some q) number') (acting r ActionDue n' k' v (Some q) number') z us []
      (semicolon-step s r n' k' v (Some q) number' z d) (none_made (acting r ActionDue n' k' v (Some q) number') refl refl) in
      record {
        names = n';
        goes = goes_then s g1 (goes_then s g2 (goes_then s g3 (goes_then s t.0 g5)));
        table = t.1.table;
        apart = t.2;
        low = t.1.below;
      }
