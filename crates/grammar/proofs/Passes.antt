-- The tokens of a program pass the rows, where no bracket stands deeper than the rows count.
use mathlib.Core.Bool.{Bool, true, false, not, ◌&&◌, ◌||◌, or-true}
use mathlib.Core.List.{List, [], ◌∷◌, ◌++◌}
use mathlib.Core.Path.{◌≡◌, refl, ◌∙◌}
use Prim.Native.Nat.{ℕ, ◌+◌, ◌-◌, ◌<◌, ◌≤◌}
use native.Mathlib.Omega.{arith}
use borrow.Author.Tests.{ne_eqb, lt-ltb, not-true}
use lib.ListN.{length}
use Rattle.tokens.specs.declared.Kind.{Kind}
use Rattle.tokens.specs.declared.Token.{Token}
use Rattle.tokens.specs.Tokens.{tokens}
use Rattle.tokens.proofs.Ends.{tokens_few}
use Rattle.naming.specs.Names.{is_qualifier}
use Rattle.grammar.specs.declared.Due.{Due}
use Rattle.naming.specs.declared.Qualifier.{Qualifier}
use Rattle.grammar.specs.Program.{Action, Expr, Item, Program}
use Rattle.grammar.specs.Grammar.{Is, ConditionPart, operand, factor, term, condition, Reads, truth, falsity, a_name, bracketed, plain, negated, one-factor, more_factors, one-term, more_terms, Others, last, more_names, Steps, one, several, Qualifies, Actions, no_actions, more_actions, ReadsItem, a_step, a_transition, ReadsText, the_end, more-items}
use Rattle.grammar.specs.Rows.{next_in, next_due, balanced, depth_after, follow}
use Rattle.grammar.specs.declared.Phase.{Phase}
use Rattle.grammar.proofs.Alike.{phase_false}
use Rattle.grammar.specs.declared.Phase.TheVariants.{ActionDue, QualifierDue, CloseDue, BeforeDue, BeforeName, ToDue, AfterDue, AfterName, AssignDue, OperandDue, PlainDue, OperatorDue, Stopped}
use Rattle.grammar.specs.Rows.{same_phase}
use Rattle.grammar.specs.Passing.{due, due_after, first_due, Passes, passed, passes_on}
use Rattle.grammar.proofs.Sound.{both_true}
use Rattle.grammar.proofs.Lengths.{reads_past, steps_past, item_past}
use Rattle.tokens.specs.declared.Kind.TheVariants.{Name}

-- what is due after a token that may stand
pub follow-on : (d : Due) (k : Kind) (q : Bool) → balanced d k ≡ true → (q || not (same_phase d.phase QualifierDue)) ≡ true → follow d k q ≡ due (next_due d.phase k) (depth_after d k)
unfolding follow
follow-on d k q b h = rw (b, h)

-- a kind that the rows have where p is due, other than a qualifier
abbrev allows : Phase → ℕ → Kind → Bool
allows p d j = balanced (due p d) j && (not (same_phase (next_due p j) Stopped) && not (same_phase p QualifierDue))

module _ (s : List ℕ) where
  -- a token of a kind that the rows have there passes, if it is a qualifier where one is due
  pass_as : (p : Phase) (d : ℕ) (j : Kind) {t : Token} {us : List Token} → Is t j → balanced (due p d) j ≡ true → not (same_phase (next_due p j) Stopped) ≡ true → (is_qualifier s t || not (same_phase p QualifierDue)) ≡ true
      → Passes s (due (next_due p j) (depth_after (due p d) j)) us → Passes s (due p d) (t ∷ us)
  pass_as p d j {t} {us} h b o q y =
      let e : follow (due p d) t.kind (is_qualifier s t) ≡ due (next_due p j) (depth_after (due p d) j) = follow-on (due p d) t.kind (is_qualifier s t) (rw h b) q ∙ rw h in
      passes_on {d = due p d} {t = t} {us = us} (rw e (phase_false (next_due p j) Stopped (not-true _ o))) (rw e y)

  -- where none is due
  pass : {p : Phase} {d : ℕ} {j : Kind} {t : Token} {us : List Token} → Is t j → allows p d j ≡ true → Passes s (due (next_due p j) (depth_after (due p d) j)) us → Passes s (due p d) (t ∷ us)
  pass {p} {d} {j} {t} h a y =
      let x = both_true _ _ a in
      let z = both_true _ _ x.1 in
      pass_as p d j h x.0 z.0 (rw z.1 (or-true (is_qualifier s t))) y

  -- a qualifier passes
  pass_qualifier : {t : Token} {q : Qualifier} {us : List Token} → Qualifies s t q → Passes s (due CloseDue 0) us → Passes s (due QualifierDue 0) (t ∷ us)
  unfolding next_due next_in
  pass_qualifier {q = q} h y = pass_as QualifierDue 0 Name h.is_name refl refl (rw (h.is, h.is_name)) y

  -- Conditions

  -- a part may be entered where an operand is due, and an operand also after NOT
  abbrev Enters : ConditionPart → ℕ → List Token → Type 0
  Enters operand d us = Passes s (due OperandDue d) us × Passes s (due PlainDue d) us
  Enters factor d us = Passes s (due OperandDue d) us
  Enters term d us = Passes s (due OperandDue d) us
  Enters condition d us = Passes s (due OperandDue d) us

  -- a part of a condition passes, if what follows it does
  reads_pass : {p : ConditionPart} {us vs : List Token} {e : Expr} → Reads p us vs e → (d : ℕ) → d + length us ≤ 16777216 → Passes s (due OperatorDue d) vs → Enters p d us
  unfolding next_due next_in
  reads_pass (truth h) d b y = (pass h refl y, pass h refl y)
  reads_pass (falsity h) d b y = (pass h refl y, pass h refl y)
  reads_pass (a_name h) d b y = (pass h refl y, pass h refl y)
  reads_pass (bracketed {us = us} h r k) d b y =
      let z : d + 1 - 1 ≡ d = omega arith in
      let x : Passes s (due OperandDue (d + 1)) us = reads_pass r (d + 1) (omega arith) (pass k (rw (ne_eqb (d + 1) 0 (λ e. omega arith))) (rw z y)) in
      (pass h refl (rw (lt-ltb d 16777216 (omega arith)) x), pass h refl (rw (lt-ltb d 16777216 (omega arith)) x))
  reads_pass (plain r) d b y = (reads_pass r d b y).0
  reads_pass (negated h r) d b y = pass h refl (reads_pass r d (omega arith) y).1
  reads_pass (one-factor r) d b y = reads_pass r d b y
  reads_pass (more_factors r h q) d b y =
      let i = reads_past r in
      reads_pass r d b (pass h refl (reads_pass q d (omega arith) y))
  reads_pass (one-term r) d b y = reads_pass r d b y
  reads_pass (more_terms r h q) d b y =
      let i = reads_past r in
      reads_pass r d b (pass h refl (reads_pass q d (omega arith) y))

  -- Lists of steps

  others-before : {us vs ns : List Token} → Others us vs ns → Passes s (due ToDue 0) vs → Passes s (due BeforeName 0) us
  unfolding next_due next_in
  others-before (last h k) y = pass h refl (pass k refl y)
  others-before (more_names h k r) y = pass h refl (pass k refl (others-before r y))

  steps-before : {us vs ns : List Token} → Steps us vs ns → Passes s (due ToDue 0) vs → Passes s (due BeforeDue 0) us
  unfolding next_due next_in
  steps-before (one h) y = pass h refl y
  steps-before (several h k l r) y = pass h refl (pass k refl (pass l refl (others-before r y)))

  others-after : {us vs ns : List Token} → Others us vs ns → Passes s (due AssignDue 0) vs → Passes s (due AfterName 0) us
  unfolding next_due next_in
  others-after (last h k) y = pass h refl (pass k refl y)
  others-after (more_names h k r) y = pass h refl (pass k refl (others-after r y))

  steps-after : {us vs ns : List Token} → Steps us vs ns → Passes s (due AssignDue 0) vs → Passes s (due AfterDue 0) us
  unfolding next_due next_in
  steps-after (one h) y = pass h refl y
  steps-after (several h k l r) y = pass h refl (pass k refl (pass l refl (others-after r y)))

  -- Steps and transitions

  actions_pass : {us vs : List Token} {acts : List Action} → Actions s us vs acts → Passes s (due ActionDue 0) vs → Passes s (due ActionDue 0) us
  unfolding next_due next_in
  actions_pass no_actions y = y
  actions_pass (more_actions v o w c z r) y =
      pass v refl (pass o refl (pass_qualifier w (pass c refl (pass z refl (actions_pass r y)))))

  item_passes : {us vs : List Token} {i : Item} → ReadsItem s us vs i → length us ≤ 16777216 → Passes s first_due vs → Passes s first_due us
  unfolding next_due next_in
  item_passes (a_step true k n c r e) b y =
      pass k refl (pass n refl (pass c refl (actions_pass r (pass e refl y))))
  item_passes (a_step false k n c r e) b y =
      pass k refl (pass n refl (pass c refl (actions_pass r (pass e refl y))))
  item_passes (a_transition k f p t q a c z e) b y =
      let i = steps_past p in
      let j = steps_past q in
      let x = reads_pass c 0 (omega arith) (pass z refl (pass e refl y)) in
      pass k refl (pass f refl (steps-before p (pass t refl (steps-after q (pass a refl x)))))

-- the tokens of a program pass, if they are not too many
pub program_passes : (s : List ℕ) {us : List Token} {p : Program} → length us ≤ 16777216 → ReadsText s us p → Passes s first_due us
unfolding next_due next_in
program_passes s b (the_end h) = pass s h refl passed
program_passes s b (more-items r q) = let i = item_past s r in item_passes s r b (program_passes s (omega arith) q)

-- a text that is a program's passes
pub text_passes : (s : List ℕ) (p : Program) → length s < 16777216 → ReadsText s (tokens s) p → Passes s first_due (tokens s)
text_passes s p b r = let i = tokens_few s in program_passes s (omega arith) r

-- A token that may not stand where it stands, by the rows, stands there in no program: what begins with the tokens up to it is of no program

passes_front : (s : List ℕ) (d : Due) (us vs : List Token) → Passes s d (us ++ vs) → Passes s d us
passes_front s d [] vs h = passed
passes_front s d (t ∷ us) vs (passes_on k h) = passes_on k (passes_front s (due_after s d t) us vs h)

pub no_program : (s : List ℕ) (us vs : List Token) (p : Program) → length (us ++ vs) ≤ 16777216 → (Passes s first_due us → ⊥) → ReadsText s (us ++ vs) p → ⊥
no_program s us vs p l h r = h (passes_front s first_due us vs (program_passes s l r))
