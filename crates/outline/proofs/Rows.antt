-- Every fault that the fold finds is a row of the table.
use mathlib.Core.Bool.{Bool, true, false, not, ◌&&◌, ◌||◌, false≢true}
use mathlib.Core.List.{List, ◌∷◌}
use mathlib.Core.Path.{◌≡◌, refl, sym, ap, ◌∙◌}
use Prim.Native.Nat.{ℕ, ◌+◌, ◌-◌, ◌<◌, ◌≤◌, min}
use native.Mathlib.Omega.{arith}
use borrow.Author.Tests.{leb-true, leb-false, ltb-true}
use lib.Dec.{leb}
use lib.ListN.{length, length-append}
use Rattle.text.specs.Members.{is_among}
use Rattle.text.specs.Decimal.{decimal}
use Rattle.text.specs.Words.{has}
use Rattle.tokens.specs.declared.Token.{Token}
use Rattle.tokens.specs.Kinds.{same_kind}
use Rattle.tokens.specs.declared.Kind.TheVariants.{Transition}
use Rattle.naming.specs.Names.{is_declared, is_undeclared, is_first, is_driven, is_listed, number_in, table_number, is_new, with_name}
use Rattle.naming.proofs.Limited.{table-over, joined_number}
use Rattle.grammar.specs.declared.Due.{Due}
use Rattle.std.specs.Prelude.{Option}
use Rattle.outline.specs.declared.Cause.TheVariants.{Limit}
use Rattle.outline.specs.declared.Fault.{Fault}
use Rattle.outline.specs.declared.Reading.{Reading}
use Rattle.outline.specs.Reading.{lowest, blamed, blame, past_bound, over_by, drives_over, entered, declared, meant, qualified, driven, listing, assigned, listed, asked, pieced, moved}
use Rattle.outline.specs.Faults.{ReadToken, Reached, stands, Faulty, declared_twice, step-declared, step-driven, many_outputs, many_holds, many_latches, held_latched, latched_held, step-undeclared, listed_twice, step-listed, step-asked, output-asked, many_inputs, many_transitions, long-name}
use Rattle.naming.specs.declared.Qualifier.{Qualifier}
use Rattle.grammar.specs.declared.Phase.{Phase}
use Rattle.outline.specs.Faults.{is_n, sign_bytes, long_sign, entering, declaring, closing, asking, joining, variable_of, declared_names, is_one_of, transitions, step_names, input_names, output_names, qualifier_of, is_hold, output_of, outputs_held, outputs_latched, written}
use Rattle.outline.proofs.Blame.{Covers, Row, blamed_covered, lowest_row}
use Rattle.outline.proofs.Phases.{and_right, inside}
use Rattle.outline.proofs.Places.{Place, is-entering, is-declaring, is-acting, is-qualifying, is-closing, is-beginning, is-enlisting, is-assigning, is-asking, is-joining, is-ending, is-other, doing, a_fault, no_fault}
use Rattle.outline.proofs.Words.{Holds}
use Rattle.outline.proofs.Agrees.{Agrees, endings}
use Rattle.outline.proofs.Told.{listed-is, first-is}
use Rattle.outline.proofs.Judged.{Judged, Sized, exact, past, carry}

never : {A : Type 0} → false ≡ true → A
never z = absurd (false≢true z)

twice_not : (x : Bool) → not (not x) ≡ x
twice_not true = refl
twice_not false = refl

either : {A : Type 0} (x y : Bool) → (x || y) ≡ true → (x ≡ true → A) → (y ≡ true → A) → A
either true y z f g = f refl
either false y z f g = g z

module _ (s : List ℕ) (b : Bool) (h : List ReadToken) (d : Due) (us : List Token) (r : Reading) (t : Token) (p : Phase) (l : ℕ) (g : Agrees s h r.known r.made r.part)
    (j : Judged s (variable_of h) (length (written s h)) r.known r.part.condition.size r.fault p l) (m : l ≤ t.line)
    (n : transitions h ≡ endings h + inside p) (w : Row s r.fault) where
  abbrev read : ℕ → ReadToken
  read c = record { place = c; token = t }

  -- TRANSITION
  entering_row : Reached s (read entering ∷ h) d us → (same_kind t.kind Transition && leb 64 r.made.moves) ≡ true → Faulty s t.line 18
  entering_row y z =
      let a = leb-true 64 r.made.moves (and_right (same_kind t.kind Transition) (leb 64 r.made.moves) z) in
      let e = g.counts.moves in
      many_transitions (stands y) (omega arith)

  -- a name that is declared elsewhere first was declared before
  twice : Reached s (read declaring ∷ h) d us → not (is_first s t) ≡ true → is_one_of s t (declared_names h) ≡ true
  twice y z = sym (twice_not (is_one_of s t (declared_names h))) ∙ sym (ap not (first-is s y refl)) ∙ z

  -- a name that finds no room
  steps-over : past_bound s 30 r.known.steps t ≡ true → 30 ≤ number_in s t (step_names s h)
  steps-over z = leb-true 30 _ (sym (table-over s 30 (step_names s h) r.known.steps g.tables.steps t) ∙ z)

  inputs-over : past_bound s 32 r.known.inputs t ≡ true → 32 ≤ number_in s t (input_names s h)
  inputs-over z = leb-true 32 _ (sym (table-over s 32 (input_names s h) r.known.inputs g.tables.inputs t) ∙ z)

  -- a variable that is a step or an output
  asked_row : Reached s (read asking ∷ h) d us → (x y : Bool) → is_declared s t ≡ x → is_driven s t ≡ y → (x || y) ≡ true → Faulty s t.line 16
  asked_row q true y e f z = step-asked (stands q) e
  asked_row q false true e f z = output-asked (stands q) f
  asked_row q false false e f z = never z

  -- an action's faults
  closing_row : Reached s (read closing ∷ h) d us → (v : Token) (q : Option Qualifier) → v ≡ variable_of h → q ≡ qualifier_of s h
      → (past_bound s 32 r.known.outputs v || drives_over r.made (is_n q) (table_number s (with_name 32 s r.known.outputs v) v)) ≡ true → Faulty s v.line 18
  closing_row y v q e f z =
      rw e (go (leb 32 (output_of s h)) refl (is_hold s h) refl (rw (e, f, table-over s 32 (output_names s h) r.known.outputs g.tables.outputs (variable_of h)) at z))
    where
      number : table_number s (with_name 32 s r.known.outputs (variable_of h)) (variable_of h) ≡ min 32 (output_of s h)
      number = joined_number s 32 (output_names s h) r.known.outputs (variable_of h) g.tables.outputs (omega arith)

      has_it : (w o : ℕ) (a : List ℕ) → Holds w a → o ≡ min 32 (output_of s h) → output_of s h < 32 → has w o ≡ true → is_among (output_of s h) a ≡ true
      has_it w o a i e k z = let e' : o ≡ output_of s h = omega arith in ap (λ (n : ℕ). is_among n a) (sym e') ∙ sym (i o (omega arith)) ∙ z

      go : (x : Bool) → leb 32 (output_of s h) ≡ x → (i : Bool) → is_hold s h ≡ i
          → (x || drives_over r.made i (table_number s (with_name 32 s r.known.outputs (variable_of h)) (variable_of h))) ≡ true → Faulty s (variable_of h).line 18
      go true u i c z = many_outputs (stands y) (leb-true 32 _ u)
      go false u true c z =
          either (has r.made.latched (table_number s (with_name 32 s r.known.outputs (variable_of h)) (variable_of h))) (leb 64 r.made.holds) z
          (λ k. held_latched (stands y) c (has_it r.made.latched _ (outputs_latched s h) g.counts.latched number (leb-false 32 _ u) k))
          (λ k. let a = leb-true 64 r.made.holds k in let e = g.counts.holds in many_holds (stands y) c (omega arith))
      go false u false c z =
          either (has r.made.held (table_number s (with_name 32 s r.known.outputs (variable_of h)) (variable_of h))) (leb 64 r.made.latches) z
          (λ k. latched_held (stands y) c (has_it r.made.held _ (outputs_held s h) g.counts.held number (leb-false 32 _ u) k))
          (λ k. let a = leb-true 64 r.made.latches k in let e = g.counts.latches in many_latches (stands y) c (omega arith))

  -- a condition's bytes
  joining_row : Reached s (read joining ∷ h) d us → r.part.condition.size ≡ min 64 (length (written s h)) → over_by r.part.condition (length (sign_bytes t.kind)) ≡ true → Faulty s t.line 18
  unfolding written
  joining_row y e z =
      let a = ltb-true (64 - r.part.condition.size) (length (sign_bytes t.kind)) z in
      let b = length-append (written s h) (sign_bytes t.kind) in
      long_sign (stands y) (omega arith)

  asking_row : Reached s (read asking ∷ h) d us → r.part.condition.size ≡ min 64 (length (written s h))
      → over_by r.part.condition (length (105 ∷ decimal (table_number s (with_name 32 s r.known.inputs t) t))) ≡ true → Faulty s t.line 18
  unfolding written
  asking_row y e z = go (leb 32 (number_in s t (input_names s h))) refl
    where
      go : (x : Bool) → leb 32 (number_in s t (input_names s h)) ≡ x → Faulty s t.line 18
      go true u = many_inputs (stands y) (leb-true 32 _ u)
      go false u =
          let i = leb-false 32 (number_in s t (input_names s h)) u in
          let c = joined_number s 32 (input_names s h) r.known.inputs t g.tables.inputs (omega arith) in
          let k : table_number s (with_name 32 s r.known.inputs t) t ≡ number_in s t (input_names s h) = omega arith in
          let a = ltb-true (64 - r.part.condition.size) (length (105 ∷ decimal (number_in s t (input_names s h)))) (rw k at z) in
          let b = length-append (written s h) (105 ∷ decimal (number_in s t (input_names s h))) in
          long-name (stands y) (omega arith)

  -- a fault of a condition's size, where it is counted; else an earlier fault comes no later
  size_row : (f : Option Fault) → Row s f → (Covers r.fault l 18 → Covers f t.line 18) → (x : Bool)
      → (r.part.condition.size ≡ min 64 (length (written s h)) → x ≡ true → Faulty s t.line 18) → Row s (blamed f t.line (lowest false false x))
  size_row f v q x y = go j.sized
    where
      go : Sized r.part.condition.size (length (written s h)) r.fault l → Row s (blamed f t.line (lowest false false x))
      go (exact e) = lowest_row s f t.line false false x v never never (y e)
      go (past c) = all x
        where
          all : (x : Bool) → Row s (blamed f t.line (lowest false false x))
          all true = blamed_covered s f t.line Limit (q c) v
          all false = unfold blamed in v

  -- every fault of a token is a row
  pub doing_rows : (c : ℕ) → Place c → Reached s (read c ∷ h) d us → Row s (doing s b c r t).fault
  unfolding entered declared meant qualified driven listing listed assigned asked pieced moved blame
  doing_rows c is-entering y = lowest_row s r.fault t.line false false (same_kind t.kind Transition && leb 64 r.made.moves) w never never (entering_row y)
  doing_rows c is-declaring y =
      lowest_row s r.fault t.line (not (is_first s t)) false (past_bound s 30 r.known.steps t) w
      (λ z. declared_twice (stands y) (twice y z)) never (λ z. step-declared (stands y) (steps-over z))
  doing_rows c is-acting y =
      lowest_row s r.fault t.line (is_new s r.known.outputs t && is_declared s t) false false w
      (λ z. step-driven (stands y) (and_right (is_new s r.known.outputs t) (is_declared s t) z)) never never
  doing_rows c is-qualifying y = w
  doing_rows c is-closing y =
      lowest_row s r.fault r.part.variable.line false false
      (past_bound s 32 r.known.outputs r.part.variable
      || drives_over r.made (is_n r.part.qualifier) (table_number s (with_name 32 s r.known.outputs r.part.variable) r.part.variable))
      w never never (closing_row y r.part.variable r.part.qualifier g.parts.variable g.parts.qualifier)
  doing_rows c is-beginning y = w
  doing_rows c is-enlisting y =
      lowest_row s r.fault t.line (is_listed s r.part.start t) (is_new s r.known.steps t && is_undeclared s t) (past_bound s 30 r.known.steps t) w
      (λ z. listed_twice (stands y) (sym (listed-is s y refl) ∙ ap (λ (a : ℕ). is_listed s a t) (sym g.parts.start) ∙ z))
      (λ z. step-undeclared (stands y) (and_right (is_new s r.known.steps t) (is_undeclared s t) z))
      (λ z. step-listed (stands y) (steps-over z))
  doing_rows c is-assigning y = w
  doing_rows c is-asking y =
      let a = is_new s r.known.inputs t && (is_declared s t || is_driven s t) in
      let o = past_bound s 32 r.known.inputs t in
      size_row (blamed r.fault t.line (lowest a false o))
      (lowest_row s r.fault t.line a false o w
      (λ z. asked_row y (is_declared s t) (is_driven s t) refl refl (and_right (is_new s r.known.inputs t) (is_declared s t || is_driven s t) z)) never (λ z. many_inputs (stands y) (inputs-over z)))
      (λ c. carry s b h r t p p l g j m (a_fault t.line a false o no_fault) 18 c)
      (over_by r.part.condition (length (105 ∷ decimal (table_number s (with_name 32 s r.known.inputs t) t)))) (asking_row y)
  doing_rows c is-joining y =
      size_row r.fault w (λ c. carry s b h r t p p l g j m no_fault 18 c) (over_by r.part.condition (length (sign_bytes t.kind))) (joining_row y)
  doing_rows c is-ending y = w
  doing_rows c is-other y = w
