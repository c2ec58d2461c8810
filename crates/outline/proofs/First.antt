-- The fold's fault is a row of the table, and no row of the table comes before it: "the first faulty line, lowest number within it".
use mathlib.Core.Bool.{Bool, true, false, not, ◌&&◌, ◌||◌, false≢true}
use mathlib.Core.List.{List, [], ◌∷◌, ◌++◌}
use mathlib.Core.Path.{◌≡◌, refl, sym, ap, subst, ◌∙◌}
use Prim.Native.Nat.{ℕ, ◌-◌, ◌<◌, ◌≤◌, min}
use native.Mathlib.Omega.{arith}
use borrow.Author.Tests.{eqb-true, le-leb, leb-true, leb-false, lt-ltb}
use lib.Dec.{eqb, leb}
use lib.ListN.{length, length-append}
use Rattle.text.specs.Members.{is_among}
use Rattle.text.specs.Decimal.{decimal}
use Rattle.text.specs.Words.{has}
use Rattle.tokens.specs.declared.Token.{Token}
use Rattle.tokens.specs.Kinds.{same_kind, sign}
use Rattle.tokens.specs.declared.Kind.TheVariants.{Transition}
use Rattle.tokens.specs.Tokens.{tokens}
use Rattle.tokens.proofs.Order.{Onward, none_left, one_left}
use Rattle.naming.specs.Names.{is_declared, is_undeclared, is_first, is_driven, is_listed, is_qualifier, number_in, table_number, is_new, with_name}
use Rattle.naming.proofs.Limited.{table-over, joined_number}
use Rattle.grammar.specs.declared.Due.{Due}
use Rattle.grammar.specs.Rows.{same_phase}
use Rattle.grammar.specs.declared.Phase.TheVariants.{Outside, InitialName, Stopped}
use Rattle.std.specs.Prelude.{Option, Some, None, is_some, option_to_list}
use Rattle.std.proofs.lemmas.Option.{none-some}
use Rattle.outline.specs.declared.Cause.TheVariants.{OutsideSubset}
use Rattle.outline.specs.declared.Fault.{Fault}
use Rattle.outline.specs.declared.Reading.{Reading}
use Rattle.outline.specs.Reading.{lowest, blamed, blame, with_due, past_bound, over_by, drives_over, entered, declared, driven, listed, asked, pieced, acted, after_token, reading_from, reading_of}
use Rattle.outline.specs.Faults.{place_of, ReadToken, Reached, nothing_read, one_more, Stands, stands, Faulty, not_there, declared_twice, step-declared, step-driven, many_outputs, many_holds, many_latches, held_latched, latched_held, step-undeclared, listed_twice, step-listed, step-asked, output-asked, many_inputs, many_transitions}
use Rattle.grammar.proofs.Alike.{phase_true, phase_false}
use Rattle.outline.specs.Faults.{is_n, sign_bytes, number_of, long-name, long_sign, NoLater, entering, declaring, acting, closing, enlisting, asking, joining, variable_of, declared_names, list_names, is_one_of, transitions, step_names, input_names, output_names, is_hold, output_of, outputs_held, outputs_latched, written}
use Rattle.outline.proofs.Blame.{Covers, covers_later, Row, blamed_row, blamed_covered, blamed_covers, blamed-keeps, covers_16, covers_18}
use Rattle.outline.proofs.Phases.{and_left, and_right, inside, stopped-after}
use Rattle.outline.proofs.Places.{place_of_lem, doing, Blames, no_fault, a_fault, blames_keep, doing_fault, is-joining, is-asking}
use Rattle.outline.proofs.Words.{Holds}
use Rattle.outline.proofs.Agrees.{list_from}
use Rattle.outline.proofs.Told.{listed-is, first-is}
use Rattle.outline.proofs.Judged.{Sized, exact, past, carry, meant-judged, asked-over, asked-judged, listed-judged}
use Rattle.outline.proofs.Reached.{after, reached, there, step_is, after_is, onward-line, onward-rest, Standing, standing}
use Rattle.outline.proofs.Rows.{doing_rows}

module _ (s : List ℕ) where
  -- A token that may not stand where it stands

  stop_is : (r : Reading) (t : Token) → (there s r.due t).phase ≡ Stopped → after_token s r t ≡ blame (with_due r (there s r.due t)) t.line (Some OutsideSubset)
  unfolding after_token acted
  stop_is r t e = rw e

  -- no token takes back a fault
  step_blames : (r : Reading) (t : Token) → Blames r.fault (after_token s r t).fault
  unfolding blame
  step_blames r t = go (same_phase (there s r.due t).phase Stopped) refl
    where
      go : (x : Bool) → same_phase (there s r.due t).phase Stopped ≡ x → Blames r.fault (after_token s r t).fault
      go true e = rw (stop_is r t (phase_true _ _ e)) (a_fault t.line true false false no_fault)
      go false e =
          rw (step_is s r r.due t refl (phase_false _ _ e))
          (doing_fault s (same_phase r.due.phase InitialName) (place_of r.due.phase t.kind) (place_of_lem r.due.phase t.kind) (with_due r (there s r.due t)) t)

  -- nor do all that are left
  run-keeps : (us : List Token) (r : Reading) (l n : ℕ) → Covers r.fault l n → Covers (reading_from s r us).fault l n
  unfolding reading_from
  run-keeps [] r l n c = c
  run-keeps (t ∷ us) r l n c = run-keeps us (after_token s r t) l n (blames_keep (step_blames r t) l n c)

  -- after it every token is blamed once more, and no earlier
  stopped_rows : (us : List Token) (r : Reading) (l : ℕ) → r.due.phase ≡ Stopped → Covers r.fault l 16 → Onward l us → Row s r.fault → Row s (reading_from s r us).fault
  unfolding reading_from blame
  stopped_rows [] r l e c none_left w = w
  stopped_rows (t ∷ us) r l e c (one_left p o) w =
      let z = stopped-after r.due t.kind (is_qualifier s t) e in
      let q = stop_is r t z in
      let k = covers_later r.fault l t.line 16 16 c p (omega arith) in
      stopped_rows us (after_token s r t) t.line (rw q z) (rw q (blamed-keeps r.fault t.line (Some OutsideSubset) t.line 16 k)) o (rw q (blamed_covered s r.fault t.line OutsideSubset k w))

  module _ (us : List Token) (h : List ReadToken) (d : Due) (t : Token) (q : Reached s h d (t ∷ us)) (w : Row s (after s h).fault) where
    abbrev x : ReadToken
    x = record { place = place_of d.phase t.kind; token = t }

    -- the token at which reading stops
    stop_rows : (there s d t).phase ≡ Stopped → Row s (reading_from s (after_token s (after s h) t) us).fault
    unfolding blame
    stop_rows z =
        let g = reached s q in
        let e : (there s (after s h).due t).phase ≡ Stopped = rw g.due z in
        let k = stop_is (after s h) t e in
        stopped_rows us (after_token s (after s h) t) t.line (rw k e) (rw k (blamed_covers (after s h).fault t.line OutsideSubset)) (onward-rest g.onward)
        (rw k (blamed_row s (after s h).fault t.line OutsideSubset w (not_there q z)))

    -- a token that is read
    more_rows : (n : (there s d t).phase ≡ Stopped → ⊥) → Row s (after s (x ∷ h)).fault
    more_rows n =
        let g = reached s q in
        rw (after_is s h d t us g n)
        (doing_rows s (same_phase d.phase InitialName) h (there s d t) us (with_due (after s h) (there s d t)) t d.phase g.line g.agrees g.judged (onward-line g.onward) g.entered w
        (place_of d.phase t.kind) (place_of_lem d.phase t.kind) (one_more q n))

  -- all tokens that are left
  rows_from : (us : List Token) (h : List ReadToken) (d : Due) → Reached s h d us → Row s (after s h).fault → Row s (reading_from s (after s h) us).fault
  unfolding reading_from after
  rows_from [] h d q w = w
  rows_from (t ∷ us) h d q w = go (same_phase (there s d t).phase Stopped) refl (λ n. rows_from us (x us h d t q w ∷ h) (there s d t) (one_more q n) (more_rows us h d t q w n))
    where
      go : (b : Bool) → same_phase (there s d t).phase Stopped ≡ b → (((there s d t).phase ≡ Stopped → ⊥) → Row s (reading_from s (after_token s (after s h) t) us).fault) → Row s (reading_from s (after_token s (after s h) t) us).fault
      go true e f = stop_rows us h d t q w (phase_true _ _ e)
      go false e f = f (phase_false _ _ e)

  -- every refusal has its row
  pub fault-is : (f : Fault) → (reading_of s).fault ≡ Some f → Faulty s f.line (number_of f.cause)
  unfolding reading_of after
  fault-is = rows_from (tokens s) [] (record { phase = Outside; depth = 0 }) nothing_read (λ g e. absurd (none-some g e))

  -- what covers a row comes no later
  later : (f : Option Fault) (l n : ℕ) → n ≤ 18 → Covers f l n → NoLater f l n
  later f l n b c =
      let k = c.first in
      record { fault = c.fault; is = c.is; line = omega arith; number = λ z. omega arith }

  -- The rows, one by one: g is what stood before the token, and c what the token is.

  module _ {x : ReadToken} {h : List ReadToken} (g : Standing s x h) where
    abbrev t : Token
    t = x.token

    abbrev r : Reading
    r = g.before

    -- the fault after the token, if it is c
    abbrev fault_of : ℕ → Option Fault
    fault_of c = (doing s g.initial c r t).fault

    -- 16, "an earlier (INITIAL_)STEP has it"
    first-declared : is_first s t ≡ false → Covers (fault_of declaring) t.line 16
    unfolding declared blame
    first-declared z = covers_16 r.fault t.line (not (is_first s t)) false (past_bound s 30 r.known.steps t) (rw z)

    many_steps : 30 ≤ number_in s t (step_names s h) → past_bound s 30 r.known.steps t ≡ true
    many_steps z = table-over s 30 (step_names s h) r.known.steps g.agrees.tables.steps t ∙ le-leb 30 _ z

    -- 18, "the 31st step name to appear"
    many_declared : 30 ≤ number_in s t (step_names s h) → Covers (fault_of declaring) t.line 18
    unfolding declared blame
    many_declared z = covers_18 r.fault t.line (not (is_first s t)) false (past_bound s 30 r.known.steps t) (many_steps z)

    many_listed : 30 ≤ number_in s t (step_names s h) → Covers (fault_of enlisting) t.line 18
    unfolding listed blame
    many_listed z =
        covers_18 r.fault t.line (is_listed s r.part.start t) (is_new s r.known.steps t && is_undeclared s t) (past_bound s 30 r.known.steps t) (many_steps z)

    -- 16, "already in this very list"
    first-listed : is_listed s (list_from h) t ≡ true → Covers (fault_of enlisting) t.line 16
    unfolding listed blame
    first-listed z =
        covers_16 r.fault t.line (is_listed s r.part.start t) (is_new s r.known.steps t && is_undeclared s t) (past_bound s 30 r.known.steps t)
        (ap (λ (a : ℕ). is_listed s a t) g.agrees.parts.start ∙ z)

    -- an action's four limits
    abbrev v : Token
    v = r.part.variable

    abbrev o : ℕ
    o = table_number s (with_name 32 s r.known.outputs v) v

    number_is : number_in s v (output_names s h) ≡ output_of s h
    number_is = ap (λ (u : Token). number_in s u (output_names s h)) g.agrees.parts.variable

    o_is : o ≡ min 32 (output_of s h)
    o_is = joined_number s 32 (output_names s h) r.known.outputs v g.agrees.tables.outputs (omega arith) ∙ ap (min 32) number_is

    over-is : past_bound s 32 r.known.outputs v ≡ leb 32 (output_of s h)
    over-is = table-over s 32 (output_names s h) r.known.outputs g.agrees.tables.outputs v ∙ ap (leb 32) number_is

    hold-is : (b : Bool) → is_hold s h ≡ b → is_n r.part.qualifier ≡ b
    hold-is b e = ap is_n g.agrees.parts.qualifier ∙ e

    -- an action's fault, at its variable's line
    closing_covers : (past_bound s 32 r.known.outputs v || drives_over r.made (is_n r.part.qualifier) o) ≡ true → Covers (fault_of closing) (variable_of h).line 18
    unfolding driven blame
    closing_covers z =
        subst (λ (u : Token). Covers (fault_of closing) u.line 18) g.agrees.parts.variable
        (covers_18 r.fault v.line false false (past_bound s 32 r.known.outputs v || drives_over r.made (is_n r.part.qualifier) o) z)

    or_second : (x y : Bool) → y ≡ true → (x || y) ≡ true
    or_second true y e = refl
    or_second false y e = e

    -- 18, "the 33rd output"
    many_driven : 32 ≤ output_of s h → Covers (fault_of closing) (variable_of h).line 18
    many_driven z = closing_covers (rw (over-is, le-leb 32 (output_of s h) z))

    -- a limit of the qualifier's side
    drives_covers : drives_over r.made (is_n r.part.qualifier) o ≡ true → Covers (fault_of closing) (variable_of h).line 18
    drives_covers z = closing_covers (or_second (past_bound s 32 r.known.outputs v) (drives_over r.made (is_n r.part.qualifier) o) z)

    -- 18, "the 65th N action"
    many_held : is_hold s h ≡ true → 64 ≤ length (outputs_held s h) → Covers (fault_of closing) (variable_of h).line 18
    many_held e z =
        let a = g.agrees.counts.holds in
        drives_covers (rw (hold-is true e) (or_second (has r.made.latched o) (leb 64 r.made.holds) (le-leb 64 r.made.holds (omega arith))))

    -- 18, "the 65th S or R action"
    many_latched : is_hold s h ≡ false → 64 ≤ length (outputs_latched s h) → Covers (fault_of closing) (variable_of h).line 18
    many_latched e z =
        let a = g.agrees.counts.latches in
        drives_covers (rw (hold-is false e) (or_second (has r.made.held o) (leb 64 r.made.latches) (le-leb 64 r.made.latches (omega arith))))

    -- an output of both sides: it has a number that the words know, or there are too many
    has_both : (w : ℕ) (l : List ℕ) → Holds w l → is_among (output_of s h) l ≡ true
        → (has w o ≡ true → Covers (fault_of closing) (variable_of h).line 18) → Covers (fault_of closing) (variable_of h).line 18
    has_both w l k z f = go (leb 32 (output_of s h)) refl
      where
        go : (b : Bool) → leb 32 (output_of s h) ≡ b → Covers (fault_of closing) (variable_of h).line 18
        go true u = many_driven (leb-true 32 _ u)
        go false u =
            let a = leb-false 32 (output_of s h) u in
            let b = o_is in
            let c : o ≡ output_of s h = omega arith in
            f (k o (omega arith) ∙ ap (λ (n : ℕ). is_among n l) c ∙ z)

    or_first : (x y : Bool) → x ≡ true → (x || y) ≡ true
    or_first x y e = rw e

    -- 18, "it makes an output have N and S or R"
    held_both : is_hold s h ≡ true → is_among (output_of s h) (outputs_latched s h) ≡ true → Covers (fault_of closing) (variable_of h).line 18
    held_both e z =
        has_both r.made.latched (outputs_latched s h) g.agrees.counts.latched z
        (λ k. drives_covers (rw (hold-is true e) (or_first (has r.made.latched o) (leb 64 r.made.holds) k)))

    latched-both : is_hold s h ≡ false → is_among (output_of s h) (outputs_held s h) ≡ true → Covers (fault_of closing) (variable_of h).line 18
    latched-both e z =
        has_both r.made.held (outputs_held s h) g.agrees.counts.held z
        (λ k. drives_covers (rw (hold-is false e) (or_first (has r.made.held o) (leb 64 r.made.latches) k)))

    -- the 65th TRANSITION: outside of all transitions, those entered are those ended
    many_entered : x.place ≡ entering → 64 ≤ transitions h → Covers (fault_of entering) t.line 18
    unfolding entered blame
    many_entered e z =
        let a : (eqb (inside g.phase) 0 && same_kind t.kind Transition) ≡ true =
        ap (λ (c : ℕ). not (eqb c entering) || (eqb (inside g.phase) 0 && same_kind t.kind Transition)) (sym e) ∙ g.entering in
        let b = eqb-true (inside g.phase) 0 (and_left (eqb (inside g.phase) 0) (same_kind t.kind Transition) a) in
        let c = g.entered in
        let d = g.agrees.counts.moves in
        covers_18 r.fault t.line false false (same_kind t.kind Transition && leb 64 r.made.moves)
        (rw (and_right (eqb (inside g.phase) 0) (same_kind t.kind Transition) a, le-leb 64 r.made.moves (omega arith)))

    -- a condition past 64 bytes
    one_byte : (o : Option ℕ) → is_some o ≡ true → length (option_to_list o) ≡ 1
    one_byte None e = absurd (false≢true e)
    one_byte (Some b) e = refl

    long-joined : x.place ≡ joining → 64 < length (written s h ++ (sign_bytes t.kind)) → Covers (fault_of joining) t.line 18
    unfolding pieced blame
    long-joined k z = go g.judged.sized
      where
        has_sign : is_some (sign t.kind) ≡ true
        has_sign = ap (λ (c : ℕ). not (eqb c joining) || is_some (sign t.kind)) (sym k) ∙ g.joins

        go : Sized r.part.condition.size (length (written s h)) r.fault g.line → Covers (fault_of joining) t.line 18
        go (exact e) =
            let a = length-append (written s h) (sign_bytes t.kind) in
            let b = one_byte (sign t.kind) has_sign in
            covers_18 r.fault t.line false false (over_by r.part.condition (length (sign_bytes t.kind))) (lt-ltb (64 - r.part.condition.size) (length (sign_bytes t.kind)) (omega arith))
        go (past c) = carry s g.initial h r t g.phase g.phase g.line g.agrees g.judged g.onward (doing_fault s g.initial joining is-joining r t) 18 c

    long-asked : 64 < length (written s h ++ (105 ∷ decimal (number_in s t (input_names s h)))) → Covers (fault_of asking) t.line 18
    unfolding asked pieced blame
    long-asked z = go (leb 32 (number_in s t (input_names s h))) refl g.judged.sized
      where
        go : (b : Bool) → leb 32 (number_in s t (input_names s h)) ≡ b → Sized r.part.condition.size (length (written s h)) r.fault g.line → Covers (fault_of asking) t.line 18
        go true u y = asked-over s g.initial h r t g.phase g.phase g.line g.agrees g.judged g.onward (leb-true 32 _ u)
        go false u (exact e) =
            let i = leb-false 32 (number_in s t (input_names s h)) u in
            let c = joined_number s 32 (input_names s h) r.known.inputs t g.agrees.tables.inputs (omega arith) in
            let k : table_number s (with_name 32 s r.known.inputs t) t ≡ number_in s t (input_names s h) = omega arith in
            let a = length-append (written s h) (105 ∷ decimal (number_in s t (input_names s h))) in
            covers_18 (blamed r.fault t.line (lowest (is_new s r.known.inputs t && (is_declared s t || is_driven s t)) false (past_bound s 32 r.known.inputs t))) t.line
            false false
            (over_by r.part.condition (length (105 ∷ decimal (table_number s (with_name 32 s r.known.inputs t) t))))
            (rw k (lt-ltb (64 - r.part.condition.size) (length (105 ∷ decimal (number_in s t (input_names s h)))) (omega arith)))
        go false u (past c) = carry s g.initial h r t g.phase g.phase g.line g.agrees g.judged g.onward (doing_fault s g.initial asking is-asking r t) 18 c

    -- the names: judged here, or where they appeared first
    acted-step : is_declared s t ≡ true → Covers (fault_of acting) t.line 16
    acted-step w = meant-judged s g.initial h r t g.phase g.phase g.line g.agrees g.judged g.onward w

    listed-none : is_undeclared s t ≡ true → Covers (fault_of enlisting) t.line 17
    listed-none w = listed-judged s g.initial h r t g.phase g.phase g.line g.agrees g.judged g.onward w

    asked-step : is_declared s t ≡ true → Covers (fault_of asking) t.line 16
    asked-step w = asked-judged s g.initial h r t g.phase g.phase g.line g.agrees g.judged g.onward (or_first (is_declared s t) (is_driven s t) w)

    asked-output : is_driven s t ≡ true → Covers (fault_of asking) t.line 16
    asked-output w = asked-judged s g.initial h r t g.phase g.phase g.line g.agrees g.judged g.onward (or_second (is_declared s t) (is_driven s t) w)

    many_asked : 32 ≤ number_in s t (input_names s h) → Covers (fault_of asking) t.line 18
    many_asked w = asked-over s g.initial h r t g.phase g.phase g.line g.agrees g.judged g.onward w

  before_it : {c : ℕ} {h : List ReadToken} {t : Token} → Stands s c h t → Standing s (record { place = c; token = t }) h
  before_it (stands q) = standing s q

  -- what the fold blames once it has read a token stays
  stays : {c : ℕ} {h : List ReadToken} {t : Token} (q : Stands s c h t) (l n : ℕ) → n ≤ 18 → Covers (fault_of (before_it q) c) l n → NoLater (reading_of s).fault l n
  unfolding before_it
  stays {c} {h} {t} (stands {us = us} q) l n b k =
      later (reading_of s).fault l n b (rw (reached s q).run at (run-keeps us (after s (record { place = c; token = t } ∷ h)) l n (rw (standing s q).is k)))

  stays_stopped : {h : List ReadToken} {d : Due} {t : Token} {us : List Token} → Reached s h d (t ∷ us) → (there s d t).phase ≡ Stopped → NoLater (reading_of s).fault t.line 16
  unfolding reading_from blame
  stays_stopped {h} {d} {t} {us} q e =
      let g = reached s q in
      let k = stop_is (after s h) t (rw g.due e) in
      later (reading_of s).fault t.line 16 (omega arith)
      (rw g.run at (run-keeps us (after_token s (after s h) t) t.line 16 (rw k (blamed_covers (after s h).fault t.line OutsideSubset))))

  first_told : {h : List ReadToken} {t : Token} → Stands s declaring h t → is_first s t ≡ not (is_one_of s t (declared_names h))
  first_told (stands q) = first-is s q refl

  listed_told : {h : List ReadToken} {t : Token} → Stands s enlisting h t → is_listed s (list_from h) t ≡ is_one_of s t (list_names h)
  listed_told (stands q) = listed-is s q refl

  -- no row of the table comes before the fold's fault
  pub fault-first : (l n : ℕ) → Faulty s l n → NoLater (reading_of s).fault l n
  unfolding written
  fault-first l n (not_there q e) = stays_stopped q e
  fault-first l n (declared_twice q z) = stays q l n (omega arith) (first-declared (before_it q) (first_told q ∙ ap not z))
  fault-first l n (step-declared q z) = stays q l n (omega arith) (many_declared (before_it q) z)
  fault-first l n (step-driven q z) = stays q l n (omega arith) (acted-step (before_it q) z)
  fault-first l n (many_outputs q z) = stays q l n (omega arith) (many_driven (before_it q) z)
  fault-first l n (many_holds q u z) = stays q l n (omega arith) (many_held (before_it q) u z)
  fault-first l n (many_latches q u z) = stays q l n (omega arith) (many_latched (before_it q) u z)
  fault-first l n (held_latched q u z) = stays q l n (omega arith) (held_both (before_it q) u z)
  fault-first l n (latched_held q u z) = stays q l n (omega arith) (latched-both (before_it q) u z)
  fault-first l n (step-undeclared q z) = stays q l n (omega arith) (listed-none (before_it q) z)
  fault-first l n (listed_twice q z) = stays q l n (omega arith) (first-listed (before_it q) (listed_told q ∙ z))
  fault-first l n (step-listed q z) = stays q l n (omega arith) (many_listed (before_it q) z)
  fault-first l n (step-asked q z) = stays q l n (omega arith) (asked-step (before_it q) z)
  fault-first l n (output-asked q z) = stays q l n (omega arith) (asked-output (before_it q) z)
  fault-first l n (many_inputs q z) = stays q l n (omega arith) (many_asked (before_it q) z)
  fault-first l n (many_transitions q z) = stays q l n (omega arith) (many_entered (before_it q) refl z)
  fault-first l n (long-name q z) = stays q l n (omega arith) (long-asked (before_it q) z)
  fault-first l n (long_sign q z) = stays q l n (omega arith) (long-joined (before_it q) refl z)

  -- so the answer is the only row that no row comes before
  pub fault-only : (l n : ℕ) → Faulty s l n → ((m k : ℕ) → Faulty s m k → (l ≤ m) × (l ≡ m → n ≤ k))
      → (f : Fault) × ((reading_of s).fault ≡ Some f) × (l ≡ f.line) × (n ≡ number_of f.cause)
  fault-only l n q h =
      let a = fault-first l n q in
      let f = a.fault in
      let b = h f.line (number_of f.cause) (fault-is f a.is) in
      let c = a.line in
      let d = b.0 in
      let e : f.line ≡ l = omega arith in
      let i = a.number e in
      let j = b.1 (sym e) in
      (f, a.is, sym e, omega arith)
