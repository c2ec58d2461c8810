-- A text in which no fault is found passes the rows of the grammar: what is blamed once stays blamed.
use mathlib.Core.Bool.{Bool, true, false, cond, ◌&&◌, ◌||◌}
use mathlib.Core.List.{List, [], ◌∷◌}
use mathlib.Core.Path.{◌≡◌, refl, sym}
use Prim.Native.Nat.{ℕ}
use Rattle.tokens.specs.declared.Token.{Token}
use Rattle.tokens.specs.Kinds.{same_kind}
use Rattle.tokens.specs.declared.Kind.TheVariants.{Name, Semicolon}
use Rattle.tokens.specs.Tokens.{tokens}
use Rattle.grammar.specs.declared.Due.{Due}
use Rattle.grammar.specs.declared.Phase.{Phase}
use Rattle.grammar.specs.Rows.{in_condition, same_phase}
use Rattle.grammar.specs.declared.Phase.TheVariants.{Outside, InitialName, StepName, ActionDue, QualifierDue, CloseDue, FromDue, ToDue, AssignDue, Stopped}
use Rattle.grammar.specs.Passing.{first_due, due_after, Passes, passed, passes_on}
use Rattle.std.specs.Prelude.{Some, None}
use Rattle.outline.specs.declared.Cause.TheVariants.{OutsideSubset}
use Rattle.std.proofs.lemmas.Option.{none-some}
use Rattle.outline.specs.declared.Reading.{Reading}
use Rattle.grammar.proofs.Alike.{phase_false}
use Rattle.outline.specs.Faults.{in_lists}
use Rattle.outline.proofs.Blameless.{blameless}
use Rattle.outline.specs.Reading.{with_due, blame, listing, assigned, pieced, moved, entered, declared, meant, qualified, driven, listed, asked, stepped, headed, conditioned, acted, after_token, reading_from, nothing_known, reading_of}

-- in r' the same is due as in r, and nothing was blamed in r if nothing is in r'
record Blames (r r' : Reading) : Type 0 where
  same : r'.due ≡ r.due
  none : r'.fault ≡ None → r.fault ≡ None

blames_cond : (t : Bool) {r x y : Reading} → Blames r x → Blames r y → Blames r (cond t x y)
blames_cond true a b = a
blames_cond false a b = b

blames_not : (r : Reading) → Blames r r
blames_not r = record { same = refl; none = λ h. h }

module _ (r : Reading) (t : Token) where
  blames_entered : Blames r (entered r t)
  unfolding entered blame
  blames_entered = record { same = refl; none = λ h. (blameless _ _ _ h).before }

  blames_listing : Blames r (listing r t)
  unfolding listing
  blames_listing = record { same = refl; none = λ h. h }

  blames_assigned : Blames r (assigned r)
  unfolding assigned
  blames_assigned = record { same = refl; none = λ h. h }

  blames_moved : Blames r (moved r)
  unfolding moved
  blames_moved = record { same = refl; none = λ h. h }

  blames_pieced : (l : ℕ) (bytes : List ℕ) → Blames r (pieced r l bytes)
  unfolding pieced blame
  blames_pieced l bytes = record { same = refl; none = λ h. (blameless _ _ _ h).before }

module _ (s : List ℕ) (r : Reading) (t : Token) where
  blames_declared : (initial : Bool) → Blames r (declared s initial r t)
  unfolding declared blame
  blames_declared initial = record { same = refl; none = λ h. (blameless _ _ _ h).before }

  blames_meant : Blames r (meant s r t)
  unfolding meant blame
  blames_meant = record { same = refl; none = λ h. (blameless _ _ _ h).before }

  blames_qualified : Blames r (qualified s r t)
  unfolding qualified
  blames_qualified = record { same = refl; none = λ h. h }

  blames_driven : Blames r (driven s r)
  unfolding driven blame
  blames_driven = record { same = refl; none = λ h. (blameless _ _ _ h).before }

  blames_listed : Blames r (listed s r t)
  unfolding listed blame
  blames_listed = record { same = refl; none = λ h. (blameless _ _ _ h).before }

  blames_asked : Blames r (asked s r t)
  unfolding asked pieced blame
  blames_asked = record { same = refl; none = λ h. (blameless _ _ _ (blameless _ _ _ h).before).before }

  blames_stepped : (p : Phase) → Blames r (stepped s p r t)
  unfolding stepped
  blames_stepped p =
      blames_cond (same_phase p Outside) (blames_entered r t)
      (blames_cond (same_phase p InitialName) (blames_declared true)
      (blames_cond (same_phase p StepName) (blames_declared false)
      (blames_cond (same_phase p ActionDue && same_kind t.kind Name) blames_meant
      (blames_cond (same_phase p QualifierDue) blames_qualified
      (blames_cond (same_phase p CloseDue) blames_driven (blames_not r))))))

  blames_headed : (p : Phase) → Blames r (headed s p r t)
  unfolding headed
  blames_headed p =
      blames_cond (same_phase p FromDue || same_phase p ToDue) (blames_listing r t)
      (blames_cond (same_phase p AssignDue) (blames_assigned r t) (blames_cond (same_kind t.kind Name) blames_listed (blames_not r)))

  blames_conditioned : Blames r (conditioned s r t)
  unfolding conditioned
  blames_conditioned =
      blames_cond (same_kind t.kind Semicolon) (blames_moved r t) (blames_cond (same_kind t.kind Name) blames_asked (blames_pieced r t _ _))

-- a token where nothing is blamed after it: it is not stopped, nothing was blamed before it, and what is due follows
record Follows (s : List ℕ) (r : Reading) (t : Token) : Type 0 where
  on : (due_after s r.due t).phase ≡ Stopped → ⊥
  due : (after_token s r t).due ≡ due_after s r.due t
  none : r.fault ≡ None

step_follows : (s : List ℕ) (r : Reading) (t : Token) → (after_token s r t).fault ≡ None → Follows s r t
unfolding after_token acted blame
step_follows s r t h = go (same_phase d.phase Stopped) refl
  where
    d : Due
    d = due_after s r.due t

    q : Reading
    q = with_due r d

    p : Phase
    p = r.due.phase

    rest : Blames q (cond (in_lists p) (headed s p q t) (cond (in_condition p) (conditioned s q t) (stepped s p q t)))
    rest = blames_cond (in_lists p) (blames_headed s q t p) (blames_cond (in_condition p) (blames_conditioned s q t) (blames_stepped s q t p))

    go : (x : Bool) → same_phase d.phase Stopped ≡ x → Follows s r t
    go true e = absurd (none-some OutsideSubset (sym (blameless r.fault t.line (Some OutsideSubset) (rw e at h)).none))
    go false e = record { on = phase_false _ _ e; due = rw e rest.same; none = rest.none (rw e at h) }

-- a fault before some tokens is there after them
pub run_none : (s : List ℕ) (r : Reading) (ts : List Token) → (reading_from s r ts).fault ≡ None → r.fault ≡ None
unfolding reading_from
run_none s r [] h = h
run_none s r (t ∷ ts) h = (step_follows s r t (run_none s (after_token s r t) ts h)).none

run_passes : (s : List ℕ) (r : Reading) (ts : List Token) → (reading_from s r ts).fault ≡ None → Passes s r.due ts
unfolding reading_from
run_passes s r [] h = passed
run_passes s r (t ∷ ts) h =
    let f = step_follows s r t (run_none s (after_token s r t) ts h) in
    passes_on f.on (rw f.due at (run_passes s (after_token s r t) ts h))

-- a text without a fault passes
pub faultless_passes : (s : List ℕ) → (reading_of s).fault ≡ None → Passes s first_due (tokens s)
unfolding reading_of
faultless_passes s h = run_passes s nothing_known (tokens s) h
