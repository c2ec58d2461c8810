-- What all rows of the grammar keep: a test on rows, checked row by row, holds of every token that may stand where it stands.
use mathlib.Core.Bool.{Bool, true, false, cond, not, ◌&&◌, ◌||◌, false≢true}
use mathlib.Core.List.{List, [], ◌∷◌}
use mathlib.Core.Path.{◌≡◌, refl}
use Prim.Native.Nat.{ℕ, ◌+◌}
use borrow.Author.Tests.{eqb-true}
use lib.Dec.{eqb}
use Rattle.std.specs.Prelude.{is_some}
use Rattle.tokens.specs.declared.Kind.{Kind}
use Rattle.tokens.specs.Kinds.{same_kind, sign}
use Rattle.tokens.specs.declared.Kind.TheVariants.{Transition, Name}
use Rattle.naming.specs.Names.{begins_step}
use Rattle.grammar.specs.declared.Due.{Due}
use Rattle.grammar.specs.declared.Phase.{Phase}
use Rattle.grammar.specs.Rows.{rows, next_in, next_due, balanced, depth_after, follow, in_condition, same_phase}
use Rattle.grammar.proofs.Alike.{phase_true, phase_false}
use Rattle.tokens.proofs.Alike.{kind_true}
use Rattle.grammar.specs.declared.Phase.TheVariants.{FromDue, ToDue, AssignDue, InitialName, StepName, OpenDue, QualifierDue, CloseDue, Stopped}
use Rattle.outline.specs.Faults.{in_lists, place_of, entering, declaring, acting, closing, beginning, enlisting, joining, ending}

-- a test on what is due, a kind and what is due then, at all rows
unfoldable all_rows : (Phase → Kind → Phase → Bool) → List (Phase × Kind × Phase) → Bool
all_rows f [] = true
all_rows f (r ∷ rs) = f r.0 r.1 r.2 && all_rows f rs

pub and_left : (x y : Bool) → (x && y) ≡ true → x ≡ true
and_left true y h = refl
and_left false y h = h

pub and_right : (x y : Bool) → (x && y) ≡ true → y ≡ true
and_right true y h = h
and_right false y h = absurd (false≢true h)

module _ (f : Phase → Kind → Phase → Bool) where
  in_rows : (rs : List (Phase × Kind × Phase)) (p : Phase) (k : Kind) → all_rows f rs ≡ true → (next_in rs p k ≡ Stopped → ⊥) → f p k (next_in rs p k) ≡ true
  unfolding all_rows next_in
  in_rows [] p k a h = absurd (h refl)
  in_rows (r ∷ rs) p k a h = go (same_phase r.0 p) refl (same_kind r.1 k) refl h (λ e. in_rows rs p k (and_right (f r.0 r.1 r.2) (all_rows f rs) a) e)
    where
      go : (x : Bool) → same_phase r.0 p ≡ x → (y : Bool) → same_kind r.1 k ≡ y → (cond (x && y) r.2 (next_in rs p k) ≡ Stopped → ⊥)
          → ((next_in rs p k ≡ Stopped → ⊥) → f p k (next_in rs p k) ≡ true) → f p k (cond (x && y) r.2 (next_in rs p k)) ≡ true
      go true d true e i w = rw (← phase_true r.0 p d, ← kind_true r.1 k e) (and_left (f r.0 r.1 r.2) (all_rows f rs) a)
      go true d false e i w = w i
      go false d y e i w = w i

  -- it holds of a token that may stand where it stands
  followed : all_rows f rows ≡ true → (d : Due) (k : Kind) (q : Bool) → ((follow d k q).phase ≡ Stopped → ⊥) → f d.phase k (follow d k q).phase ≡ true
  unfolding follow next_due
  followed a d k q h = go (balanced d k && (q || not (same_phase d.phase QualifierDue))) h
    where
      go : (x : Bool) → ((cond {A = Due} x (record { phase = next_due d.phase k; depth = depth_after d k }) (record { phase = Stopped; depth = 0 })).phase ≡ Stopped → ⊥)
          → f d.phase k (cond {A = Due} x (record { phase = next_due d.phase k; depth = depth_after d k }) (record { phase = Stopped; depth = 0 })).phase ≡ true
      go true i = in_rows rows d.phase k a i
      go false i = absurd (i refl)

-- 1 within a transition, up to the `;` after its condition
abbrev pub inside : Phase → ℕ
inside p = cond (in_lists p || in_condition p) 1 0

abbrev pub one : Bool → ℕ
one b = cond b 1 0

-- TRANSITION leads inside, and only the `;` leads out
pub inside-after : (d : Due) (k : Kind) (q : Bool) → ((follow d k q).phase ≡ Stopped → ⊥)
    → inside (follow d k q).phase + one (eqb (place_of d.phase k) ending) ≡ inside d.phase + one (eqb (place_of d.phase k) entering)
unfolding all_rows place_of
inside-after d k q h =
    eqb-true _ _ (followed (λ p k n. eqb (inside n + one (eqb (place_of p k) ending)) (inside p + one (eqb (place_of p k) entering))) refl d k q h)

-- between an action's variable and its `)`
abbrev pub in_action : Phase → Bool
in_action OpenDue = true
in_action QualifierDue = true
in_action CloseDue = true
in_action _ = false

-- only a variable leads there
pub action_after : (d : Due) (k : Kind) (q : Bool) → ((follow d k q).phase ≡ Stopped → ⊥)
    → (not (in_action (follow d k q).phase) || (eqb (place_of d.phase k) acting || in_action d.phase)) ≡ true
unfolding all_rows place_of
action_after d k q h = followed (λ p k n. not (in_action n) || (eqb (place_of p k) acting || in_action p)) refl d k q h

-- where a `)` of an action and a TRANSITION are read
pub closing_there : (d : Due) (k : Kind) (q : Bool) → ((follow d k q).phase ≡ Stopped → ⊥) → (not (eqb (place_of d.phase k) closing) || in_action d.phase) ≡ true
unfolding all_rows place_of
closing_there d k q h = followed (λ p k n. not (eqb (place_of p k) closing) || in_action p) refl d k q h

pub entering_there : (d : Due) (k : Kind) (q : Bool) → ((follow d k q).phase ≡ Stopped → ⊥)
    → (not (eqb (place_of d.phase k) entering) || (eqb (inside d.phase) 0 && same_kind k Transition)) ≡ true
unfolding all_rows place_of
entering_there d k q h = followed (λ p k n. not (eqb (place_of p k) entering) || (eqb (inside p) 0 && same_kind k Transition)) refl d k q h

-- what is written of a condition has a byte
pub joining_there : (d : Due) (k : Kind) (q : Bool) → ((follow d k q).phase ≡ Stopped → ⊥) → (not (eqb (place_of d.phase k) joining) || is_some (sign k)) ≡ true
unfolding all_rows place_of
joining_there d k q h = followed (λ p k n. not (eqb (place_of p k) joining) || is_some (sign k)) refl d k q h

-- where reading has stopped, nothing may stand
pub stopped-after : (d : Due) (k : Kind) (q : Bool) → d.phase ≡ Stopped → (follow d k q).phase ≡ Stopped
unfolding all_rows
stopped-after d k q e = go (same_phase (follow d k q).phase Stopped) refl
  where
    go : (x : Bool) → same_phase (follow d k q).phase Stopped ≡ x → (follow d k q).phase ≡ Stopped
    go true z = phase_true _ _ z
    go false z = absurd (false≢true (rw e at (followed (λ p k n. not (same_phase p Stopped)) refl d k q (phase_false _ _ z))))

-- in a list, and after INITIAL_STEP or STEP
abbrev pub in_list : Phase → Bool
in_list FromDue = false
in_list ToDue = false
in_list AssignDue = false
in_list p = in_lists p

abbrev pub after_step : Phase → Bool
after_step p = same_phase p InitialName || same_phase p StepName

module _ (d : Due) (k : Kind) (q : Bool) (h : (follow d k q).phase ≡ Stopped → ⊥) where
  -- FROM and TO, which are no names, lead into a list, and what is in it is a name or none
  pub list-after : (not (in_list (follow d k q).phase) || (eqb (place_of d.phase k) beginning || in_list d.phase)) ≡ true
  unfolding all_rows place_of
  list-after = followed (λ p k n. not (in_list n) || (eqb (place_of p k) beginning || in_list p)) refl d k q h

  pub beginning-kind : (not (eqb (place_of d.phase k) beginning) || not (same_kind k Name)) ≡ true
  unfolding all_rows place_of
  beginning-kind = followed (λ p k n. not (eqb (place_of p k) beginning) || not (same_kind k Name)) refl d k q h

  pub enlisting-kind : (not (eqb (place_of d.phase k) enlisting) || same_kind k Name) ≡ true
  unfolding all_rows place_of
  enlisting-kind = followed (λ p k n. not (eqb (place_of p k) enlisting) || same_kind k Name) refl d k q h

  pub unlisted_kind : (not (in_list (follow d k q).phase) || (eqb (place_of d.phase k) beginning || (eqb (place_of d.phase k) enlisting || not (same_kind k Name)))) ≡ true
  unfolding all_rows place_of
  unlisted_kind = followed (λ p k n. not (in_list n) || (eqb (place_of p k) beginning || (eqb (place_of p k) enlisting || not (same_kind k Name)))) refl d k q h

  pub enlisting_there : (not (eqb (place_of d.phase k) enlisting) || in_list d.phase) ≡ true
  unfolding all_rows place_of
  enlisting_there = followed (λ p k n. not (eqb (place_of p k) enlisting) || in_list p) refl d k q h

  -- a name is declared after INITIAL_STEP or STEP, and nowhere else
  pub after-step : cond (after_step (follow d k q).phase) (begins_step k) (not (begins_step k)) ≡ true
  unfolding all_rows
  after-step = followed (λ p k n. cond (after_step n) (begins_step k) (not (begins_step k))) refl d k q h

  pub declaring_there : cond (eqb (place_of d.phase k) declaring) (after_step d.phase) (not (after_step d.phase)) ≡ true
  unfolding all_rows place_of
  declaring_there = followed (λ p k n. cond (eqb (place_of p k) declaring) (after_step p) (not (after_step p))) refl d k q h

  pub declaring-kind : (not (eqb (place_of d.phase k) declaring) || same_kind k Name) ≡ true
  unfolding all_rows place_of
  declaring-kind = followed (λ p k n. not (eqb (place_of p k) declaring) || same_kind k Name) refl d k q h
