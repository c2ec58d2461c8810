-- How far a text is read, and what the fold knows there.
use mathlib.Core.Bool.{Bool, true, false, cond, not, ◌&&◌, ◌||◌, false≢true}
use mathlib.Core.List.{List, [], ◌∷◌}
use mathlib.Core.Path.{◌≡◌, refl, sym, ap, ◌∙◌}
use Prim.Native.Nat.{ℕ, ◌+◌, ◌≤◌}
use native.Mathlib.Omega.{arith}
use lib.Dec.{eqb}
use lib.ListN.{length}
use Rattle.std.specs.Prelude.{is_some}
use Rattle.tokens.specs.declared.Token.{Token}
use Rattle.tokens.specs.Kinds.{same_kind, sign}
use Rattle.tokens.specs.declared.Kind.TheVariants.{Transition}
use Rattle.tokens.specs.Tokens.{tokens}
use Rattle.tokens.proofs.Order.{Onward, one_left, text-onward}
use Rattle.naming.specs.Names.{is_qualifier, is_new, table_number, number_in}
use Rattle.grammar.specs.declared.Due.{Due}
use Rattle.grammar.specs.declared.Phase.{Phase}
use Rattle.grammar.specs.Rows.{follow, same_phase}
use Rattle.grammar.specs.declared.Phase.TheVariants.{Outside, InitialName, Stopped}
use Rattle.outline.specs.declared.Reading.{Reading}
use Rattle.outline.specs.Reading.{with_due, after_token, reading_from, copies, nothing_known, reading_of}
use Rattle.outline.specs.Faults.{entering, joining, ending, place_of, ReadToken, Reached, nothing_read, one_more, transitions, variable_of, written}
use Rattle.outline.proofs.Phases.{inside, one, inside-after, action_after, closing_there, entering_there, joining_there}
use Rattle.outline.proofs.Places.{Place, place_of_lem, doing, doing_due, acted-is}
use Rattle.outline.proofs.Agrees.{Agrees, agrees_start, agrees_more, endings}
use Rattle.outline.proofs.Judged.{Judged, exact, judged-more}

-- what the fold knows after a history
unfoldable pub after : List ℕ → List ReadToken → Reading
after s [] = nothing_known
after s (x ∷ h) = after_token s (after s h) x.token

pub onward-line : {l : ℕ} {t : Token} {us : List Token} → Onward l (t ∷ us) → l ≤ t.line
onward-line (one_left p o) = p

pub onward-rest : {l : ℕ} {t : Token} {us : List Token} → Onward l (t ∷ us) → Onward t.line us
onward-rest (one_left p o) = o

pub record At (s : List ℕ) (h : List ReadToken) (d : Due) (us : List Token) : Type 0 where
  pub run : reading_from s (after s h) us ≡ reading_of s
  pub due : (after s h).due ≡ d
  pub agrees : Agrees s h (after s h).known (after s h).made (after s h).part
  pub line : ℕ
  pub judged : Judged s (variable_of h) (length (written s h)) (after s h).known (after s h).part.condition.size (after s h).fault d.phase line
  pub onward : Onward line us
  pub entered : transitions h ≡ endings h + inside d.phase

module _ (s : List ℕ) where
  new_none : (u : Token) → is_new s nothing_known.known.steps u ≡ false → {A : Type 0} → A
  unfolding table_number number_in copies
  new_none u e = absurd (false≢true (sym e))

  -- before the first token
  at-start : At s [] (record { phase = Outside; depth = 0 }) (tokens s)
  unfolding after reading_of variable_of written transitions endings
  at-start =
      record {
        run = refl;
        due = refl;
        agrees = agrees_start s;
        line = 0;
        judged = record {
          names = record { undeclared = λ u e w. new_none u e; driven = λ u e w. new_none u e; asked = λ u e w. new_none u e };
          pending = λ e w. absurd (false≢true e);
          sized = exact (omega arith);
        };
        onward = text-onward s;
        entered = omega arith;
      }

  abbrev pub there : Due → Token → Due
  there d t = follow d t.kind (is_qualifier s t)

  -- a token that may stand where it stands does what it is
  pub step_is : (r : Reading) (d : Due) (t : Token) → r.due ≡ d → ((there d t).phase ≡ Stopped → ⊥)
      → after_token s r t ≡ doing s (same_phase d.phase InitialName) (place_of d.phase t.kind) (with_due r (there d t)) t
  unfolding after_token
  step_is r d t e n = rw e (acted-is s d.phase (with_due r (there d t)) t n)

  module _ (h : List ReadToken) (d : Due) (t : Token) (us : List Token) (g : At s h d (t ∷ us)) (n : (there d t).phase ≡ Stopped → ⊥) where
    abbrev c : ℕ
    c = place_of d.phase t.kind

    abbrev x : ReadToken
    x = record { place = c; token = t }

    -- what is known after one token more
    pub after_is : after s (x ∷ h) ≡ doing s (same_phase d.phase InitialName) c (with_due (after s h) (there d t)) t
    unfolding after
    after_is = step_is (after s h) d t g.due n

    run_more : reading_from s (after s (x ∷ h)) us ≡ reading_of s
    unfolding after reading_from
    run_more = g.run

    -- transitions entered and ended
    entered-more : transitions (x ∷ h) ≡ endings (x ∷ h) + inside (there d t).phase
    unfolding transitions endings
    entered-more = go (eqb c entering) (eqb c ending) (inside-after d t.kind (is_qualifier s t) n) g.entered
      where
        go : (e f : Bool) → inside (there d t).phase + one f ≡ inside d.phase + one e → transitions h ≡ endings h + inside d.phase
            → cond e (transitions h + 1) (transitions h) ≡ cond f (endings h + 1) (endings h) + inside (there d t).phase
        go true true p q = omega arith
        go true false p q = omega arith
        go false true p q = omega arith
        go false false p q = omega arith

    at_more : At s (x ∷ h) (there d t) us
    at_more =
        record {
          run = run_more;
          due = ap (λ (r : Reading). r.due) after_is ∙ doing_due s (same_phase d.phase InitialName) c (place_of_lem d.phase t.kind) (with_due (after s h) (there d t)) t;
          agrees = rw after_is (agrees_more s (same_phase d.phase InitialName) h (with_due (after s h) (there d t)) t g.agrees c (place_of_lem d.phase t.kind));
          line = t.line;
          judged = rw after_is
              (judged-more s (same_phase d.phase InitialName) h (with_due (after s h) (there d t)) t d.phase (there d t).phase g.line g.agrees g.judged (onward-line g.onward)
              c (place_of_lem d.phase t.kind) (action_after d t.kind (is_qualifier s t) n) (closing_there d t.kind (is_qualifier s t) n));
          onward = onward-rest g.onward;
          entered = entered-more;
        }

  -- wherever a text is read to
  pub reached : {h : List ReadToken} {d : Due} {us : List Token} → Reached s h d us → At s h d us
  reached nothing_read = at-start
  reached (one_more {h = h} {d = d} {t = t} {us = us} q n) = at_more h d t us (reached q) n

  -- the last token read, and what the fold knew before it
  pub record Standing (x : ReadToken) (h : List ReadToken) : Type 0 where
    pub initial : Bool
    pub before : Reading
    pub phase : Phase
    pub line : ℕ
    pub is : after s (x ∷ h) ≡ doing s initial x.place before x.token
    pub place : Place x.place
    pub agrees : Agrees s h before.known before.made before.part
    pub judged : Judged s (variable_of h) (length (written s h)) before.known before.part.condition.size before.fault phase line
    pub onward : line ≤ x.token.line
    pub entered : transitions h ≡ endings h + inside phase
    pub entering : (not (eqb x.place entering) || (eqb (inside phase) 0 && same_kind x.token.kind Transition)) ≡ true
    pub joins : (not (eqb x.place joining) || is_some (sign x.token.kind)) ≡ true

  pub standing : {x : ReadToken} {h : List ReadToken} {d : Due} {us : List Token} → Reached s (x ∷ h) d us → Standing x h
  standing (one_more {h = h} {d = d} {t = t} {us = us} q n) =
      let g = reached q in
      record {
        initial = same_phase d.phase InitialName;
        before = with_due (after s h) (there d t);
        phase = d.phase;
        line = g.line;
        is = after_is h d t us g n;
        place = place_of_lem d.phase t.kind;
        agrees = g.agrees;
        judged = g.judged;
        onward = onward-line g.onward;
        entered = g.entered;
        entering = entering_there d t.kind (is_qualifier s t) n;
        joins = joining_there d t.kind (is_qualifier s t) n;
      }
