-- What a text makes does not depend on the fault so far.
use mathlib.Core.Bool.{Bool, true, false, cond, ◌&&◌, ◌||◌}
use mathlib.Core.List.{List, [], ◌∷◌, ◌++◌}
use mathlib.Core.Path.{◌≡◌, refl, ap, subst}
use Prim.Native.Nat.{ℕ}
use Rattle.line.specs.Write.{Line}
use Rattle.tokens.specs.declared.Token.{Token}
use Rattle.tokens.specs.Kinds.{same_kind}
use Rattle.tokens.specs.declared.Kind.TheVariants.{Name, Semicolon}
use Rattle.grammar.specs.declared.Phase.{Phase}
use Rattle.grammar.specs.Rows.{follow, in_condition, same_phase}
use Rattle.grammar.specs.declared.Phase.TheVariants.{Outside, InitialName, StepName, ActionDue, QualifierDue, CloseDue, FromDue, ToDue, AssignDue, Stopped}
use Rattle.naming.specs.Names.{is_qualifier}
use Rattle.std.specs.Prelude.{Option, Some, None}
use Rattle.outline.specs.declared.Cause.{Cause}
use Rattle.outline.specs.declared.Cause.TheVariants.{OutsideSubset}
use Rattle.outline.specs.declared.Fault.{Fault}
use Rattle.outline.specs.declared.Reading.{Reading}
use Rattle.outline.specs.Reading.{with_due, with_fault, blame, listing, assigned, pieced, moved, entered, declared, meant, qualified, driven, listed, asked, stepped, headed, conditioned, acted, after_token}
use Rattle.outline.specs.Faults.{in_lists}
use Rattle.writer.specs.Lines.{made, lines_from}

-- two readings differ in their fault only
record Alike (a b : Reading) : Type 0 where
  same : with_fault a None ≡ with_fault b None

alike_cond : (t : Bool) {a b x y : Reading} → Alike a x → Alike b y → Alike (cond t a b) (cond t x y)
alike_cond true f g = f
alike_cond false f g = g

module _ (s : List ℕ) (r : Reading) (f : Option Fault) (t : Token) where
  abbrev q : Reading
  q = with_fault r f

  alike_self : Alike r q
  alike_self = record { same = refl }

  alike-blame : (l : ℕ) (n : Option Cause) → Alike (blame r l n) (blame q l n)
  unfolding blame
  alike-blame l n = record { same = refl }

  alike-entered : Alike (entered r t) (entered q t)
  unfolding entered blame
  alike-entered = record { same = refl }

  alike-declared : (initial : Bool) → Alike (declared s initial r t) (declared s initial q t)
  unfolding declared blame
  alike-declared initial = record { same = refl }

  alike-meant : Alike (meant s r t) (meant s q t)
  unfolding meant blame
  alike-meant = record { same = refl }

  alike-qualified : Alike (qualified s r t) (qualified s q t)
  unfolding qualified
  alike-qualified = record { same = refl }

  alike-driven : Alike (driven s r) (driven s q)
  unfolding driven blame
  alike-driven = record { same = refl }

  alike-listing : Alike (listing r t) (listing q t)
  unfolding listing
  alike-listing = record { same = refl }

  alike-assigned : Alike (assigned r) (assigned q)
  unfolding assigned
  alike-assigned = record { same = refl }

  alike-listed : Alike (listed s r t) (listed s q t)
  unfolding listed blame
  alike-listed = record { same = refl }

  alike_moved : Alike (moved r) (moved q)
  unfolding moved
  alike_moved = record { same = refl }

  alike-pieced : (l : ℕ) (bytes : List ℕ) → Alike (pieced r l bytes) (pieced q l bytes)
  unfolding pieced blame
  alike-pieced l bytes = record { same = refl }

  alike-asked : Alike (asked s r t) (asked s q t)
  unfolding asked pieced blame
  alike-asked = record { same = refl }

  alike-stepped : (p : Phase) → Alike (stepped s p r t) (stepped s p q t)
  unfolding stepped
  alike-stepped p =
      alike_cond (same_phase p Outside) alike-entered
      (alike_cond (same_phase p InitialName) (alike-declared true)
      (alike_cond (same_phase p StepName) (alike-declared false)
      (alike_cond (same_phase p ActionDue && same_kind t.kind Name) alike-meant
      (alike_cond (same_phase p QualifierDue) alike-qualified
      (alike_cond (same_phase p CloseDue) alike-driven alike_self)))))

  alike-headed : (p : Phase) → Alike (headed s p r t) (headed s p q t)
  unfolding headed
  alike-headed p =
      alike_cond (same_phase p FromDue || same_phase p ToDue) alike-listing
      (alike_cond (same_phase p AssignDue) alike-assigned (alike_cond (same_kind t.kind Name) alike-listed alike_self))

  alike-conditioned : Alike (conditioned s r t) (conditioned s q t)
  unfolding conditioned
  alike-conditioned =
      alike_cond (same_kind t.kind Semicolon) alike_moved (alike_cond (same_kind t.kind Name) alike-asked (alike-pieced _ _))

  alike-acted : (p : Phase) → Alike (acted s p r t) (acted s p q t)
  unfolding acted
  alike-acted p =
      alike_cond (same_phase r.due.phase Stopped) (alike-blame t.line (Some OutsideSubset))
      (alike_cond (in_lists p) (alike-headed p) (alike_cond (in_condition p) alike-conditioned (alike-stepped p)))

alike-step : (s : List ℕ) (r : Reading) (f : Option Fault) (t : Token) → Alike (after_token s r t) (after_token s (with_fault r f) t)
unfolding after_token
alike-step s r f t = alike-acted s (with_due r (follow r.due t.kind (is_qualifier s t))) f t r.due.phase

pub lines-alike : (s : List ℕ) (us : List Token) (r : Reading) (f : Option Fault) → lines_from s (with_fault r f) us ≡ lines_from s r us
unfolding lines_from made
lines-alike s [] r f = refl
lines-alike s (t ∷ us) r f =
    let a : Reading = after_token s r t in
    let b : Reading = after_token s (with_fault r f) t in
    let e : with_fault a b.fault ≡ b = ap (λ (x : Reading). with_fault x b.fault) (alike-step s r f t).same in
    subst (λ (x : Reading). made x ++ lines_from s x us ≡ made a ++ lines_from s a us) e (ap (λ (l : List Line). made a ++ l) (lines-alike s us a b.fault))
