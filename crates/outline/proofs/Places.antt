-- What the fold does with a token, by what the token is.
use mathlib.Core.Bool.{Bool, true, false, cond, not, ◌&&◌, ◌||◌}
use mathlib.Core.List.{List, ◌∷◌}
use mathlib.Core.Path.{◌≡◌, refl}
use Prim.Native.Nat.{ℕ}
use lib.Dec.{eqb, leb}
use lib.ListN.{length}
use Rattle.text.specs.Decimal.{decimal}
use Rattle.tokens.specs.declared.Token.{Token}
use Rattle.tokens.specs.declared.Kind.{Kind}
use Rattle.tokens.specs.Kinds.{same_kind}
use Rattle.tokens.specs.declared.Kind.TheVariants.{Transition, Name, Semicolon}
use Rattle.naming.specs.Names.{is_declared, is_undeclared, is_first, is_driven, is_listed, table_number, is_new, with_name}
use Rattle.grammar.specs.declared.Phase.{Phase}
use Rattle.grammar.specs.Rows.{in_condition, same_phase}
use Rattle.grammar.specs.declared.Phase.TheVariants.{Outside, InitialName, StepName, ActionDue, QualifierDue, CloseDue, FromDue, ToDue, AssignDue, Stopped}
use Rattle.std.specs.Prelude.{Option, None}
use Rattle.outline.specs.declared.Reading.{Reading}
use Rattle.outline.specs.declared.Fault.{Fault}
use Rattle.outline.specs.Reading.{past_bound, over_by, drives_over, lowest, blamed, blame, entered, declared, meant, qualified, driven, listing, assigned, listed, asked, pieced, moved, stepped, headed, conditioned, acted}
use denote.Enum.Bare.{false_same}
use Rattle.grammar.specs.contracts.Phase.{the_type}
use Rattle.outline.specs.Faults.{is_n, in_lists, sign_bytes, step_place, list_place, condition_place, place_of, entering, declaring, acting, qualifying, closing, beginning, enlisting, assigning, asking, joining, ending, other}
use Rattle.outline.proofs.Blame.{Covers, blamed-keeps}

-- the things that a token can be
pub data Place : ℕ → Type 0 where
  is-entering : Place entering
  is-declaring : Place declaring
  is-acting : Place acting
  is-qualifying : Place qualifying
  is-closing : Place closing
  is-beginning : Place beginning
  is-enlisting : Place enlisting
  is-assigning : Place assigning
  is-asking : Place asking
  is-joining : Place joining
  is-ending : Place ending
  is-other : Place other

-- a token is one of them
pub place_of_lem : (p : Phase) (k : Kind) → Place (place_of p k)
unfolding place_of
place_of_lem p k = go (in_lists p) (in_condition p)
  where
    stepped' : (a b c d e f : Bool) → Place (cond a (cond b entering other) (cond c declaring (cond d acting (cond e qualifying (cond f closing other)))))
    stepped' true true c d e f = is-entering
    stepped' true false c d e f = is-other
    stepped' false b true d e f = is-declaring
    stepped' false b false true e f = is-acting
    stepped' false b false false true f = is-qualifying
    stepped' false b false false false true = is-closing
    stepped' false b false false false false = is-other

    headed' : (a b c : Bool) → Place (cond a beginning (cond b assigning (cond c enlisting other)))
    headed' true b c = is-beginning
    headed' false true c = is-assigning
    headed' false false true = is-enlisting
    headed' false false false = is-other

    conditioned' : (b c : Bool) → Place (cond b ending (cond c asking joining))
    conditioned' true c = is-ending
    conditioned' false true = is-asking
    conditioned' false false = is-joining

    go : (x y : Bool) → Place (cond x (list_place p k) (cond y (condition_place k) (step_place p k)))
    go false false = stepped' (same_phase p Outside) (same_kind k Transition) (same_phase p InitialName || same_phase p StepName) (same_phase p ActionDue && same_kind k Name) (same_phase p QualifierDue) (same_phase p CloseDue)
    go true y = headed' (same_phase p FromDue || same_phase p ToDue) (same_phase p AssignDue) (same_kind k Name)
    go false true = conditioned' (same_kind k Semicolon) (same_kind k Name)

-- faults more than f
pub data Blames (f : Option Fault) : Option Fault → Type 0 where
  no_fault : Blames f f
  a_fault : {g : Option Fault} (l : ℕ) (a b c : Bool) → Blames f g → Blames f (blamed g l (lowest a b c))

-- they take back nothing
pub blames_keep : {f g : Option Fault} → Blames f g → (l n : ℕ) → Covers f l n → Covers g l n
blames_keep no_fault l n h = h
blames_keep (a_fault {g = g} m a b c q) l n h = blamed-keeps g m (lowest a b c) l n (blames_keep q l n h)

module _ (s : List ℕ) where
  -- what is done with a token that is c; the test tells INITIAL_STEP from STEP
  abbrev pub doing : Bool → ℕ → Reading → Token → Reading
  doing b c r t =
      cond (eqb c entering) (entered r t)
      (cond (eqb c declaring) (declared s b r t)
      (cond (eqb c acting) (meant s r t)
      (cond (eqb c qualifying) (qualified s r t)
      (cond (eqb c closing) (driven s r)
      (cond (eqb c beginning) (listing r t)
      (cond (eqb c enlisting) (listed s r t)
      (cond (eqb c assigning) (assigned r)
      (cond (eqb c asking) (asked s r t)
      (cond (eqb c joining) (pieced r t.line (sign_bytes t.kind))
      (cond (eqb c ending) (moved r)
      r))))))))))

  module _ (p : Phase) (r : Reading) (t : Token) where
    no_blame : blame r t.line None ≡ r
    unfolding blame blamed
    no_blame = refl

    -- a token of a step, of a list, of a condition
    stepped-is : stepped s p r t ≡ doing (same_phase p InitialName) (step_place p t.kind) r t
    unfolding stepped entered
    stepped-is = go (same_phase p Outside) (same_kind t.kind Transition) (same_phase p InitialName) (same_phase p StepName) (same_phase p ActionDue && same_kind t.kind Name) (same_phase p QualifierDue) (same_phase p CloseDue)
      where
        go : (a b c d e f g : Bool)
            → cond a (blame r t.line (lowest false false (b && leb 64 r.made.moves)))
            (cond c (declared s true r t) (cond d (declared s false r t) (cond e (meant s r t) (cond f (qualified s r t) (cond g (driven s r) r)))))
            ≡ (let x : ℕ = cond a (cond b entering other) (cond (c || d) declaring (cond e acting (cond f qualifying (cond g closing other)))) in
            cond (eqb x entering) (blame r t.line (lowest false false (b && leb 64 r.made.moves)))
            (cond (eqb x declaring) (declared s c r t)
            (cond (eqb x acting) (meant s r t)
            (cond (eqb x qualifying) (qualified s r t)
            (cond (eqb x closing) (driven s r)
            (cond (eqb x beginning) (listing r t)
            (cond (eqb x enlisting) (listed s r t)
            (cond (eqb x assigning) (assigned r)
            (cond (eqb x asking) (asked s r t)
            (cond (eqb x joining) (pieced r t.line (sign_bytes t.kind))
            (cond (eqb x ending) (moved r)
            r)))))))))))
        go true true c d e f g = refl
        go true false c d e f g = no_blame
        go false b true d e f g = refl
        go false b false true e f g = refl
        go false b false false true f g = refl
        go false b false false false true g = refl
        go false b false false false false true = refl
        go false b false false false false false = refl

    headed-is : (i : Bool) → headed s p r t ≡ doing i (list_place p t.kind) r t
    unfolding headed
    headed-is i = go (same_phase p FromDue || same_phase p ToDue) (same_phase p AssignDue) (same_kind t.kind Name)
      where
        go : (a b c : Bool) → cond a (listing r t) (cond b (assigned r) (cond c (listed s r t) r)) ≡ doing i (cond a beginning (cond b assigning (cond c enlisting other))) r t
        go true b c = refl
        go false true c = refl
        go false false true = refl
        go false false false = refl

    conditioned-is : (i : Bool) → conditioned s r t ≡ doing i (condition_place t.kind) r t
    unfolding conditioned
    conditioned-is i = go (same_kind t.kind Semicolon) (same_kind t.kind Name)
      where
        go : (b c : Bool) → cond b (moved r) (cond c (asked s r t) (pieced r t.line (sign_bytes t.kind))) ≡ doing i (cond b ending (cond c asking joining)) r t
        go true c = refl
        go false true = refl
        go false false = refl

    -- a token that may stand where it stands
    pub acted-is : (r.due.phase ≡ Stopped → ⊥) → acted s p r t ≡ doing (same_phase p InitialName) (place_of p t.kind) r t
    unfolding acted place_of
    acted-is h = rw (false_same the_type tt r.due.phase Stopped h) (go (in_lists p) (in_condition p))
      where
        go : (x y : Bool) → cond x (headed s p r t) (cond y (conditioned s r t) (stepped s p r t))
            ≡ doing (same_phase p InitialName) (cond x (list_place p t.kind) (cond y (condition_place t.kind) (step_place p t.kind))) r t
        go true y = headed-is (same_phase p InitialName)
        go false true = conditioned-is (same_phase p InitialName)
        go false false = stepped-is

  -- the fault after a token: faults more, one after another
  pub doing_fault : (b : Bool) (c : ℕ) → Place c → (r : Reading) (t : Token) → Blames r.fault (doing b c r t).fault
  unfolding entered declared meant qualified driven listing listed assigned asked pieced moved blame
  doing_fault b c is-entering r t = a_fault t.line false false (same_kind t.kind Transition && leb 64 r.made.moves) no_fault
  doing_fault b c is-declaring r t = a_fault t.line (not (is_first s t)) false (past_bound s 30 r.known.steps t) no_fault
  doing_fault b c is-acting r t = a_fault t.line (is_new s r.known.outputs t && is_declared s t) false false no_fault
  doing_fault b c is-qualifying r t = no_fault
  doing_fault b c is-closing r t =
      a_fault r.part.variable.line false false
      (past_bound s 32 r.known.outputs r.part.variable
      || drives_over r.made (is_n r.part.qualifier) (table_number s (with_name 32 s r.known.outputs r.part.variable) r.part.variable)) no_fault
  doing_fault b c is-beginning r t = no_fault
  doing_fault b c is-enlisting r t =
      a_fault t.line (is_listed s r.part.start t) (is_new s r.known.steps t && is_undeclared s t) (past_bound s 30 r.known.steps t) no_fault
  doing_fault b c is-assigning r t = no_fault
  doing_fault b c is-asking r t =
      a_fault t.line false false (over_by r.part.condition (length (105 ∷ decimal (table_number s (with_name 32 s r.known.inputs t) t))))
      (a_fault t.line (is_new s r.known.inputs t && (is_declared s t || is_driven s t)) false (past_bound s 32 r.known.inputs t) no_fault)
  doing_fault b c is-joining r t = a_fault t.line false false (over_by r.part.condition (length (sign_bytes t.kind))) no_fault
  doing_fault b c is-ending r t = no_fault
  doing_fault b c is-other r t = no_fault

  pub doing_due : (b : Bool) (c : ℕ) → Place c → (r : Reading) (t : Token) → (doing b c r t).due ≡ r.due
  unfolding entered declared meant qualified driven listing listed assigned asked pieced moved blame
  doing_due b c is-entering r t = refl
  doing_due b c is-declaring r t = refl
  doing_due b c is-acting r t = refl
  doing_due b c is-qualifying r t = refl
  doing_due b c is-closing r t = refl
  doing_due b c is-beginning r t = refl
  doing_due b c is-enlisting r t = refl
  doing_due b c is-assigning r t = refl
  doing_due b c is-asking r t = refl
  doing_due b c is-joining r t = refl
  doing_due b c is-ending r t = refl
  doing_due b c is-other r t = refl
