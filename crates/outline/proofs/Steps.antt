-- What one token does where it has no fault.
use mathlib.Core.Bool.{Bool, true, false, cond, not, ◌&&◌, ◌||◌, false≢true}
use mathlib.Core.List.{List, ◌∷◌}
use mathlib.Core.Path.{◌≡◌, refl, sym, ap, ◌∙◌}
use Prim.Native.Nat.{ℕ}
use lib.Bits.{bit_or}
use lib.Dec.{leb}
use lib.ListN.{length}
use Rattle.text.specs.Decimal.{decimal}
use Rattle.text.specs.Words.{bit_at}
use Rattle.tokens.specs.declared.Token.{Token}
use Rattle.tokens.specs.declared.Kind.{Kind}
use Rattle.tokens.specs.Kinds.{same_kind}
use Rattle.tokens.specs.declared.Kind.TheVariants.{Transition}
use Rattle.grammar.specs.declared.Due.{Due}
use Rattle.grammar.specs.declared.Phase.{Phase}
use Rattle.grammar.specs.Rows.{follow, balanced, next_due, depth_after, same_phase}
use Rattle.grammar.specs.declared.Phase.TheVariants.{QualifierDue}
use Rattle.naming.specs.declared.Names.{Names}
use Rattle.naming.specs.Names.{is_qualifier, is_new, is_first, is_declared, is_undeclared, is_driven, is_listed, with_name, table_number}
use Rattle.std.specs.Prelude.{Option, None}
use Rattle.outline.specs.declared.Cause.{Cause}
use Rattle.outline.specs.declared.Reading.{Reading}
use Rattle.outline.specs.Reading.{lowest, blamed, blame, with_due, with_made, with_steps, with_inputs, with_outputs, with_action, with_lists, with_condition, put_bytes, over_by, drives, drives_over, past_bound, pieced, entered, declared, meant, driven, listed, asked, acted, after_token}
use Rattle.outline.specs.Faults.{is_n}
use Rattle.outline.proofs.Blameless.{blameless, lowest-none, blame-none}

-- What is due

abbrev pub due : Phase → ℕ → Due
due p d = record { phase = p; depth = d }

-- after a token of kind k, whether its word is a qualifier's or not, p' and d' are due
abbrev pub Follows : Phase → ℕ → Kind → Phase → ℕ → Type 0
Follows p d k p' d' = (q : Bool) → follow (due p d) k q ≡ due p' d'

-- where no qualifier is due, the rows say what follows
pub follows : (p : Phase) (d : ℕ) (k : Kind) → balanced (due p d) k ≡ true → same_phase p QualifierDue ≡ false → Follows p d k (next_due p k) (depth_after (due p d) k)
unfolding follow
follows p d k b n true = rw b
follows p d k b n false = rw (b, n)

-- a token that may stand where it does acts
pub step_is : (s : List ℕ) (r : Reading) (t : Token) (k : Kind) (p : Phase) (d : ℕ) (p' : Phase) (d' : ℕ) → r.due ≡ due p d → t.kind ≡ k → Follows p d k p' d' → after_token s r t ≡ acted s p (with_due r (due p' d')) t
unfolding after_token
step_is s r t k p d p' d' e i f =
    ap (λ (x : Due). acted s x.phase (with_due r (follow x t.kind (is_qualifier s t))) t) e
    ∙ ap (λ (y : Due). acted s p (with_due r y) t) (ap (λ (j : Kind). follow (due p d) j (is_qualifier s t)) i ∙ f (is_qualifier s t))

-- What is done, where nothing is blamed

-- a reading that nothing is blamed for, however it goes on
unblamed : (F : Reading → Reading) (r : Reading) (l : ℕ) (n : Option Cause) → n ≡ None → F (blame r l n) ≡ F r
unblamed F r l n e = ap F (blame-none r l n e)

pub record Pieced (r : Reading) (l : ℕ) (bytes : List ℕ) : Type 0 where
  pub is : pieced r l bytes ≡ with_condition r (put_bytes r.part.condition bytes)
  pub fits : over_by r.part.condition (length bytes) ≡ false

pub pieced_fine : (r : Reading) (l : ℕ) (bytes : List ℕ) → (pieced r l bytes).fault ≡ None → Pieced r l bytes
unfolding pieced blame
pieced_fine r l bytes h =
    let o = over_by r.part.condition (length bytes) in
    let z = blameless r.fault l (lowest false false o) h in
    record {
      is = unblamed (λ x. with_condition x (put_bytes r.part.condition bytes)) r l (lowest false false o) z.none;
      fits = (lowest-none false false o z.none).2;
    }

-- a token between two steps or transitions
pub entered_fine : (r : Reading) (t : Token) → (entered r t).fault ≡ None → (entered r t ≡ r) × ((same_kind t.kind Transition && leb 64 r.made.moves) ≡ false)
unfolding entered blame
entered_fine r t h =
    let o = same_kind t.kind Transition && leb 64 r.made.moves in
    let z = blameless r.fault t.line (lowest false false o) h in
    (blame-none r t.line (lowest false false o) z.none, (lowest-none false false o z.none).2)

module _ (s : List ℕ) (r : Reading) (t : Token) where
  -- a name in a condition
  abbrev inputs' : Names
  inputs' = with_name 32 s r.known.inputs t

  abbrev input_bytes : List ℕ
  input_bytes = 105 ∷ decimal (table_number s inputs' t)

  pub record Asked : Type 0 where
    pub is : asked s r t ≡ with_condition (with_inputs r (with_name 32 s r.known.inputs t)) (put_bytes r.part.condition (105 ∷ decimal (table_number s (with_name 32 s r.known.inputs t) t)))
    pub free : past_bound s 32 r.known.inputs t ≡ false
    pub fits : over_by r.part.condition (length (105 ∷ decimal (table_number s (with_name 32 s r.known.inputs t) t))) ≡ false

  pub asked_fine : (asked s r t).fault ≡ None → Asked
  unfolding asked pieced blame
  asked_fine h =
      let a = is_new s r.known.inputs t && (is_declared s t || is_driven s t) in
      let c = past_bound s 32 r.known.inputs t in
      let q : Reading = with_inputs (blame r t.line (lowest a false c)) inputs' in
      let x = pieced_fine q t.line input_bytes h in
      let y = blameless (blamed r.fault t.line (lowest a false c)) t.line (lowest false false (over_by r.part.condition (length input_bytes))) h in
      let z = blameless r.fault t.line (lowest a false c) y.before in
      record {
        is = x.is ∙ unblamed (λ w. with_condition (with_inputs w inputs') (put_bytes r.part.condition input_bytes)) r t.line (lowest a false c) z.none;
        free = (lowest-none a false c z.none).2;
        fits = x.fits;
      }

  -- a name in a list
  pub record Listed : Type 0 where
    pub is : listed s r t ≡ with_lists (with_steps r (with_name 30 s r.known.steps t) r.known.initial)
        r.part.start (bit_or r.part.listed (bit_at (table_number s (with_name 30 s r.known.steps t) t))) r.part.before
    pub free : past_bound s 30 r.known.steps t ≡ false

  pub listed_fine : (listed s r t).fault ≡ None → Listed
  unfolding listed blame
  listed_fine h =
      let a = is_listed s r.part.start t in
      let b = is_new s r.known.steps t && is_undeclared s t in
      let c = past_bound s 30 r.known.steps t in
      let n : Names = with_name 30 s r.known.steps t in
      let z = blameless r.fault t.line (lowest a b c) h in
      record {
        is = unblamed (λ w. with_lists (with_steps w n r.known.initial) r.part.start (bit_or r.part.listed (bit_at (table_number s n t))) r.part.before) r t.line (lowest a b c) z.none;
        free = (lowest-none a b c z.none).2;
      }

  -- a name after INITIAL_STEP or STEP
  pub record Declared (initial : Bool) : Type 0 where
    pub is : declared s initial r t ≡ with_action
        (with_steps r (with_name 30 s r.known.steps t) (cond initial (bit_or r.known.initial (bit_at (table_number s (with_name 30 s r.known.steps t) t))) r.known.initial))
        (table_number s (with_name 30 s r.known.steps t) t) r.part.variable r.part.qualifier r.part.output
    pub free : past_bound s 30 r.known.steps t ≡ false

  pub declared_fine : (initial : Bool) → (declared s initial r t).fault ≡ None → Declared initial
  unfolding declared blame
  declared_fine initial h =
      let a = not (is_first s t) in
      let c = past_bound s 30 r.known.steps t in
      let n : Names = with_name 30 s r.known.steps t in
      let j : ℕ = table_number s n t in
      let z = blameless r.fault t.line (lowest a false c) h in
      record {
        is = unblamed (λ w. with_action (with_steps w n (cond initial (bit_or r.known.initial (bit_at j)) r.known.initial)) j r.part.variable r.part.qualifier r.part.output)
            r t.line (lowest a false c) z.none;
        free = (lowest-none a false c z.none).2;
      }

  -- an action's variable
  pub meant_fine : (meant s r t).fault ≡ None → meant s r t ≡ with_action r r.part.step t r.part.qualifier r.part.output
  unfolding meant blame
  meant_fine h =
      let a = is_new s r.known.outputs t && is_declared s t in
      let z = blameless r.fault t.line (lowest a false false) h in
      unblamed (λ w. with_action w r.part.step t r.part.qualifier r.part.output) r t.line (lowest a false false) z.none

module _ (s : List ℕ) (r : Reading) where
  -- an action's variable, the outputs with it, its number, and whether it is a hold
  abbrev pub variable' : Token
  variable' = r.part.variable

  abbrev pub outputs' : Names
  outputs' = with_name 32 s r.known.outputs variable'

  abbrev pub output' : ℕ
  output' = table_number s outputs' variable'

  abbrev pub is_hold : Bool
  is_hold = is_n r.part.qualifier

  -- an action whose bracket is closed
  pub record Driven : Type 0 where
    pub is : driven s r ≡ with_made (with_action (with_outputs r outputs') r.part.step variable' r.part.qualifier output') (drives r.made is_hold output')
    pub free : past_bound s 32 r.known.outputs variable' ≡ false
    pub apart : drives_over r.made is_hold output' ≡ false

  pub driven_fine : (driven s r).fault ≡ None → Driven
  unfolding driven blame
  driven_fine h =
      let c = past_bound s 32 r.known.outputs variable' in
      let d = drives_over r.made is_hold output' in
      let l = variable'.line in
      let z = blameless r.fault l (lowest false false (c || d)) h in
      let y : (c || d) ≡ false = (lowest-none false false (c || d) z.none).2 in
      record {
        is = unblamed (λ w. with_made (with_action (with_outputs w outputs') r.part.step variable' r.part.qualifier output') (drives r.made is_hold output')) r l (lowest false false (c || d)) z.none;
        free = first c d y;
        apart = second c d y;
      }
    where
      first : (x y : Bool) → (x || y) ≡ false → x ≡ false
      first true y e = e
      first false y e = refl

      second : (x y : Bool) → (x || y) ≡ false → y ≡ false
      second true y e = absurd (false≢true (sym e))
      second false y e = e
