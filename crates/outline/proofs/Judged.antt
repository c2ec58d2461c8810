-- Names are judged where they appear first, and bytes are counted up to 64: what is not judged again has been judged before, so its fault comes no later.
use mathlib.Core.Bool.{Bool, true, false, not, ◌&&◌, ◌||◌, false≢true}
use mathlib.Core.List.{List, ◌∷◌, ◌++◌}
use mathlib.Core.Path.{◌≡◌, refl, sym, ap, subst, ◌∙◌}
use Prim.Native.Nat.{ℕ, ◌≤◌, min}
use native.Mathlib.Omega.{arith}
use borrow.Author.Tests.{le-leb, leb-true, leb-false}
use lib.Dec.{eqb, leb}
use lib.ListN.{length, length-append}
use Rattle.text.specs.Decimal.{decimal}
use Rattle.tokens.specs.declared.Token.{Token}
use Rattle.naming.specs.Names.{is_at, declared_at, is_declared, is_undeclared, is_first, is_driven, is_listed, number_in, table_number, is_new, with_name}
use Rattle.naming.proofs.Limited.{table-over, joined_number, undeclared-alike, driven-alike, Had, before, now, joined_had}
use Rattle.std.specs.Prelude.{Option, Some, None, is_none}
use Rattle.outline.specs.declared.Fault.{Fault}
use Rattle.outline.specs.declared.Known.{Known}
use Rattle.outline.specs.declared.Reading.{Reading}
use Rattle.outline.specs.Reading.{lowest, blamed, blame, past_bound, over_by, put_bytes, entered, declared, meant, qualified, driven, listing, assigned, listed, asked, pieced, moved}
use Rattle.grammar.specs.declared.Phase.{Phase}
use Rattle.outline.specs.Faults.{sign_bytes, ReadToken, entering, declaring, acting, closing, enlisting, asking, joining, variable_of, step_names, input_names, output_names, written}
use Rattle.outline.proofs.Blame.{Covers, covers_later, covers_16, covers_17, covers_18}
use Rattle.outline.proofs.Phases.{in_action}
use Rattle.outline.proofs.Places.{Place, is-entering, is-declaring, is-acting, is-qualifying, is-closing, is-beginning, is-enlisting, is-assigning, is-asking, is-joining, is-ending, is-other, doing, Blames, no_fault, a_fault, blames_keep, doing_fault}
use Rattle.outline.proofs.Words.{puts_size}
use Rattle.outline.proofs.Agrees.{Agrees}

-- the names of the tables were judged, up to line l
pub record Judges (s : List ℕ) (k : Known) (f : Option Fault) (l : ℕ) : Type 0 where
  pub undeclared : (u : Token) → is_new s k.steps u ≡ false → is_undeclared s u ≡ true → Covers f l 17
  pub driven : (u : Token) → is_new s k.outputs u ≡ false → is_declared s u ≡ true → Covers f l 16
  pub asked : (u : Token) → is_new s k.inputs u ≡ false → (is_declared s u || is_driven s u) ≡ true → Covers f l 16

-- a condition's bytes are counted, unless an input that found no number was among them
pub data Sized (size n : ℕ) (f : Option Fault) (l : ℕ) : Type 0 where
  exact : size ≡ min 64 n → Sized size n f l
  past : Covers f l 18 → Sized size n f l

-- v is the last action's variable, and n bytes are written
pub record Judged (s : List ℕ) (v : Token) (n : ℕ) (k : Known) (size : ℕ) (f : Option Fault) (p : Phase) (l : ℕ) : Type 0 where
  pub names : Judges s k f l
  pub pending : in_action p ≡ true → is_declared s v ≡ true → Covers f l 16
  pub sized : Sized size n f l

-- a step that is declared nowhere is not declared first here
undeclared-first : (s : List ℕ) (t : Token) → is_undeclared s t ≡ true → not (is_first s t) ≡ true
undeclared-first s t h = go (declared_at s t) h
  where
    go : (d : Option ℕ) → is_none d ≡ true → not (is_at t.place d) ≡ true
    go None h = refl
    go (Some d) h = absurd (false≢true h)

both : (x y : Bool) → x ≡ true → y ≡ true → (x && y) ≡ true
both x y p q = rw (p, q)

module _ (s : List ℕ) (b : Bool) (h : List ReadToken) (r : Reading) (t : Token) (p p' : Phase) (l : ℕ) (g : Agrees s h r.known r.made r.part)
    (j : Judged s (variable_of h) (length (written s h)) r.known r.part.condition.size r.fault p l) (m : l ≤ t.line) where
  pub carry : {f : Option Fault} → Blames r.fault f → (n : ℕ) → Covers r.fault l n → Covers f t.line n
  carry {f} q n c = covers_later f l t.line n n (blames_keep q l n c) m (omega arith)

  -- tables that stay as they are
  same_names : {f : Option Fault} → Blames r.fault f → Judges s r.known f t.line
  same_names q =
      record {
        undeclared = λ u e w. carry q 17 (j.names.undeclared u e w);
        driven = λ u e w. carry q 16 (j.names.driven u e w);
        asked = λ u e w. carry q 16 (j.names.asked u e w);
      }

  -- a variable that waits for its `)`
  waits : {f : Option Fault} → Blames r.fault f → (not (in_action p') || in_action p) ≡ true → in_action p' ≡ true → is_declared s (variable_of h) ≡ true → Covers f t.line 16
  waits q a e w = carry q 16 (j.pending (rw e at a) w)

  -- bytes that stay as they are
  same_size : {f : Option Fault} → Blames r.fault f → Sized r.part.condition.size (length (written s h)) f t.line
  same_size {f} q = go j.sized
    where
      go : Sized r.part.condition.size (length (written s h)) r.fault l → Sized r.part.condition.size (length (written s h)) f t.line
      go (exact e) = exact e
      go (past c) = past (carry q 18 c)

  -- a token that neither names anything nor is written
  plain : {f : Option Fault} → Blames r.fault f → (not (in_action p') || in_action p) ≡ true
      → Judged s (variable_of h) (length (written s h)) r.known r.part.condition.size f p' t.line
  plain q a = record { names = same_names q; pending = waits q a; sized = same_size q }

  -- one name more in a table was judged here
  steps-judged : {f : Option Fault} → Blames r.fault f → (is_new s r.known.steps t ≡ true → is_undeclared s t ≡ true → Covers f t.line 17)
      → (u : Token) → is_new s (with_name 30 s r.known.steps t) u ≡ false → is_undeclared s u ≡ true → Covers f t.line 17
  steps-judged {f} q d u e w = go (joined_had s 30 (step_names s h) r.known.steps t u g.tables.steps (omega arith) e)
    where
      go : Had s r.known.steps t u → Covers f t.line 17
      go (before i) = carry q 17 (j.names.undeclared u i w)
      go (now i a) = d i (undeclared-alike s t u a ∙ w)

  outputs-judged : {f : Option Fault} → Blames r.fault f → (v : Token) → v ≡ variable_of h → (is_declared s (variable_of h) ≡ true → Covers f t.line 16)
      → (u : Token) → is_new s (with_name 32 s r.known.outputs v) u ≡ false → is_declared s u ≡ true → Covers f t.line 16
  outputs-judged {f} q v k d u e w = go (joined_had s 32 (output_names s h) r.known.outputs v u g.tables.outputs (omega arith) e)
    where
      go : Had s r.known.outputs v u → Covers f t.line 16
      go (before i) = carry q 16 (j.names.driven u i w)
      go (now i a) = d (ap (is_declared s) (sym k) ∙ ap not (undeclared-alike s v u a) ∙ w)

  inputs-judged : {f : Option Fault} → Blames r.fault f → (is_new s r.known.inputs t ≡ true → (is_declared s t || is_driven s t) ≡ true → Covers f t.line 16)
      → (u : Token) → is_new s (with_name 32 s r.known.inputs t) u ≡ false → (is_declared s u || is_driven s u) ≡ true → Covers f t.line 16
  inputs-judged {f} q d u e w = go (joined_had s 32 (input_names s h) r.known.inputs t u g.tables.inputs (omega arith) e)
    where
      go : Had s r.known.inputs t u → Covers f t.line 16
      go (before i) = carry q 16 (j.names.asked u i w)
      go (now i a) = d i (rw (undeclared-alike s t u a, driven-alike s t u a) w)

  -- an action's variable: new, or judged before
  pub meant-judged : is_declared s t ≡ true → Covers (doing s b acting r t).fault t.line 16
  unfolding meant blame
  meant-judged w = go (is_new s r.known.outputs t) refl
    where
      go : (x : Bool) → is_new s r.known.outputs t ≡ x → Covers (doing s b acting r t).fault t.line 16
      go true e = covers_16 r.fault t.line (is_new s r.known.outputs t && is_declared s t) false false (both _ _ e w)
      go false e = carry (doing_fault s b acting is-acting r t) 16 (j.names.driven t e w)

  -- bytes of a condition
  sized_more : {f : Option Fault} → Blames r.fault f → (bs : List ℕ) → Sized (put_bytes r.part.condition bs).size (length (written s h ++ bs)) f t.line
  sized_more {f} q bs = go j.sized
    where
      go : Sized r.part.condition.size (length (written s h)) r.fault l → Sized (put_bytes r.part.condition bs).size (length (written s h ++ bs)) f t.line
      go (exact e) = let z = puts_size r.part.condition bs (omega arith) in let a = length-append (written s h) bs in exact (omega arith)
      go (past c) = past (carry q 18 c)

  abbrev asked-first : Option Fault
  asked-first = blamed r.fault t.line (lowest (is_new s r.known.inputs t && (is_declared s t || is_driven s t)) false (past_bound s 32 r.known.inputs t))

  -- the second fault that a variable of a condition can have keeps the first
  asked-keeps : (n : ℕ) → Covers asked-first t.line n → Covers (doing s b asking r t).fault t.line n
  unfolding asked pieced blame
  asked-keeps n c = blames_keep (a_fault t.line false false (over_by r.part.condition (length (105 ∷ decimal (table_number s (with_name 32 s r.known.inputs t) t)))) no_fault) t.line n c

  -- an input that finds no number
  pub asked-over : 32 ≤ number_in s t (input_names s h) → Covers (doing s b asking r t).fault t.line 18
  asked-over e =
      asked-keeps 18 (covers_18 r.fault t.line (is_new s r.known.inputs t && (is_declared s t || is_driven s t)) false (past_bound s 32 r.known.inputs t)
      (table-over s 32 (input_names s h) r.known.inputs g.tables.inputs t ∙ le-leb 32 _ e))

  -- one that is a step or an output: new, or judged before
  pub asked-judged : (is_declared s t || is_driven s t) ≡ true → Covers (doing s b asking r t).fault t.line 16
  asked-judged w = go (is_new s r.known.inputs t) refl
    where
      go : (x : Bool) → is_new s r.known.inputs t ≡ x → Covers (doing s b asking r t).fault t.line 16
      go true e = asked-keeps 16 (covers_16 r.fault t.line (is_new s r.known.inputs t && (is_declared s t || is_driven s t)) false (past_bound s 32 r.known.inputs t) (both _ _ e w))
      go false e = carry (doing_fault s b asking is-asking r t) 16 (j.names.asked t e w)

  -- a variable's bytes: its number is exact, or it found none
  asked_sized : Sized (doing s b asking r t).part.condition.size (length (written s h ++ (105 ∷ decimal (number_in s t (input_names s h))))) (doing s b asking r t).fault t.line
  unfolding asked pieced blame
  asked_sized = go (leb 32 (number_in s t (input_names s h))) refl
    where
      go : (x : Bool) → leb 32 (number_in s t (input_names s h)) ≡ x
          → Sized (put_bytes r.part.condition (105 ∷ decimal (table_number s (with_name 32 s r.known.inputs t) t))).size (length (written s h ++ (105 ∷ decimal (number_in s t (input_names s h)))))
          (doing s b asking r t).fault t.line
      go true e = past (asked-over (leb-true 32 _ e))
      go false e =
          let n = leb-false 32 (number_in s t (input_names s h)) e in
          let c = joined_number s 32 (input_names s h) r.known.inputs t g.tables.inputs (omega arith) in
          let d : table_number s (with_name 32 s r.known.inputs t) t ≡ number_in s t (input_names s h) = omega arith in
          subst (λ (n : ℕ). Sized (put_bytes r.part.condition (105 ∷ decimal n)).size (length (written s h ++ (105 ∷ decimal (number_in s t (input_names s h))))) (doing s b asking r t).fault t.line)
          (sym d) (sized_more (doing_fault s b asking is-asking r t) (105 ∷ decimal (number_in s t (input_names s h))))

  -- a list's step: new, or judged before
  pub listed-judged : is_undeclared s t ≡ true → Covers (doing s b enlisting r t).fault t.line 17
  unfolding listed blame
  listed-judged w = go (is_new s r.known.steps t) refl
    where
      go : (x : Bool) → is_new s r.known.steps t ≡ x → Covers (doing s b enlisting r t).fault t.line 17
      go true e =
          covers_17 r.fault t.line (is_listed s r.part.start t) (is_new s r.known.steps t && is_undeclared s t) (past_bound s 30 r.known.steps t) (both _ _ e w)
      go false e = carry (doing_fault s b enlisting is-enlisting r t) 17 (j.names.undeclared t e w)

  declared-judged : is_undeclared s t ≡ true → Covers (doing s b declaring r t).fault t.line 17
  unfolding declared blame
  declared-judged w =
      covers_later _ t.line t.line 16 17 (covers_16 r.fault t.line (not (is_first s t)) false (past_bound s 30 r.known.steps t) (undeclared-first s t w)) (omega arith) (omega arith)

  -- what was judged after one token more
  pub judged-more : (c : ℕ) → Place c → (not (in_action p') || (eqb c acting || in_action p)) ≡ true → (not (eqb c closing) || in_action p) ≡ true
      → Judged s (variable_of (record { place = c; token = t } ∷ h)) (length (written s (record { place = c; token = t } ∷ h)))
      (doing s b c r t).known (doing s b c r t).part.condition.size (doing s b c r t).fault p' t.line
  unfolding entered declared meant qualified driven listing listed assigned asked pieced moved blame variable_of written
  judged-more c is-entering a z = plain (doing_fault s b entering is-entering r t) a
  judged-more c is-declaring a z =
      let q = doing_fault s b declaring is-declaring r t in
      let k = plain q a in
      record {
        names = record { undeclared = steps-judged q (λ i w. declared-judged w); driven = k.names.driven; asked = k.names.asked };
        pending = k.pending;
        sized = k.sized;
      }
  judged-more c is-acting a z =
      let q = doing_fault s b acting is-acting r t in
      record { names = same_names q; pending = λ e w. meant-judged w; sized = same_size q }
  judged-more c is-qualifying a z = plain no_fault a
  judged-more c is-closing a z =
      let q = doing_fault s b closing is-closing r t in
      let k = plain q a in
      record {
        names = record {
          undeclared = k.names.undeclared;
          driven = outputs-judged q r.part.variable g.parts.variable (λ w. carry q 16 (j.pending z w));
          asked = k.names.asked;
        };
        pending = k.pending;
        sized = k.sized;
      }
  judged-more c is-beginning a z = plain no_fault a
  judged-more c is-enlisting a z =
      let q = doing_fault s b enlisting is-enlisting r t in
      let k = plain q a in
      record {
        names = record { undeclared = steps-judged q (λ i w. listed-judged w); driven = k.names.driven; asked = k.names.asked };
        pending = k.pending;
        sized = k.sized;
      }
  judged-more c is-assigning a z =
      let k = plain no_fault a in
      record { names = k.names; pending = k.pending; sized = exact (omega arith) }
  judged-more c is-asking a z =
      let q = doing_fault s b asking is-asking r t in
      let k = plain q a in
      record {
        names = record { undeclared = k.names.undeclared; driven = k.names.driven; asked = inputs-judged q (λ i w. asked-judged w) };
        pending = k.pending;
        sized = asked_sized;
      }
  judged-more c is-joining a z =
      let q = doing_fault s b joining is-joining r t in
      let k = plain q a in
      record { names = k.names; pending = k.pending; sized = sized_more q (sign_bytes t.kind) }
  judged-more c is-ending a z = plain no_fault a
  judged-more c is-other a z = plain no_fault a
