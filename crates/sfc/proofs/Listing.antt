-- A list of steps of the grammar, read by the code's fold: its names are joined, and the word of the list has their numbers.
use mathlib.Core.Bool.{Bool, true, false, ◌||◌}
use mathlib.Core.List.{List, [], ◌∷◌, ◌++◌, append_assoc}
use mathlib.Core.Path.{◌≡◌, refl, sym, ap, ◌∙◌}
use Prim.Native.Nat.{ℕ}
use native.Mathlib.Omega.{arith}
use lib.Bits.{bit_or}
use lib.ListN.{length}
use Rattle.std.specs.Prelude.{None}
use Rattle.text.specs.Words.{bit_at}
use Rattle.tokens.specs.declared.Token.{Token}
use Rattle.tokens.specs.declared.Kind.{Kind}
use Rattle.tokens.specs.Kinds.{same_kind}
use Rattle.tokens.specs.declared.Kind.TheVariants.{Name, Open, Close, Comma}
use Rattle.naming.specs.declared.Names.{Names}
use Rattle.naming.specs.Names.{number_in, with_name, table_number}
use Rattle.naming.proofs.Tables.{Table, joins}
use Rattle.grammar.specs.Grammar.{Is, Others, last, more_names, Steps, one, several}
use Rattle.grammar.specs.declared.Phase.{Phase}
use Rattle.grammar.specs.Rows.{next_due, next_in, same_phase}
use Rattle.grammar.specs.declared.Phase.TheVariants.{EndDue, SemicolonDue, Stopped, FromDue, BeforeDue, BeforeFirst, BeforeComma, BeforeName, BeforeMore, ToDue, AfterDue, AfterFirst, AfterComma, AfterName, AfterMore, AssignDue}
use Rattle.outline.specs.Faults.{in_lists}
use Rattle.outline.specs.declared.Reading.{Reading}
use Rattle.outline.specs.Reading.{reading, listed, acted, headed, after_token, reading_from}
use Rattle.outline.proofs.Steps.{due, Follows, follows, step_is, listed_fine}
use Rattle.writer.proofs.Goes.{Goes, goes_one, goes_then, still, first_fine}
use Rattle.sfc.specs.Chart.{Map, numbers_of}
use Rattle.sfc.proofs.Marks.{Marks, marks-more}
use Rattle.sfc.proofs.Spelling.{none_made}

-- r in a list: what is due, the table of steps, and the word of those listed so far
abbrev pub among' : Reading → Phase → Names → ℕ → Reading
among' r p n w =
    reading (due p 0) r.fault (record { steps = n; inputs = r.known.inputs; outputs = r.known.outputs; initial = r.known.initial }) r.made
    (record {
      step = r.part.step;
      variable = r.part.variable;
      qualifier = r.part.qualifier;
      output = r.part.output;
      start = r.part.start;
      listed = w;
      before = r.part.before;
      condition = r.part.condition;
    })

-- a token inside a list: p was due, p' is due then
abbrev InList : Phase → Phase → Type 0
InList p p' =
    (same_phase p' Stopped ≡ false) × (in_lists p ≡ true) × ((same_phase p FromDue || same_phase p ToDue) ≡ false) × (same_phase p AssignDue ≡ false)
    × (same_phase p' EndDue ≡ false) × (same_phase p' SemicolonDue ≡ false)

module _ (s : List ℕ) (m : Map) where
  -- what a list, or a part of it, has done
  pub record Lists (r : Reading) (p : Phase) (n : Names) (w : ℕ) (us : List Token) (rest : List Token) (p' : Phase) (l : List ℕ) (vs : List Token) : Type 0 where
    pub names : Names
    pub word : ℕ
    pub goes : Goes s (among' r p n w) us [] (among' r p' names word) vs
    pub table : Table s m.steps 30 names rest
    pub marks : Marks (length m.steps) word l

  -- a name in a list is listed
  name_acts : (r : Reading) (t : Token) (p : Phase) → Is t Name → InList p r.due.phase → acted s p r t ≡ listed s r t
  unfolding acted headed
  name_acts r t p i b = rw (b.0, b.1, b.2, b.3, i)

  -- a bracket or comma does nothing
  sign_acts : (r : Reading) (t : Token) (p : Phase) (k : Kind) → Is t k → same_kind k Name ≡ false → InList p r.due.phase → acted s p r t ≡ r
  unfolding acted headed
  sign_acts r t p k i e b = rw (b.0, b.1, b.2, b.3, i, e)

  module _ (r : Reading) (n : Names) (w : ℕ) (l : List ℕ) (g : Marks (length m.steps) w l) (rest : List Token) (t : Token) (us : List Token) (p p' : Phase) (b : InList p p') where
    -- a name in a list
    a_name : Is t Name → Follows p 0 Name p' 0 → Table s m.steps 30 n (t ∷ rest) → (reading_from s (among' r p n w) (t ∷ us)).fault ≡ None
        → Lists r p n w (t ∷ us) rest p' (l ++ number_in s t m.steps ∷ []) us
    a_name i f k h =
        let q : Reading = among' r p' n w in
        let e : after_token s (among' r p n w) t ≡ listed s q t = step_is s (among' r p n w) t Name p 0 p' 0 refl i f ∙ name_acts q t p i b in
        let z = listed_fine s q t (sym (ap (λ (x : Reading). x.fault) e) ∙ first_fine s (among' r p n w) t us h) in
        let j = joins s m.steps 30 n t rest (omega arith) k z.free in
        let v : ℕ = table_number s (with_name 30 s n t) t in
        let q' : Reading = among' r p' (with_name 30 s n t) (bit_or w (bit_at v)) in
        let x = j.within in
        let y = j.below in
        let a = marks-more (length m.steps) w (number_in s t m.steps) l x (omega arith) g in
        record {
          names = with_name 30 s n t;
          word = bit_or w (bit_at v);
          goes = goes_one s (among' r p n w) q' t us [] (e ∙ z.is) (none_made q' b.4 b.5);
          table = j.table;
          marks = rw j.number a;
        }

    -- a bracket or comma
    a_sign : (k : Kind) → Is t k → same_kind k Name ≡ false → Follows p 0 k p' 0 → Table s m.steps 30 n rest → Lists r p n w (t ∷ us) rest p' l us
    a_sign k i o f a =
        let q : Reading = among' r p' n w in
        record {
          names = n;
          word = w;
          goes = goes_one s (among' r p n w) q t us [] (step_is s (among' r p n w) t k p 0 p' 0 refl i f ∙ sign_acts q t p k i o b) (none_made q b.4 b.5);
          table = a;
          marks = g;
        }

  -- a part, and then another
  lists_then : {r : Reading} {p p' q : Phase} {w : ℕ} {n : Names} {l k : List ℕ} {us vs ws rest rest' : List Token} → Lists r p n w us rest p' l vs
      → ((o : Names) (v : ℕ) → Table s m.steps 30 o rest → Marks (length m.steps) v l → (reading_from s (among' r p' o v) vs).fault ≡ None → Lists r p' o v vs rest' q k ws)
      → (reading_from s (among' r p n w) us).fault ≡ None → Lists r p n w us rest' q k ws
  lists_then a f h =
      let b = f a.names a.word a.table a.marks (still s a.goes h) in
      record { names = b.names; word = b.word; goes = goes_then s a.goes b.goes; table = b.table; marks = b.marks }

-- What is due in a list of the steps before, and of those after

abbrev pub list_due : Bool → Phase
list_due false = BeforeDue
list_due true = AfterDue

abbrev pub first_due : Bool → Phase
first_due false = BeforeFirst
first_due true = AfterFirst

abbrev pub comma_due : Bool → Phase
comma_due false = BeforeComma
comma_due true = AfterComma

abbrev pub name_due : Bool → Phase
name_due false = BeforeName
name_due true = AfterName

abbrev pub more_due : Bool → Phase
more_due false = BeforeMore
more_due true = AfterMore

abbrev pub list_end : Bool → Phase
list_end false = ToDue
list_end true = AssignDue

module _ (s : List ℕ) (m : Map) (r : Reading) (n : Names) (w : ℕ) (l : List ℕ) (g : Marks (length m.steps) w l) (rest : List Token) (t : Token) (us : List Token) where
  -- the only name of a list
  only-name : (side : Bool) → Is t Name → Table s m.steps 30 n (t ∷ rest) → (reading_from s (among' r (list_due side) n w) (t ∷ us)).fault ≡ None
      → Lists s m r (list_due side) n w (t ∷ us) rest (list_end side) (l ++ number_in s t m.steps ∷ []) us
  unfolding next_due next_in
  only-name false i k h = a_name s m r n w l g rest t us BeforeDue ToDue (refl, refl, refl, refl, refl, refl) i (follows BeforeDue 0 Name refl refl) k h
  only-name true i k h = a_name s m r n w l g rest t us AfterDue AssignDue (refl, refl, refl, refl, refl, refl) i (follows AfterDue 0 Name refl refl) k h

  -- the first name in brackets
  first-name : (side : Bool) → Is t Name → Table s m.steps 30 n (t ∷ rest) → (reading_from s (among' r (first_due side) n w) (t ∷ us)).fault ≡ None
      → Lists s m r (first_due side) n w (t ∷ us) rest (comma_due side) (l ++ number_in s t m.steps ∷ []) us
  unfolding next_due next_in
  first-name false i k h = a_name s m r n w l g rest t us BeforeFirst BeforeComma (refl, refl, refl, refl, refl, refl) i (follows BeforeFirst 0 Name refl refl) k h
  first-name true i k h = a_name s m r n w l g rest t us AfterFirst AfterComma (refl, refl, refl, refl, refl, refl) i (follows AfterFirst 0 Name refl refl) k h

  -- a further one
  next-name : (side : Bool) → Is t Name → Table s m.steps 30 n (t ∷ rest) → (reading_from s (among' r (name_due side) n w) (t ∷ us)).fault ≡ None
      → Lists s m r (name_due side) n w (t ∷ us) rest (more_due side) (l ++ number_in s t m.steps ∷ []) us
  unfolding next_due next_in
  next-name false i k h = a_name s m r n w l g rest t us BeforeName BeforeMore (refl, refl, refl, refl, refl, refl) i (follows BeforeName 0 Name refl refl) k h
  next-name true i k h = a_name s m r n w l g rest t us AfterName AfterMore (refl, refl, refl, refl, refl, refl) i (follows AfterName 0 Name refl refl) k h

  -- the brackets and commas
  opening : (side : Bool) → Is t Open → Table s m.steps 30 n rest → Lists s m r (list_due side) n w (t ∷ us) rest (first_due side) l us
  unfolding next_due next_in
  opening false i k = a_sign s m r n w l g rest t us BeforeDue BeforeFirst (refl, refl, refl, refl, refl, refl) Open i refl (follows BeforeDue 0 Open refl refl) k
  opening true i k = a_sign s m r n w l g rest t us AfterDue AfterFirst (refl, refl, refl, refl, refl, refl) Open i refl (follows AfterDue 0 Open refl refl) k

  first-comma : (side : Bool) → Is t Comma → Table s m.steps 30 n rest → Lists s m r (comma_due side) n w (t ∷ us) rest (name_due side) l us
  unfolding next_due next_in
  first-comma false i k = a_sign s m r n w l g rest t us BeforeComma BeforeName (refl, refl, refl, refl, refl, refl) Comma i refl (follows BeforeComma 0 Comma refl refl) k
  first-comma true i k = a_sign s m r n w l g rest t us AfterComma AfterName (refl, refl, refl, refl, refl, refl) Comma i refl (follows AfterComma 0 Comma refl refl) k

  next-comma : (side : Bool) → Is t Comma → Table s m.steps 30 n rest → Lists s m r (more_due side) n w (t ∷ us) rest (name_due side) l us
  unfolding next_due next_in
  next-comma false i k = a_sign s m r n w l g rest t us BeforeMore BeforeName (refl, refl, refl, refl, refl, refl) Comma i refl (follows BeforeMore 0 Comma refl refl) k
  next-comma true i k = a_sign s m r n w l g rest t us AfterMore AfterName (refl, refl, refl, refl, refl, refl) Comma i refl (follows AfterMore 0 Comma refl refl) k

  closing : (side : Bool) → Is t Close → Table s m.steps 30 n rest → Lists s m r (more_due side) n w (t ∷ us) rest (list_end side) l us
  unfolding next_due next_in
  closing false i k = a_sign s m r n w l g rest t us BeforeMore ToDue (refl, refl, refl, refl, refl, refl) Close i refl (follows BeforeMore 0 Close refl refl) k
  closing true i k = a_sign s m r n w l g rest t us AfterMore AssignDue (refl, refl, refl, refl, refl, refl) Close i refl (follows AfterMore 0 Close refl refl) k

module _ (s : List ℕ) (m : Map) (r : Reading) (side : Bool) (n : Names) (w : ℕ) (l : List ℕ) (rest : List Token) (g : Marks (length m.steps) w l) where
  -- the rest of a list after the numbers k
  abbrev Rest : List ℕ → List Token → List Token → List Token → Type 0
  Rest k us vs ns =
      (o : Names) (v : ℕ) → Table s m.steps 30 o (ns ++ rest) → Marks (length m.steps) v k → (reading_from s (among' r (name_due side) o v) us).fault ≡ None
      → Lists s m r (name_due side) o v us rest (list_end side) (k ++ numbers_of s m.steps ns) vs

  -- the last name and its bracket
  last-other : (t c : Token) (us : List Token) → Is t Name → Is c Close → Table s m.steps 30 n (t ∷ rest) → (reading_from s (among' r (name_due side) n w) (t ∷ c ∷ us)).fault ≡ None
      → Lists s m r (name_due side) n w (t ∷ c ∷ us) rest (list_end side) (l ++ numbers_of s m.steps (t ∷ [])) us
  unfolding numbers_of
  last-other t c us i j k h =
      lists_then s m (next-name s m r n w l g rest t (c ∷ us) side i k h) (λ o v a b z. closing s m r o v (l ++ number_in s t m.steps ∷ []) b rest c us side j a) h

  -- a name, its comma, and the rest
  more-others : (t c : Token) (us vs ns : List Token) → Is t Name → Is c Comma → Table s m.steps 30 n (t ∷ (ns ++ rest)) → (reading_from s (among' r (name_due side) n w) (t ∷ c ∷ us)).fault ≡ None
      → Rest (l ++ number_in s t m.steps ∷ []) us vs ns → Lists s m r (name_due side) n w (t ∷ c ∷ us) rest (list_end side) (l ++ numbers_of s m.steps (t ∷ ns)) vs
  unfolding numbers_of
  more-others t c us vs ns i j k h f =
      rw (append_assoc l (number_in s t m.steps ∷ []) (numbers_of s m.steps ns)) at
      (lists_then s m (next-name s m r n w l g (ns ++ rest) t (c ∷ us) side i k h)
      (λ o v a b z. lists_then s m (next-comma s m r o v (l ++ number_in s t m.steps ∷ []) b (ns ++ rest) c us side j a) f z) h)

  -- the first name in brackets, and the rest
  bracketed : (o t c : Token) (us vs ns : List Token) → Is o Open → Is t Name → Is c Comma → Table s m.steps 30 n (t ∷ (ns ++ rest)) → (reading_from s (among' r (list_due side) n w) (o ∷ t ∷ c ∷ us)).fault ≡ None
      → Rest (l ++ number_in s t m.steps ∷ []) us vs ns → Lists s m r (list_due side) n w (o ∷ t ∷ c ∷ us) rest (list_end side) (l ++ numbers_of s m.steps (t ∷ ns)) vs
  unfolding numbers_of
  bracketed o t c us vs ns i j y k h f =
      rw (append_assoc l (number_in s t m.steps ∷ []) (numbers_of s m.steps ns)) at
      (lists_then s m (opening s m r n w l g (t ∷ (ns ++ rest)) o (t ∷ c ∷ us) side i k)
      (λ n1 v1 a1 b1 z1. lists_then s m (first-name s m r n1 v1 l b1 (ns ++ rest) t (c ∷ us) side j a1 z1)
      (λ n2 v2 a2 b2 z2. lists_then s m (first-comma s m r n2 v2 (l ++ number_in s t m.steps ∷ []) b2 (ns ++ rest) c us side y a2) f z2) z1) h)

  -- a name alone
  only : (t : Token) (us : List Token) → Is t Name → Table s m.steps 30 n (t ∷ rest) → (reading_from s (among' r (list_due side) n w) (t ∷ us)).fault ≡ None
      → Lists s m r (list_due side) n w (t ∷ us) rest (list_end side) (l ++ numbers_of s m.steps (t ∷ [])) us
  unfolding numbers_of
  only t us i k h = only-name s m r n w l g rest t us side i k h

module _ (s : List ℕ) (m : Map) (r : Reading) (side : Bool) (rest : List Token) where
  -- the names after the first
  others : {us vs ns : List Token} → Others us vs ns → (n : Names) (w : ℕ) (l : List ℕ) → Marks (length m.steps) w l → Table s m.steps 30 n (ns ++ rest)
      → (reading_from s (among' r (name_due side) n w) us).fault ≡ None → Lists s m r (name_due side) n w us rest (list_end side) (l ++ numbers_of s m.steps ns) vs
  others (last {t = t} {c = c} {us = us} i j) n w l g k h = last-other s m r side n w l rest g t c us i j k h
  others (more_names {t = t} {c = c} {us = us} {vs = vs} {ns = ns} i j x) n w l g k h =
      more-others s m r side n w l rest g t c us vs ns i j k h (λ o v a b z. others x o v (l ++ number_in s t m.steps ∷ []) b a z)

  -- a list of steps before a transition, or after it
  pub lists : {us vs ns : List Token} → Steps us vs ns → (n : Names) (w : ℕ) (l : List ℕ) → Marks (length m.steps) w l → Table s m.steps 30 n (ns ++ rest)
      → (reading_from s (among' r (list_due side) n w) us).fault ≡ None → Lists s m r (list_due side) n w us rest (list_end side) (l ++ numbers_of s m.steps ns) vs
  lists (one {t = t} {us = us} i) n w l g k h = only s m r side n w l rest g t us i k h
  lists (several {o = o} {t = t} {c = c} {us = us} {vs = vs} {ns = ns} i j y x) n w l g k h =
      bracketed s m r side n w l rest g o t c us vs ns i j y k h (λ o v a b z. others x o v (l ++ number_in s t m.steps ∷ []) b a z)
