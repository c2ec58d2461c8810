-- A transition of the grammar, read by the code's fold: its move is made.
use mathlib.Core.Bool.{true, false}
use mathlib.Core.List.{List, [], ◌∷◌, ◌++◌}
use mathlib.Core.Path.{◌≡◌, refl, ap, ◌∙◌}
use Prim.Native.Nat.{ℕ, ◌≤◌}
use native.Mathlib.Omega.{arith}
use lib.Dec.{leb}
use lib.ListN.{length, take}
use Rattle.std.specs.Prelude.{None}
use Rattle.line.specs.Chart.{Move}
use Rattle.line.specs.Write.{Line, move'}
use Rattle.tokens.specs.declared.Token.{Token}
use Rattle.tokens.specs.declared.Kind.TheVariants.{Transition, From, To, EndTransition, Assign, Semicolon}
use Rattle.naming.specs.declared.Names.{Names}
use Rattle.naming.proofs.Tables.{Table}
use Rattle.grammar.specs.Program.{Expr, Program}
use Rattle.grammar.specs.Program as program
use Rattle.grammar.specs.Grammar.{Is, condition, Reads, Steps}
use Rattle.grammar.specs.Rows.{next_due, next_in}
use Rattle.grammar.specs.declared.Phase.TheVariants.{Outside as outside, FromDue, BeforeDue, ToDue, AfterDue, AssignDue, OperandDue, OperatorDue, EndDue}
use Rattle.outline.specs.declared.Reading.{Reading}
use Rattle.outline.specs.declared.Condition.{Condition}
use Rattle.outline.specs.declared.Made.{Made}
use Rattle.outline.specs.Reading.{with_due, with_made, with_lists, up_to64, listing, assigned, moved, headed, conditioned, acted, reading_from, stepped}
use Rattle.outline.proofs.Steps.{due, follows, step_is}
use Rattle.outline.proofs.Spelt.{spelt_length}
use Rattle.writer.specs.Lines.{word_items, made, move_made, moves_made, holds_made, latches_made}
use Rattle.writer.proofs.Goes.{Goes, goes_one, goes_then, goes_making, still}
use Rattle.sfc.specs.Chart.{Map, step_tokens, initial_tokens, input_tokens, output_tokens, asked_by, numbers_of, step_list, spell, moves_of, holds_of, latches_of}
use Rattle.sfc.proofs.Marks.{marked, marks-none}
use Rattle.sfc.proofs.Rooms.{few_move, room_move}
use Rattle.sfc.proofs.Spelling.{inside, none_made, spells}
use Rattle.sfc.proofs.Listing.{among', lists}
use Rattle.sfc.proofs.Told.{Outside, Tells, enters}

-- one move more
abbrev moves' : Made → Made
moves' k = record { moves = up_to64 k.moves; holds = k.holds; latches = k.latches; held = k.held; latched = k.latched }

-- a condition of no byte yet
abbrev emptied : Condition → Condition
emptied c = record { bytes = c.bytes; size = 0 }

module _ (s : List ℕ) (r : Reading) (t : Token) (us : List Token) where
  -- the tokens of a transition that are in no list and no condition: FROM
  from_goes : Is t From → Goes s (with_due r (due FromDue 0)) (t ∷ us) [] (among' (with_lists r t.place 0 r.part.listed) BeforeDue r.known.steps 0) us
  unfolding next_due next_in acted headed listing
  from_goes i =
      let q : Reading = among' (with_lists r t.place 0 r.part.listed) BeforeDue r.known.steps 0 in
      goes_one s (with_due r (due FromDue 0)) q t us []
      (step_is s (with_due r (due FromDue 0)) t From FromDue 0 BeforeDue 0 refl i (follows FromDue 0 From refl refl)) (none_made q refl refl)

  -- TO
  to_goes : (n : Names) (w : ℕ) → Is t To → Goes s (among' r ToDue n w) (t ∷ us) [] (among' (with_lists r t.place 0 w) AfterDue n 0) us
  unfolding next_due next_in acted headed listing
  to_goes n w i =
      let q : Reading = among' (with_lists r t.place 0 w) AfterDue n 0 in
      goes_one s (among' r ToDue n w) q t us []
      (step_is s (among' r ToDue n w) t To ToDue 0 AfterDue 0 refl i (follows ToDue 0 To refl refl)) (none_made q refl refl)

  -- `:=`
  assign_goes : (n : Names) (w : ℕ) → Is t Assign
      → Goes s (among' r AssignDue n w) (t ∷ us) [] (inside (among' r AssignDue n w) OperandDue 0 r.known.inputs (emptied r.part.condition)) us
  unfolding next_due next_in acted headed assigned
  assign_goes n w i =
      let q : Reading = inside (among' r AssignDue n w) OperandDue 0 r.known.inputs (emptied r.part.condition) in
      goes_one s (among' r AssignDue n w) q t us []
      (step_is s (among' r AssignDue n w) t Assign AssignDue 0 OperandDue 0 refl i (follows AssignDue 0 Assign refl refl)) (none_made q refl refl)

  -- the move that is made at the end of the condition
  made_move : (n : Names) (c : Condition) → made (with_made (inside r EndDue 0 n c) (moves' r.made)) ≡ move' (move_made (inside r EndDue 0 n c)) ∷ []
  unfolding made
  made_move n c = refl

  -- `;`
  moved_goes : (n : Names) (c : Condition) → Is t Semicolon
      → Goes s (inside r OperatorDue 0 n c) (t ∷ us) (move' (move_made (inside r EndDue 0 n c)) ∷ []) (with_made (inside r EndDue 0 n c) (moves' r.made)) us
  unfolding next_due next_in acted conditioned moved
  moved_goes n c i =
      let q : Reading = with_made (inside r EndDue 0 n c) (moves' r.made) in
      goes_one s (inside r OperatorDue 0 n c) q t us (move' (move_made (inside r EndDue 0 n c)) ∷ [])
      (step_is s (inside r OperatorDue 0 n c) t Semicolon OperatorDue 0 EndDue 0 refl i (follows OperatorDue 0 Semicolon refl refl) ∙ rw i) (made_move n c)

  -- END_TRANSITION
  end_goes : (n : Names) (c : Condition) (k : Made) → Is t EndTransition → Goes s (with_made (inside r EndDue 0 n c) k) (t ∷ us) [] (with_made (inside r outside 0 n c) k) us
  unfolding next_due next_in acted stepped
  end_goes n c k i =
      let q : Reading = with_made (inside r outside 0 n c) k in
      goes_one s (with_made (inside r EndDue 0 n c) k) q t us []
      (step_is s (with_made (inside r EndDue 0 n c) k) t EndTransition EndDue 0 outside 0 refl i (follows EndDue 0 EndTransition refl refl)) (none_made q refl refl)

module _ (s : List ℕ) (m : Map) where
  -- what the lists of a transition have done
  record Headed (r : Reading) (us vs rest before after : List Token) : Type 0 where
    base : Reading
    names : Names
    word : ℕ
    goes : Goes s r us [] (among' base AssignDue names word) vs
    table : Table s m.steps 30 names rest
    first : word_items base.part.before ≡ step_list s m before
    second : word_items word ≡ step_list s m after
    same-made : base.made ≡ r.made
    same-initial : base.known.initial ≡ r.known.initial
    same_inputs : base.known.inputs ≡ r.known.inputs
    same-outputs : base.known.outputs ≡ r.known.outputs
    same-condition : base.part.condition ≡ r.part.condition
    few : leb 64 r.made.moves ≡ false

  -- TRANSITION, the steps before, and the steps after
  heads : (r : Reading) (k f t : Token) (us vs ws before after rest : List Token) → r.due ≡ due outside 0 → Is k Transition → Is f From → Steps us (t ∷ vs) before → Is t To → Steps vs ws after
      → Table s m.steps 30 r.known.steps (before ++ (after ++ rest)) → (reading_from s r (k ∷ f ∷ us)).fault ≡ None → Headed r (k ∷ f ∷ us) ws rest before after
  unfolding next_due next_in
  heads r k f t us vs ws before after rest d i j x y z l h =
      let a = enters s r k (f ∷ us) Transition FromDue d i (follows outside 0 Transition refl refl) (refl, refl, refl) h in
      let b = from_goes s r f us j in
      let r1 : Reading = with_lists r f.place 0 r.part.listed in
      let c = lists s m r1 false (after ++ rest) x r.known.steps 0 [] (marks-none (length m.steps)) l (still s b (still s a.0 h)) in
      let h1 : (reading_from s (among' r1 ToDue c.names c.word) (t ∷ vs)).fault ≡ None = still s c.goes (still s b (still s a.0 h)) in
      let e = to_goes s r1 t vs c.names c.word y in
      let r2 : Reading = with_lists r1 t.place 0 c.word in
      let g = lists s m r2 true rest z c.names 0 [] (marks-none (length m.steps)) c.table (still s e h1) in
      let q : Reading = among' r2 AssignDue g.names g.word in
      record {
        base = r2;
        names = g.names;
        word = g.word;
        goes = goes_then s {o = q} a.0 (goes_then s {o = q} b (goes_then s {o = q} c.goes (goes_then s {o = q} e g.goes)));
        table = g.table;
        first = marked (length m.steps) c.word (numbers_of s m.steps before) c.marks;
        second = marked (length m.steps) g.word (numbers_of s m.steps after) g.marks;
        same-made = refl;
        same-initial = refl;
        same_inputs = refl;
        same-outputs = refl;
        same-condition = refl;
        few = a.1;
      }

  -- what a whole transition has done
  record Crossed (r : Reading) (us xs before after : List Token) (c : Expr) (l : List ℕ) (p : Program) : Type 0 where
    last : Reading
    goes : Goes s r us (move' (record { before = step_list s m before; after = step_list s m after; condition = spell s m c }) ∷ []) last xs
    outside' : Outside s m last l p
    made' : last.made ≡ moves' r.made
    same-initial : last.known.initial ≡ r.known.initial
    few : leb 64 r.made.moves ≡ false
    short : length (spell s m c) ≤ 64

  -- moves are equal by their parts
  move_is : (a b c a' b' c' : List ℕ) → a ≡ a' → b ≡ b' → c ≡ c'
      → ◌≡◌ {A = List Line} (move' (record { before = a; after = b; condition = c }) ∷ []) (move' (record { before = a'; after = b'; condition = c' }) ∷ [])
  move_is a b c a' b' c' p q r = rw (p, q, r)

  -- then the condition, and the end
  crosses : (r : Reading) (us ws xs before after : List Token) (a z e : Token) (c : Expr) (l : List ℕ) (p : Program) → Outside s m r l (program.transition before after c ∷ p)
      → Headed r us (a ∷ ws) (step_tokens p) before after → Is a Assign → Reads condition ws (z ∷ e ∷ xs) c → Is z Semicolon → Is e EndTransition
      → (reading_from s r us).fault ≡ None → Crossed r us xs before after c l p
  unfolding input_tokens output_tokens
  crosses r us ws xs before after a z e c l p o h i x j k f =
      let b : Reading = among' h.base AssignDue h.names h.word in
      let c0 : Condition = emptied h.base.part.condition in
      let w : length h.base.part.condition.bytes ≡ 64 = rw h.same-condition o.wide in
      let g1 = assign_goes s h.base a ws h.names h.word i in
      let t : Table s m.inputs 32 h.base.known.inputs (asked_by c ++ input_tokens p) = rw h.same_inputs o.inputs in
      let y = spells s m x false b h.base.known.inputs c0 [] 0 (input_tokens p) (omega arith) (record { wide = w; few = omega arith; is = refl }) t (still s g1 (still s h.goes f)) in
      let q : Reading = with_made (inside b outside 0 y.names y.bytes') (moves' b.made) in
      let g : Goes s r us (move' (move_made (inside b EndDue 0 y.names y.bytes')) ∷ []) q xs =
      goes_then s {o = q} h.goes (goes_then s {o = q} g1 (goes_then s {o = q} y.goes
      (goes_then s {o = q} (moved_goes s b z (e ∷ xs) y.names y.bytes' j) (end_goes s b e xs y.names y.bytes' (moves' b.made) k)))) in
      let v = move_is (word_items h.base.part.before) (word_items h.word) (take y.bytes'.size y.bytes'.bytes)
      (step_list s m before) (step_list s m after) (spell s m c) h.first h.second y.spelt.is in
      record {
        last = q;
        goes = goes_making s {q = q} g v;
        outside' =
            record {
              due' = refl;
              steps = h.table;
              inputs = y.table;
              outputs = rw h.same-outputs o.outputs;
              initial = rw h.same-initial o.initial;
              few = rw h.same-made (few_move r.made o.few);
              wide = y.spelt.wide;
            };
        made' = ap moves' h.same-made;
        same-initial = h.same-initial;
        few = h.few;
        short = let u = spelt_length y.bytes' (spell s m c) y.spelt in let d = y.spelt.few in omega arith;
      }

  -- a transition, and then the rest of the text
  tells_crossed : (r : Reading) (us xs before after : List Token) (c : Expr) (l : List ℕ) (p : Program) → (x : Crossed r us xs before after c l p)
      → Tells s m x.last xs l p → Tells s m r us l (program.transition before after c ∷ p)
  unfolding initial_tokens moves_of holds_of latches_of moves_made holds_made latches_made
  tells_crossed r us xs before after c l p x t =
      let e = x.goes.runs in
      record {
        steps = rw e t.steps;
        inputs = rw e t.inputs;
        outputs = rw e t.outputs;
        initial = rw e t.initial;
        none = rw e (t.none ∙ rw x.same-initial);
        moves = rw x.goes.lines (ap (λ (u : List Move). record { before = step_list s m before; after = step_list s m after; condition = spell s m c } ∷ u) t.moves);
        holds = rw x.goes.lines t.holds;
        latches = rw x.goes.lines t.latches;
        room = room_move r.made (moves_of s m p) (holds_of s m p) (latches_of s m p) (record { before = step_list s m before; after = step_list s m after; condition = spell s m c })
            x.few x.short (rw x.made' at t.room);
      }

  -- a transition of the grammar, with what the rest of the text tells
  pub tells-transition : (r : Reading) (us vs ws xs before after : List Token) (k f t a z e : Token) (c : Expr) (l : List ℕ) (p : Program) → Outside s m r l (program.transition before after c ∷ p)
      → Is k Transition → Is f From → Steps us (t ∷ vs) before → Is t To → Steps vs (a ∷ ws) after → Is a Assign → Reads condition ws (z ∷ e ∷ xs) c → Is z Semicolon → Is e EndTransition
      → (reading_from s r (k ∷ f ∷ us)).fault ≡ None → ((q : Reading) (i : List ℕ) → Outside s m q i p → (reading_from s q xs).fault ≡ None → Tells s m q xs i p)
      → Tells s m r (k ∷ f ∷ us) l (program.transition before after c ∷ p)
  unfolding step_tokens
  tells-transition r us vs ws xs before after k f t a z e c l p o i1 i2 x i3 y i4 v i5 i6 h next =
      let d = heads r k f t us vs (a ∷ ws) before after (step_tokens p) o.due' i1 i2 x i3 y o.steps h in
      let g = crosses r (k ∷ f ∷ us) ws xs before after a z e c l p o d i4 v i5 i6 h in
      tells_crossed r (k ∷ f ∷ us) xs before after c l p g (next g.last l g.outside' (still s g.goes h))
