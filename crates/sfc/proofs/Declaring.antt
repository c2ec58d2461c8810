-- A step of the grammar, read by the code's fold: its name is joined to the steps, and its actions are done.
use mathlib.Core.Bool.{Bool, true, false, cond, ◌&&◌}
use mathlib.Core.List.{List, [], ◌∷◌, ◌++◌, append_assoc, append-nil}
use mathlib.Core.Path.{◌≡◌, refl, sym, ap, ◌∙◌}
use Prim.Native.Nat.{ℕ, ◌<◌}
use native.Mathlib.Omega.{arith}
use lib.Bits.{bit_or}
use lib.Dec.{eqb}
use lib.ListN.{length}
use Rattle.std.specs.Prelude.{Option, None}
use Rattle.naming.specs.declared.Qualifier.{Qualifier}
use Rattle.line.specs.Chart.{Move, Hold, Latch}
use Rattle.text.specs.Words.{bit_at}
use Rattle.tokens.specs.declared.Token.{Token}
use Rattle.tokens.specs.declared.Kind.TheVariants.{Name, Colon, EndStep}
use Rattle.naming.specs.declared.Names.{Names}
use Rattle.naming.specs.Names.{number_in, with_name}
use Rattle.naming.proofs.Tables.{Table, joins}
use Rattle.grammar.specs.Program.{Action, Program}
use Rattle.grammar.specs.Program as program
use Rattle.grammar.specs.Grammar.{Is, Actions, step_kind}
use Rattle.grammar.specs.declared.Phase.{Phase}
use Rattle.grammar.specs.Rows.{next_due, next_in}
use Rattle.grammar.specs.declared.Phase.TheVariants.{Outside as outside, InitialName, StepName, ColonDue, ActionDue}
use Rattle.outline.specs.declared.Reading.{Reading}
use Rattle.outline.specs.declared.Made.{Made}
use Rattle.outline.specs.Reading.{with_due, with_steps, with_action, declared, stepped, acted, after_token, reading_from}
use Rattle.outline.proofs.Steps.{due, follows, step_is, declared_fine}
use Rattle.writer.specs.Lines.{lines_from}
use Rattle.writer.proofs.Goes.{Goes, goes_one, goes_then, goes_making, still, first_fine}
use Rattle.sfc.specs.Chart.{Map, step_tokens, initial_tokens, input_tokens, output_tokens, numbers_of, moves_of, holds_of, latches_of}
use Rattle.sfc.specs.Chart as charts
use Rattle.sfc.specs.Import.{is_none}
use Rattle.sfc.proofs.Marks.{Marks, marks-more, word_some}
use Rattle.sfc.proofs.Rooms.{Room}
use Rattle.sfc.proofs.Spelling.{none_made}
use Rattle.sfc.proofs.Acting.{acting}
use Rattle.sfc.proofs.Actions.{action_lines, moves_in, holds_in, latches_in, done}
use Rattle.sfc.proofs.Told.{Outside, Tells, enters}

-- the name of an initial step is due, or of another
abbrev declared_due : Bool → Phase
declared_due true = InitialName
declared_due false = StepName

-- r after the name of step j, with the steps and initial steps that are known then
abbrev opened : Reading → Phase → Names → ℕ → ℕ → Reading
opened r p n w j = with_action (with_steps (with_due r (due p 0)) n w) j r.part.variable r.part.qualifier r.part.output

-- the initial steps with step j, if it is one
abbrev initially : Bool → ℕ → ℕ → ℕ
initially initial w j = cond initial (bit_or w (bit_at j)) w

module _ (s : List ℕ) (r : Reading) (t : Token) (us : List Token) where
  -- the tokens of a step one by one: INITIAL_STEP or STEP
  word_goes : (initial : Bool) → r.due ≡ due outside 0 → Is t (step_kind s initial) → (reading_from s r (t ∷ us)).fault ≡ None → Goes s r (t ∷ us) [] (with_due r (due (declared_due initial) 0)) us
  unfolding next_due next_in
  word_goes true d i h = (enters s r t us (step_kind s true) InitialName d i (follows outside 0 (step_kind s true) refl refl) (refl, refl, refl) h).0
  word_goes false d i h = (enters s r t us (step_kind s false) StepName d i (follows outside 0 (step_kind s false) refl refl) (refl, refl, refl) h).0

  -- its name
  name-step : (initial : Bool) → Is t Name → after_token s (with_due r (due (declared_due initial) 0)) t ≡ declared s initial (with_due r (due ColonDue 0)) t
  unfolding next_due next_in acted stepped
  name-step true i = step_is s (with_due r (due InitialName 0)) t Name InitialName 0 ColonDue 0 refl i (follows InitialName 0 Name refl refl)
  name-step false i = step_is s (with_due r (due StepName 0)) t Name StepName 0 ColonDue 0 refl i (follows StepName 0 Name refl refl)

  -- its colon
  colon-step : (n : Names) (w j : ℕ) → Is t Colon → after_token s (opened r ColonDue n w j) t ≡ opened r ActionDue n w j
  unfolding next_due next_in acted stepped
  colon-step n w j i = step_is s (opened r ColonDue n w j) t Colon ColonDue 0 ActionDue 0 refl i (follows ColonDue 0 Colon refl refl)

  -- END_STEP
  end_step_lem : (n : Names) (k : Made) (u : Token) (a : Option Qualifier) (b : ℕ) → Is t EndStep → after_token s (acting r ActionDue n k u a b) t ≡ acting r outside n k u a b
  unfolding next_due next_in acted stepped
  end_step_lem n k u a b i = step_is s (acting r ActionDue n k u a b) t EndStep ActionDue 0 outside 0 refl i (follows ActionDue 0 EndStep refl refl) ∙ rw i

module _ (s : List ℕ) (m : Map) (n : Token) where
  -- the number of the step
  abbrev number' : ℕ
  number' = number_in s n m.steps

  -- what the head of a step has done
  record Opens (r : Reading) (us vs rest : List Token) (initial : Bool) : Type 0 where
    names : Names
    goes : Goes s r us [] (opened r ActionDue names (initially initial r.known.initial number') number') vs
    table : Table s m.steps 30 names rest
    within : number' < length m.steps
    below : number' < 30

  -- the head of a step
  opens : (r : Reading) (k c : Token) (us rest : List Token) (initial : Bool) → r.due ≡ due outside 0 → Is k (step_kind s initial) → Is n Name → Is c Colon
      → Table s m.steps 30 r.known.steps (n ∷ rest) → (reading_from s r (k ∷ n ∷ c ∷ us)).fault ≡ None → Opens r (k ∷ n ∷ c ∷ us) us rest initial
  opens r k c us rest initial d i j x l h =
      let g1 = word_goes s r k (n ∷ c ∷ us) initial d i h in
      let q : Reading = with_due r (due (declared_due initial) 0) in
      let e = name-step s r n us initial j in
      let z = declared_fine s (with_due r (due ColonDue 0)) n initial (sym (ap (λ (x : Reading). x.fault) e) ∙ first_fine s q n (c ∷ us) (still s g1 h)) in
      let y = joins s m.steps 30 r.known.steps n rest (omega arith) l z.free in
      let t : Names = with_name 30 s r.known.steps n in
      let f : after_token s q n ≡ opened r ColonDue t (initially initial r.known.initial number') number' =
      e ∙ z.is ∙ ap (λ (v : ℕ). opened r ColonDue t (initially initial r.known.initial v) v) y.number in
      let p : Reading = opened r ColonDue t (initially initial r.known.initial number') number' in
      let o : Reading = opened r ActionDue t (initially initial r.known.initial number') number' in
      let g2 = goes_one s q p n (c ∷ us) [] f (none_made p refl refl) in
      let g3 = goes_one s p o c us [] (colon-step s r c us t (initially initial r.known.initial number') number' x) (none_made o refl refl) in
      record { names = t; goes = goes_then s g1 (goes_then s g2 g3); table = y.table; within = y.within; below = y.below }

  -- the initial steps so far, with this one if it is initial
  abbrev marked' : Bool → List ℕ → List ℕ
  marked' initial l = cond initial (l ++ number' ∷ []) l

  -- the word of the initial steps has their numbers
  marks-initial : (initial : Bool) (w : ℕ) (l : List ℕ) → number' < length m.steps → number' < 30 → Marks (length m.steps) w l → Marks (length m.steps) (initially initial w number') (marked' initial l)
  marks-initial true w l a b g = marks-more (length m.steps) w number' l a (omega arith) g
  marks-initial false w l a b g = g

  -- what a whole step has done
  record Stated (r : Reading) (us xs : List Token) (initial : Bool) (actions : List Action) (l : List ℕ) (p : Program) : Type 0 where
    last : Reading
    goes : Goes s r us (action_lines s m n actions) last xs
    outside' : Outside s m last (marked' initial l) p
    initial' : last.known.initial ≡ initially initial r.known.initial number'
    below : number' < 30
    room : (ms : List Move) (hs : List Hold) (ls : List Latch) → Room last.made ms hs ls
        → Room r.made ms (charts.step_holds s m n actions ++ hs) (charts.step_latches s m n actions ++ ls)

  -- a whole step
  states : (r : Reading) (us vs xs : List Token) (e : Token) (initial : Bool) (actions : List Action) (l : List ℕ) (p : Program) → Outside s m r l (program.step initial n actions ∷ p)
      → Opens r us vs (step_tokens p) initial → Actions s vs (e ∷ xs) actions → Is e EndStep → (reading_from s r us).fault ≡ None → Stated r us xs initial actions l p
  unfolding output_tokens input_tokens
  states r us vs xs e initial actions l p o g x i h =
      let b : Reading = opened r ActionDue g.names (initially initial r.known.initial number') number' in
      let d = done s m n b refl x r.known.outputs r.made r.part.variable r.part.qualifier r.part.output (output_tokens p) o.few o.outputs (still s g.goes h) in
      let q : Reading = acting b outside d.names d.made' d.variable' d.qualifier' d.output' in
      let z : Goes s (acting b ActionDue d.names d.made' d.variable' d.qualifier' d.output') (e ∷ xs) [] q xs =
      goes_one s (acting b ActionDue d.names d.made' d.variable' d.qualifier' d.output') q e xs []
      (end_step_lem s b e xs d.names d.made' d.variable' d.qualifier' d.output' i) (none_made q refl refl) in
      let y : Goes s r us (action_lines s m n actions ++ []) q xs = goes_then s g.goes (goes_then s d.goes z) in
      record {
        last = q;
        goes = goes_making s {q = q} y (append-nil (action_lines s m n actions));
        outside' =
            record {
              due' = refl;
              steps = g.table;
              inputs = o.inputs;
              outputs = d.table;
              initial = marks-initial initial r.known.initial l g.within g.below o.initial;
              few = d.few;
              wide = o.wide;
            };
        initial' = refl;
        below = g.below;
        room = d.room;
      }

  -- the numbers of the initial steps, and whether there are any
  initial-list : (initial : Bool) (actions : List Action) (l : List ℕ) (p : Program)
      → marked' initial l ++ numbers_of s m.steps (initial_tokens p) ≡ l ++ numbers_of s m.steps (initial_tokens (program.step initial n actions ∷ p))
  unfolding initial_tokens numbers_of
  initial-list true actions l p = append_assoc l (number' ∷ []) (numbers_of s m.steps (initial_tokens p))
  initial-list false actions l p = refl

  initial-none : (initial : Bool) (actions : List Action) (w : ℕ) (p : Program) → number' < 30
      → (eqb (initially initial w number') 0 && is_none (initial_tokens p)) ≡ (eqb w 0 && is_none (initial_tokens (program.step initial n actions ∷ p)))
  unfolding initial_tokens is_none
  initial-none true actions w p h = rw (word_some w number' (omega arith)) (go (eqb w 0))
    where
      go : (x : Bool) → false ≡ (x && false)
      go true = refl
      go false = refl
  initial-none false actions w p h = refl

  -- a step, and then the rest of the text
  tells_stated : (r : Reading) (us xs : List Token) (initial : Bool) (actions : List Action) (l : List ℕ) (p : Program) → (x : Stated r us xs initial actions l p)
      → Tells s m x.last xs (marked' initial l) p → Tells s m r us l (program.step initial n actions ∷ p)
  unfolding moves_of holds_of latches_of
  tells_stated r us xs initial actions l p x t =
      let e = x.goes.runs in
      record {
        steps = rw e t.steps;
        inputs = rw e t.inputs;
        outputs = rw e t.outputs;
        initial = rw (e, ← initial-list initial actions l p) t.initial;
        none = rw e (t.none ∙ rw x.initial' (initial-none initial actions r.known.initial p x.below));
        moves = rw x.goes.lines (moves_in s m n actions (lines_from s x.last xs) ∙ t.moves);
        holds = rw x.goes.lines (holds_in s m n actions (lines_from s x.last xs) ∙ ap (λ (u : List Hold). charts.step_holds s m n actions ++ u) t.holds);
        latches = rw x.goes.lines (latches_in s m n actions (lines_from s x.last xs) ∙ ap (λ (u : List Latch). charts.step_latches s m n actions ++ u) t.latches);
        room = x.room (moves_of s m p) (holds_of s m p) (latches_of s m p) t.room;
      }

  -- a step of the grammar, with what the rest of the text tells
  pub tells-step : (r : Reading) (k c e : Token) (us xs : List Token) (initial : Bool) (actions : List Action) (l : List ℕ) (p : Program) → Outside s m r l (program.step initial n actions ∷ p)
      → Is k (step_kind s initial) → Is n Name → Is c Colon → Actions s us (e ∷ xs) actions → Is e EndStep
      → (reading_from s r (k ∷ n ∷ c ∷ us)).fault ≡ None → ((q : Reading) (i : List ℕ) → Outside s m q i p → (reading_from s q xs).fault ≡ None → Tells s m q xs i p)
      → Tells s m r (k ∷ n ∷ c ∷ us) l (program.step initial n actions ∷ p)
  unfolding step_tokens
  tells-step r k c e us xs initial actions l p o i1 i2 i3 x i4 h next =
      let g = opens r k c us (step_tokens p) initial o.due' i1 i2 i3 o.steps h in
      let z = states r (k ∷ n ∷ c ∷ us) us xs e initial actions l p o g x i4 h in
      tells_stated r (k ∷ n ∷ c ∷ us) xs initial actions l p z (next z.last (marked' initial l) z.outside' (still s z.goes h))
