-- What is known of a reading between two steps or transitions, and what the rest of a text does from there on.
use mathlib.Core.Bool.{Bool, true, false, ◌&&◌}
use mathlib.Core.List.{List, [], ◌∷◌, ◌++◌, append-nil}
use mathlib.Core.Path.{◌≡◌, refl, sym, ap, ◌∙◌}
use Prim.Native.Nat.{ℕ}
use lib.Dec.{eqb, leb}
use lib.ListN.{length}
use Rattle.std.specs.Prelude.{None}
use Rattle.tokens.specs.declared.Token.{Token}
use Rattle.tokens.specs.declared.Kind.{Kind}
use Rattle.tokens.specs.Kinds.{same_kind}
use Rattle.tokens.specs.declared.Kind.TheVariants.{Transition, End}
use Rattle.naming.proofs.Tables.{Table}
use Rattle.grammar.specs.Program.{Program}
use Rattle.grammar.specs.Grammar.{Is}
use Rattle.grammar.specs.declared.Phase.{Phase}
use Rattle.grammar.specs.Rows.{next_due, next_in, same_phase}
use Rattle.grammar.specs.declared.Phase.TheVariants.{Outside as outside, Stopped, EndDue, SemicolonDue}
use Rattle.outline.specs.declared.Reading.{Reading}
use Rattle.outline.specs.Reading.{with_due, entered, stepped, acted, after_token, reading_from}
use Rattle.outline.proofs.Steps.{due, Follows, follows, step_is, entered_fine}
use Rattle.writer.specs.Lines.{lines_from, moves_made, holds_made, latches_made}
use Rattle.writer.proofs.Goes.{Goes, goes_one, first_fine}
use Rattle.sfc.specs.Chart.{Map, step_tokens, initial_tokens, input_tokens, output_tokens, numbers_of, moves_of, holds_of, latches_of}
use Rattle.sfc.specs.Import.{is_none}
use Rattle.sfc.proofs.Marks.{Marks}
use Rattle.sfc.proofs.Rooms.{Few, Room, room-none}
use Rattle.sfc.proofs.Spelling.{none_made}

module _ (s : List ℕ) (m : Map) where
  -- a reading before the program p, after the initial steps of the numbers l
  pub record Outside (r : Reading) (l : List ℕ) (p : Program) : Type 0 where
    pub due' : r.due ≡ due outside 0
    pub steps : Table s m.steps 30 r.known.steps (step_tokens p)
    pub inputs : Table s m.inputs 32 r.known.inputs (input_tokens p)
    pub outputs : Table s m.outputs 32 r.known.outputs (output_tokens p)
    pub initial : Marks (length m.steps) r.known.initial l
    pub few : Few r.made
    pub wide : length r.part.condition.bytes ≡ 64

  -- what the tokens us, which are the program p, do from there on
  pub record Tells (r : Reading) (us : List Token) (l : List ℕ) (p : Program) : Type 0 where
    pub steps : Table s m.steps 30 (reading_from s r us).known.steps []
    pub inputs : Table s m.inputs 32 (reading_from s r us).known.inputs []
    pub outputs : Table s m.outputs 32 (reading_from s r us).known.outputs []
    pub initial : Marks (length m.steps) (reading_from s r us).known.initial (l ++ numbers_of s m.steps (initial_tokens p))
    pub none : eqb (reading_from s r us).known.initial 0 ≡ (eqb r.known.initial 0 && is_none (initial_tokens p))
    pub moves : moves_made (lines_from s r us) ≡ moves_of s m p
    pub holds : holds_made (lines_from s r us) ≡ holds_of s m p
    pub latches : latches_made (lines_from s r us) ≡ latches_of s m p
    pub room : Room r.made (moves_of s m p) (holds_of s m p) (latches_of s m p)

module _ (s : List ℕ) (r : Reading) (t : Token) (us : List Token) (k : Kind) (p : Phase) where
  -- where a step or transition is due
  enter_acts : (q : Reading) → same_phase q.due.phase Stopped ≡ false → acted s outside q t ≡ entered q t
  unfolding acted stepped
  enter_acts q e = rw e

  -- a token between two steps or transitions
  pub enters : r.due ≡ due outside 0 → Is t k → Follows outside 0 k p 0 → (same_phase p Stopped ≡ false) × (same_phase p EndDue ≡ false) × (same_phase p SemicolonDue ≡ false) → (reading_from s r (t ∷ us)).fault ≡ None
      → Goes s r (t ∷ us) [] (with_due r (due p 0)) us × ((same_kind k Transition && leb 64 r.made.moves) ≡ false)
  enters d i f b h =
      let q : Reading = with_due r (due p 0) in
      let e : after_token s r t ≡ entered q t = step_is s r t k outside 0 p 0 d i f ∙ enter_acts q b.0 in
      let z = entered_fine q t (sym (ap (λ (x : Reading). x.fault) e) ∙ first_fine s r t us h) in
      (goes_one s r q t us [] (e ∙ z.0) (none_made q b.1 b.2), ap (λ (x : Kind). same_kind x Transition && leb 64 r.made.moves) (sym i) ∙ z.1)

-- the end of the text
pub tells_end : (s : List ℕ) (m : Map) (r : Reading) (t : Token) (l : List ℕ) → Is t End → Outside s m r l [] → (reading_from s r (t ∷ [])).fault ≡ None → Tells s m r (t ∷ []) l []
unfolding next_due next_in step_tokens input_tokens output_tokens initial_tokens numbers_of is_none moves_of holds_of latches_of reading_from lines_from moves_made holds_made latches_made
tells_end s m r t l i o h =
    let g = (enters s r t [] End outside o.due' i (follows outside 0 End refl refl) (refl, refl, refl) h).0 in
    let e = g.runs in
    record {
      steps = rw e o.steps;
      inputs = rw e o.inputs;
      outputs = rw e o.outputs;
      initial = rw (e, append-nil l) o.initial;
      none = rw e (go (eqb r.known.initial 0));
      moves = rw g.lines;
      holds = rw g.lines;
      latches = rw g.lines;
      room = room-none r.made o.few;
    }
  where
    go : (x : Bool) → x ≡ (x && true)
    go true = refl
    go false = refl
