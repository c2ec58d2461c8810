-- The actions of a step, read by the code's fold: their lines are the step's holds and latches.
use mathlib.Core.Bool.{true, false}
use mathlib.Core.List.{List, [], ◌∷◌, ◌++◌}
use mathlib.Core.Path.{◌≡◌, refl, ap}
use Prim.Native.Nat.{ℕ, ◌<◌}
use Rattle.std.specs.Prelude.{Option, Some, None}
use Rattle.line.specs.Chart.{Move, Hold, Latch}
use Rattle.line.specs.Write.{Line}
use Rattle.tokens.specs.declared.Token.{Token}
use Rattle.naming.specs.declared.Names.{Names}
use Rattle.naming.specs.Names.{number_in}
use Rattle.naming.proofs.Tables.{Table}
use Rattle.naming.specs.declared.Qualifier.{Qualifier}
use Rattle.naming.specs.declared.Qualifier.TheVariants.{N, S, R}
use Rattle.grammar.specs.Program.{Action}
use Rattle.grammar.specs.Grammar.{Actions, no_actions, more_actions}
use Rattle.grammar.specs.declared.Phase.TheVariants.{ActionDue}
use Rattle.outline.specs.declared.Reading.{Reading}
use Rattle.outline.specs.declared.Made.{Made}
use Rattle.outline.specs.Reading.{drives, drives_over, reading_from}
use Rattle.writer.specs.Lines.{moves_made, holds_made, latches_made}
use Rattle.writer.proofs.Goes.{Goes, goes_then, goes_making, still}
use Rattle.sfc.specs.Chart.{Map, driven_by, hold_for, hold_if, latch_for, latch_if}
use Rattle.sfc.specs.Chart as charts
use Rattle.outline.specs.Faults.{is_n}
use Rattle.sfc.proofs.Acting.{acting, line_for, Acts, acts}
use Rattle.sfc.proofs.Rooms.{Few, Room, few_drives, room-hold, room-latch}

module _ (s : List ℕ) (m : Map) (n : Token) where
  -- the lines of the actions of step n
  unfoldable pub action_lines : List Action → List Line
  action_lines [] = []
  action_lines (a ∷ l) = line_for a.qualifier (number_in s n m.steps) (number_in s a.variable m.outputs) ∷ action_lines l

  -- none of them is a move
  pub moves_in : (l : List Action) (ls : List Line) → moves_made (action_lines l ++ ls) ≡ moves_made ls
  unfolding action_lines moves_made
  moves_in [] ls = refl
  moves_in (a ∷ l) ls = go a.qualifier (moves_in l ls)
    where
      go : (q : Qualifier) → moves_made (action_lines l ++ ls) ≡ moves_made ls → moves_made (line_for q (number_in s n m.steps) (number_in s a.variable m.outputs) ∷ (action_lines l ++ ls)) ≡ moves_made ls
      go N e = e
      go S e = e
      go R e = e

  -- the holds among them
  pub holds_in : (l : List Action) (ls : List Line) → holds_made (action_lines l ++ ls) ≡ charts.step_holds s m n l ++ holds_made ls
  unfolding action_lines holds_made charts.step_holds hold_if
  holds_in [] ls = refl
  holds_in (a ∷ l) ls = go a.qualifier (holds_in l ls)
    where
      go : (q : Qualifier) → holds_made (action_lines l ++ ls) ≡ charts.step_holds s m n l ++ holds_made ls
          → holds_made (line_for q (number_in s n m.steps) (number_in s a.variable m.outputs) ∷ (action_lines l ++ ls)) ≡ hold_if s m q n a.variable (charts.step_holds s m n l) ++ holds_made ls
      go N e = ap (λ (x : List Hold). hold_for s m n a.variable ∷ x) e
      go S e = e
      go R e = e

  -- the latches among them
  pub latches_in : (l : List Action) (ls : List Line) → latches_made (action_lines l ++ ls) ≡ charts.step_latches s m n l ++ latches_made ls
  unfolding action_lines latches_made charts.step_latches latch_if
  latches_in [] ls = refl
  latches_in (a ∷ l) ls = go a.qualifier (latches_in l ls)
    where
      go : (q : Qualifier) → latches_made (action_lines l ++ ls) ≡ charts.step_latches s m n l ++ latches_made ls
          → latches_made (line_for q (number_in s n m.steps) (number_in s a.variable m.outputs) ∷ (action_lines l ++ ls)) ≡ latch_if s m q n a.variable (charts.step_latches s m n l) ++ latches_made ls
      go N e = e
      go S e = ap (λ (x : List Latch). latch_for s m n a.variable true ∷ x) e
      go R e = ap (λ (x : List Latch). latch_for s m n a.variable false ∷ x) e

  -- room for an action and for the lines that follow it
  room_action : (q : Qualifier) (v : Token) (k : Made) (ms : List Move) (hs hs' : List Hold) (ls ls' : List Latch) → drives_over k (is_n (Some q)) (number_in s v m.outputs) ≡ false → number_in s v m.outputs < 32
      → Room (drives k (is_n (Some q)) (number_in s v m.outputs)) ms (hs ++ hs') (ls ++ ls') → Room k ms (hold_if s m q n v hs ++ hs') (latch_if s m q n v ls ++ ls')
  unfolding hold_if latch_if
  room_action N v k ms hs hs' ls ls' h o g = room-hold k ms (hs ++ hs') (ls ++ ls') (hold_for s m n v) h o g
  room_action S v k ms hs hs' ls ls' h o g = room-latch k ms (hs ++ hs') (ls ++ ls') (latch_for s m n v true) h o g
  room_action R v k ms hs hs' ls ls' h o g = room-latch k ms (hs ++ hs') (ls ++ ls') (latch_for s m n v false) h o g

  -- what actions have done
  pub record Done (r : Reading) (t : Names) (k : Made) (u : Token) (a : Option Qualifier) (b : ℕ) (us rest vs : List Token) (l : List Action) : Type 0 where
    pub names : Names
    pub made' : Made
    pub variable' : Token
    pub qualifier' : Option Qualifier
    pub output' : ℕ
    pub goes : Goes s (acting r ActionDue t k u a b) us (action_lines l) (acting r ActionDue names made' variable' qualifier' output') vs
    pub table : Table s m.outputs 32 names rest
    pub few : Few made'
    pub room : (ms : List Move) (hs : List Hold) (ls : List Latch) → Room made' ms hs ls → Room k ms (charts.step_holds s m n l ++ hs) (charts.step_latches s m n l ++ ls)

  -- no action
  done_none : (r : Reading) (t : Names) (k : Made) (u : Token) (a : Option Qualifier) (b : ℕ) (us rest : List Token) → Few k → Table s m.outputs 32 t rest → Done r t k u a b us rest us []
  unfolding action_lines charts.step_holds charts.step_latches
  done_none r t k u a b us rest f l =
      record { names = t; made' = k; variable' = u; qualifier' = a; output' = b; goes = record { runs = refl; lines = refl }; table = l; few = f; room = λ ms hs ls g. g }

  module _ (r : Reading) (e : r.part.step ≡ number_in s n m.steps) where
    -- an action, and then others
    done_more : (t : Names) (k : Made) (u : Token) (a : Option Qualifier) (b : ℕ) (v : Token) (q : Qualifier) (us ts vs rest : List Token) (l : List Action) → Few k → Acts s m r t k u a b v q ts (driven_by l ++ rest) us
        → ((t' : Names) (k' : Made) (u' : Token) (a' : Option Qualifier) (b' : ℕ) → Few k' → Table s m.outputs 32 t' (driven_by l ++ rest) → (reading_from s (acting r ActionDue t' k' u' a' b') us).fault ≡ None
        → Done r t' k' u' a' b' us rest vs l)
        → (reading_from s (acting r ActionDue t k u a b) ts).fault ≡ None → Done r t k u a b ts rest vs (record { variable = v; qualifier = q } ∷ l)
    unfolding action_lines charts.step_holds charts.step_latches
    done_more t k u a b v q us ts vs rest l f x next h =
        let o : ℕ = number_in s v m.outputs in
        let k' : Made = drives k (is_n (Some q)) o in
        let y = next x.names k' v (Some q) o (few_drives k (is_n (Some q)) o f) x.table (still s x.goes h) in
        let p : Reading = acting r ActionDue y.names y.made' y.variable' y.qualifier' y.output' in
        record {
          names = y.names;
          made' = y.made';
          variable' = y.variable';
          qualifier' = y.qualifier';
          output' = y.output';
          goes = goes_making s {q = p} (goes_then s {o = p} x.goes y.goes) (ap (λ (i : ℕ). line_for q i o ∷ action_lines l) e);
          table = y.table;
          few = y.few;
          room = λ ms hs ls g. room_action q v k ms (charts.step_holds s m n l) hs (charts.step_latches s m n l) ls x.apart x.low (y.room ms hs ls g);
        }

    -- all actions of a step
    pub done : {us vs : List Token} {l : List Action} → Actions s us vs l → (t : Names) (k : Made) (u : Token) (a : Option Qualifier) (b : ℕ) (rest : List Token) → Few k → Table s m.outputs 32 t (driven_by l ++ rest)
        → (reading_from s (acting r ActionDue t k u a b) us).fault ≡ None → Done r t k u a b us rest vs l
    unfolding driven_by
    done (no_actions {us = us}) t k u a b rest f g h = done_none r t k u a b us rest f g
    done (more_actions {v = v} {o = o} {w = w} {c = c} {z = z} {q = q} {us = us} {vs = vs} {acts = l} i j x y p d) t k u a b rest f g h =
        done_more t k u a b v q us (v ∷ o ∷ w ∷ c ∷ z ∷ us) vs rest l f (acts s m r t k u a b v q o w c z us (driven_by l ++ rest) i j x y p g h)
        (λ t' k' u' a' b' f' g' h'. done d t' k' u' a' b' rest f' g' h') h
