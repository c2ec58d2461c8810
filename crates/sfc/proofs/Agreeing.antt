-- What the code's fold makes of a text without a fault is the chart of its program.
use mathlib.Core.List.{List, [], ◌∷◌}
use mathlib.Core.Path.{◌≡◌, refl, sym, ap, ◌∙◌}
use Prim.Native.Nat.{ℕ, ◌≤◌}
use native.Mathlib.Omega.{arith}
use lib.Dec.{eqb}
use lib.ListN.{length}
use Rattle.std.specs.Prelude.{None}
use Rattle.line.specs.Chart.{Chart, Move, Hold, Latch}
use Rattle.line.specs.Rules.{longest_text}
use Rattle.tokens.specs.declared.Token.{Token}
use Rattle.tokens.specs.Tokens.{tokens}
use Rattle.naming.specs.declared.Names.{Names}
use Rattle.naming.specs.Names.{list_of}
use Rattle.naming.proofs.Laws.{names_length}
use Rattle.naming.proofs.Tables.{Table, table-whole, table_few}
use Rattle.grammar.specs.Program.{Item, Program}
use Rattle.grammar.specs.Grammar.{ReadsItem, a_step, a_transition, ReadsText, the_end, more-items}
use Rattle.outline.specs.declared.Reading.{Reading}
use Rattle.outline.specs.Reading.{reading_from, copies, nothing_known, reading_of}
use Rattle.writer.specs.Lines.{word_items, counted, lines_made, moves_made, holds_made, latches_made, drawn_of}
use Rattle.sfc.specs.Chart.{Map, initial_tokens, map_of, numbers_of, step_list, moves_of, holds_of, latches_of, chart_by, chart_of}
use Rattle.sfc.specs.Import.{is_none}
use Rattle.sfc.specs.Fits.{Fits}
use Rattle.sfc.proofs.Marks.{marks-none, marked}
use Rattle.sfc.proofs.Told.{Outside, Tells, tells_end}
use Rattle.sfc.proofs.Transitions.{tells-transition}
use Rattle.sfc.proofs.Declaring.{tells-step}

module _ (s : List ℕ) (m : Map) where
  -- one step or transition, and then the rest of the text
  tells-item : {us vs : List Token} {i : Item} → ReadsItem s us vs i → (r : Reading) (l : List ℕ) (p : Program) → Outside s m r l (i ∷ p) → (reading_from s r us).fault ≡ None
      → ((q : Reading) (j : List ℕ) → Outside s m q j p → (reading_from s q vs).fault ≡ None → Tells s m q vs j p) → Tells s m r us l (i ∷ p)
  tells-item (a_step {k = k} {n = n} {c = c} {e = e} {us = us} {vs = vs} {acts = acts} initial i1 i2 i3 x i4) r l p o h next =
      tells-step s m n r k c e us vs initial acts l p o i1 i2 i3 x i4 h next
  tells-item (a_transition {k = k} {f = f} {t = t} {a = a} {z = z} {e = e} {us = us} {vs = vs} {ws = ws} {xs = xs} {before = before} {after = after} {c = c} i1 i2 x i3 y i4 v i5 i6) r l p o h next =
      tells-transition s m r us vs ws xs before after k f t a z e c l p o i1 i2 x i3 y i4 v i5 i6 h next

  -- a text, from any place between two steps or transitions on
  tells : {us : List Token} {p : Program} → ReadsText s us p → (r : Reading) (l : List ℕ) → Outside s m r l p → (reading_from s r us).fault ≡ None → Tells s m r us l p
  tells (the_end {t = t} i) r l o h = tells_end s m r t l i o h
  tells (more-items {p = p} x y) r l o h = tells-item x r l p o h (λ q j u v. tells y q j u v)

-- before the first token
starts : (s : List ℕ) (p : Program) → Outside s (map_of s p) nothing_known [] p
unfolding map_of copies
starts s p =
    record {
      due' = refl;
      steps = record { wide = refl; few = omega arith; leads = refl };
      inputs = record { wide = refl; few = omega arith; leads = refl };
      outputs = record { wide = refl; few = omega arith; leads = refl };
      initial = marks-none (length (map_of s p).steps);
      few = record { moves = omega arith; holds = omega arith; latches = omega arith };
      wide = refl;
    }

-- as many names have a number as there are
counts : (s : List ℕ) (whole : List Token) (m : ℕ) (n : Names) → Table s whole m n [] → counted n ≡ length whole
counts s whole m n g = sym (names_length n g.wide) ∙ ap length (table-whole s whole m n g)

-- charts are equal by their parts
chart-is : (a b c : ℕ) (i : List ℕ) (ms : List Move) (hs : List Hold) (ls : List Latch) (a' b' c' : ℕ) (i' : List ℕ) (ms' : List Move) (hs' : List Hold) (ls' : List Latch)
    → a ≡ a' → b ≡ b' → c ≡ c' → i ≡ i' → ms ≡ ms' → hs ≡ hs' → ls ≡ ls'
    → ◌≡◌ {A = Chart} (record { head = record { version = 1; steps = a; initial = i; inputs = b; outputs = c; limit = 1024 }; body = record { moves = ms; holds = hs; latches = ls } })
    (record { head = record { version = 1; steps = a'; initial = i'; inputs = b'; outputs = c'; limit = 1024 }; body = record { moves = ms'; holds = hs'; latches = ls' } })
chart-is a b c i ms hs ls a' b' c' i' ms' hs' ls' p q r t u v w = rw (p, q, r, t, u, v, w)

-- what a reading without a fault has in common with the chart of the program
pub record Agrees (s : List ℕ) (p : Program) : Type 0 where
  pub drawn : drawn_of s ≡ chart_of s p
  pub steps : list_of (reading_of s).known.steps ≡ (map_of s p).steps
  pub inputs : list_of (reading_of s).known.inputs ≡ (map_of s p).inputs
  pub outputs : list_of (reading_of s).known.outputs ≡ (map_of s p).outputs
  pub initial : eqb (reading_of s).known.initial 0 ≡ is_none (initial_tokens p)
  pub fits : Fits (chart_of s p)

-- what was told of a whole text is what is asked
agrees_told : (s : List ℕ) (p : Program) → Tells s (map_of s p) nothing_known (tokens s) [] p → Agrees s p
unfolding reading_of drawn_of chart_by
agrees_told s p t =
    let r : Reading = reading_from s nothing_known (tokens s) in
    let m : Map = map_of s p in
    let x = t.room in
    record {
      drawn =
          chart-is (counted r.known.steps) (counted r.known.inputs) (counted r.known.outputs) (word_items r.known.initial)
          (moves_made (lines_made s)) (holds_made (lines_made s)) (latches_made (lines_made s))
          (length m.steps) (length m.inputs) (length m.outputs) (step_list s m (initial_tokens p)) (moves_of s m p) (holds_of s m p) (latches_of s m p)
          (counts s m.steps 30 r.known.steps t.steps) (counts s m.inputs 32 r.known.inputs t.inputs) (counts s m.outputs 32 r.known.outputs t.outputs)
          (marked (length m.steps) r.known.initial (numbers_of s m.steps (initial_tokens p)) t.initial) t.moves t.holds t.latches;
      steps = table-whole s m.steps 30 r.known.steps t.steps;
      inputs = table-whole s m.inputs 32 r.known.inputs t.inputs;
      outputs = table-whole s m.outputs 32 r.known.outputs t.outputs;
      initial = t.none;
      fits =
          record {
            few_steps = table_few s m.steps 30 r.known.steps t.steps;
            few_inputs = table_few s m.inputs 32 r.known.inputs t.inputs;
            few_outputs = table_few s m.outputs 32 r.known.outputs t.outputs;
            few_moves = let y = x.few_moves in omega arith;
            few_holds = let y = x.few_holds in omega arith;
            few_latches = let y = x.few_latches in omega arith;
            short_conditions = x.short;
            apart = x.apart;
          };
    }

-- the code's fold and the grammar agree on every text that has no fault
pub agrees : (s : List ℕ) (p : Program) → length s ≤ longest_text → ReadsText s (tokens s) p → (reading_of s).fault ≡ None → Agrees s p
unfolding reading_of
agrees s p l x h = agrees_told s p (tells s (map_of s p) x nothing_known [] (starts s p) h)
