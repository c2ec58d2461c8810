-- The chart of a program that keeps the limits is well formed.
use mathlib.Core.Bool.{true, false, false≢true}
use mathlib.Core.List.{List, [], ◌∷◌, ◌++◌}
use mathlib.Core.Path.{◌≡◌, refl}
use Prim.Native.Nat.{ℕ, ◌≤◌, ◌<◌}
use native.Mathlib.Omega.{arith}
use borrow.Author.Tests.{lt-leb}
use lib.ListN.{length}
use Rattle.cond.specs.declared.Declared.{Declared}
use Rattle.cond.specs.Meaning.{always, undeclared, edged}
use Rattle.cond.specs.Grammar as cond
use Rattle.line.specs.Chart.{Move, Latch, Chart}
use Rattle.line.specs.Kinds.{HeadNumber, version, steps, inputs, outputs, limit}
use Rattle.line.specs.Write.{write}
use Rattle.line.specs.Rules.{number_of, longest_text}
use Rattle.chart.specs.WellFormed.{Every, every_nil, every_cons, Condition, MoveRules, HoldRules, InBounds, WellFormed}
use Rattle.tokens.specs.declared.Token.{Token}
use Rattle.naming.specs.Names.{number_in}
use Rattle.naming.specs.declared.Qualifier.{Qualifier}
use Rattle.naming.specs.declared.Qualifier.TheVariants.{N, S, R}
use Rattle.grammar.specs.Program.{Action, Expr, true', false', variable, not', brackets, and', or', step, transition, Program}
use Rattle.grammar.specs.Grammar.{condition, Reads, Steps, one, several, ReadsText, the_end, more-items, a_step, a_transition}
use Rattle.sfc.specs.Chart.{step_tokens, initial_tokens, driven_by, output_tokens, asked_by, input_tokens, Map, map_of, numbers_of, step_list, spell, moves_of, hold_if, step_holds, holds_of, latch_if, step_latches, latches_of, chart_by, chart_of}
use Rattle.sfc.specs.Fits.{Fits}
use Rattle.sfc.proofs.Lists.{every_map, every_both, every_left, every_right, every_with, step-list, rising-some}
use Rattle.sfc.proofs.Map.{every_name}
use Rattle.sfc.proofs.Conditions.{translated, condition-written}

-- a name that has a number
abbrev Has : List ℕ → List Token → Token → Type 0
Has s names t = number_in s t names < length names

-- initial steps are steps
initial-steps : {P : Token → Type 0} (p : Program) → Every P (step_tokens p) → Every P (initial_tokens p)
unfolding step_tokens initial_tokens
initial-steps [] e = every_nil
initial-steps (step true n actions ∷ p) (every_cons h e) = every_cons h (initial-steps p e)
initial-steps (step false n actions ∷ p) (every_cons h e) = initial-steps p e
initial-steps (transition before after c ∷ p) e = initial-steps p (every_right after (step_tokens p) (every_right before (after ++ step_tokens p) e))

-- the condition `1`
one-condition : (d : Declared) → Condition d true (49 ∷ [])
unfolding undeclared edged
one-condition d =
    record {
      short = omega arith;
      meaning = always;
      grammar = cond.one-term 0 1 always (cond.one-factor 0 1 always (cond.atom 0 1 always (cond.true' refl)));
      declared = refl;
      no_edge = λ _. refl;
    }

module _ (s : List ℕ) (m : Map) where
  -- what the chart declares
  abbrev told : Declared
  told = record { steps = length m.steps; inputs = length m.inputs }

  -- Moves

  -- a condition whose names have numbers names declared inputs only
  inputs-declared : (e : Expr) → Every (Has s m.inputs) (asked_by e) → undeclared told (translated s m e) ≡ false
  unfolding asked_by translated undeclared
  inputs-declared true' a = refl
  inputs-declared false' a = refl
  inputs-declared (variable t) (every_cons h a) = lt-leb (length m.inputs) (number_in s t m.inputs) h
  inputs-declared (not' e) a = inputs-declared e a
  inputs-declared (brackets e) a = inputs-declared e a
  inputs-declared (and' e f) a = rw (inputs-declared e (every_left (asked_by e) (asked_by f) a), inputs-declared f (every_right (asked_by e) (asked_by f) a))
  inputs-declared (or' e f) a = rw (inputs-declared e (every_left (asked_by e) (asked_by f) a), inputs-declared f (every_right (asked_by e) (asked_by f) a))

  -- a condition that is written follows 01's rules
  move_condition : {us vs : List Token} {e : Expr} → length m.inputs ≤ 32 → length (spell s m e) ≤ 64 → Reads condition us vs e
      → Every (Has s m.inputs) (asked_by e) → Condition told false (spell s m e)
  move_condition {e} n l x a =
      record {
        short = l;
        meaning = translated s m e;
        grammar = condition-written s m n x;
        declared = inputs-declared e a;
        no_edge = λ z. absurd (false≢true z);
      }

  -- a list whose first step has a number is not empty
  some-numbers : (t : Token) (ts : List Token) → Has s m.steps t → step_list s m (t ∷ ts) ≡ [] → ⊥
  unfolding numbers_of
  some-numbers t ts h = rising-some (length m.steps) (number_in s t m.steps) (numbers_of s m.steps ts) h

  -- a list of steps has at least one
  some-steps : {us vs ts : List Token} → Steps us vs ts → Every (Has s m.steps) ts → step_list s m ts ≡ [] → ⊥
  some-steps (one {t} k) (every_cons h e) = some-numbers t [] h
  some-steps (several {t} {ns} o k c x) (every_cons h e) = some-numbers t ns h

  -- the moves follow 01's rules
  moves-rules : {us : List Token} {p : Program} → length m.inputs ≤ 32 → ReadsText s us p → Every (Has s m.steps) (step_tokens p)
      → Every (Has s m.inputs) (input_tokens p) → Every (λ (x : Move). length x.condition ≤ 64) (moves_of s m p) → Every (MoveRules told) (moves_of s m p)
  unfolding step_tokens input_tokens moves_of
  moves-rules n (the_end k) a b l = every_nil
  moves-rules n (more-items (a_step i k t c x z) r) (every_cons h a) b l = moves-rules n r a b l
  moves-rules n (more-items {p} (a_transition {before} {after} {c} k f x t y q z u w) r) a b (every_cons h l) =
      every_cons
      (record {
        before = step-list (length m.steps) (numbers_of s m.steps before);
        after = step-list (length m.steps) (numbers_of s m.steps after);
        not_both = λ e _. some-steps x (every_left before (after ++ step_tokens p) a) e;
        condition = move_condition n h z (every_left (asked_by c) (input_tokens p) b);
      })
      (moves-rules n r (every_right after (step_tokens p) (every_right before (after ++ step_tokens p) a)) (every_right (asked_by c) (input_tokens p) b) l)

  -- Holds and latches

  -- the holds of one step follow them
  holds_in : (n : Token) (actions : List Action) → Has s m.steps n → Every (Has s m.outputs) (driven_by actions)
      → Every (HoldRules told (length m.outputs)) (step_holds s m n actions)
  unfolding driven_by step_holds hold_if
  holds_in n [] h e = every_nil
  holds_in n (a ∷ actions) h (every_cons k e) = go a.qualifier (holds_in n actions h e)
    where
      go : (q : Qualifier) → Every (HoldRules told (length m.outputs)) (step_holds s m n actions)
          → Every (HoldRules told (length m.outputs)) (hold_if s m q n a.variable (step_holds s m n actions))
      go N f = every_cons (record { step = h; output = k; condition = one-condition told }) f
      go S f = f
      go R f = f

  -- and those of all steps
  holds-rules : (p : Program) → Every (Has s m.steps) (step_tokens p) → Every (Has s m.outputs) (output_tokens p)
      → Every (HoldRules told (length m.outputs)) (holds_of s m p)
  unfolding step_tokens output_tokens holds_of
  holds-rules [] a b = every_nil
  holds-rules (step i n actions ∷ p) (every_cons h a) b =
      every_both (holds_in n actions h (every_left (driven_by actions) (output_tokens p) b)) (holds-rules p a (every_right (driven_by actions) (output_tokens p) b))
  holds-rules (transition before after c ∷ p) a b = holds-rules p (every_right after (step_tokens p) (every_right before (after ++ step_tokens p) a)) b

  -- a latch whose step and output are declared
  abbrev Within : Latch → Type 0
  Within x = (x.step < length m.steps) × (x.output < length m.outputs)

  -- the latches of one step are such
  latches_in : (n : Token) (actions : List Action) → Has s m.steps n → Every (Has s m.outputs) (driven_by actions) → Every Within (step_latches s m n actions)
  unfolding driven_by step_latches latch_if
  latches_in n [] h e = every_nil
  latches_in n (a ∷ actions) h (every_cons k e) = go a.qualifier (latches_in n actions h e)
    where
      go : (q : Qualifier) → Every Within (step_latches s m n actions) → Every Within (latch_if s m q n a.variable (step_latches s m n actions))
      go N f = f
      go S f = every_cons (h, k) f
      go R f = every_cons (h, k) f

  -- and those of all steps
  latches-within : (p : Program) → Every (Has s m.steps) (step_tokens p) → Every (Has s m.outputs) (output_tokens p) → Every Within (latches_of s m p)
  unfolding step_tokens output_tokens latches_of
  latches-within [] a b = every_nil
  latches-within (step i n actions ∷ p) (every_cons h a) b =
      every_both (latches_in n actions h (every_left (driven_by actions) (output_tokens p) b)) (latches-within p a (every_right (driven_by actions) (output_tokens p) b))
  latches-within (transition before after c ∷ p) a b = latches-within p (every_right after (step_tokens p) (every_right before (after ++ step_tokens p) a)) b

  -- The initial steps

  -- the list of initial steps is not empty if there are any
  starts : (ts : List Token) → (ts ≡ [] → ⊥) → Every (Has s m.steps) ts → step_list s m ts ≡ [] → ⊥
  starts [] f e = absurd (f refl)
  starts (t ∷ ts) f (every_cons h e) = some-numbers t ts h

  -- and then there is a step
  some-step : (ts : List Token) → (ts ≡ [] → ⊥) → Every (Has s m.steps) ts → 1 ≤ length m.steps
  some-step [] f e = absurd (f refl)
  some-step (t ∷ ts) f (every_cons h e) = omega arith

-- the head's numbers are within their bounds
bounds : (c : Chart) → c.head.version ≡ 1 → 1 ≤ c.head.steps → c.head.limit ≡ 1024 → Fits c → (q : HeadNumber) → InBounds q (number_of q c.head)
bounds c v o l f version = (omega arith, omega arith)
bounds c v o l f steps = (o, f.few_steps)
bounds c v o l f inputs = (omega arith, f.few_inputs)
bounds c v o l f outputs = (omega arith, f.few_outputs)
bounds c v o l f limit = (omega arith, omega arith)

-- the chart of a program that has an initial step, keeps the limits and is not too long is well formed
pub chart_well_formed : (s : List ℕ) (p : Program) (us : List Token) → ReadsText s us p → Fits (chart_of s p) → (initial_tokens p ≡ [] → ⊥)
    → length (write (chart_of s p)) ≤ longest_text → WellFormed (chart_of s p)
unfolding map_of chart_by
chart_well_formed s p us r f i l =
    let m = map_of s p in
    let named-steps : Every (Has s m.steps) (step_tokens p) = every_map (λ t h. h.below) (every_name s (step_tokens p)) in
    let named-inputs : Every (Has s m.inputs) (input_tokens p) = every_map (λ t h. h.below) (every_name s (input_tokens p)) in
    let named-outputs : Every (Has s m.outputs) (output_tokens p) = every_map (λ t h. h.below) (every_name s (output_tokens p)) in
    record {
      numbers = bounds (chart_of s p) refl (some-step s m (initial_tokens p) i (initial-steps p named-steps)) refl f;
      starts = starts s m (initial_tokens p) i (initial-steps p named-steps);
      initial = step-list (length m.steps) (numbers_of s m.steps (initial_tokens p));
      few_moves = f.few_moves;
      moves = moves-rules s m f.few_inputs r named-steps named-inputs f.short_conditions;
      few_holds = f.few_holds;
      holds = holds-rules s m p named-steps named-outputs;
      few_latches = f.few_latches;
      latches = every_with (λ x h k. record { step = h.0; output = h.1; not_held = k }) (latches-within s m p named-steps named-outputs) f.apart;
      short = l;
    }
