-- A run goes on: the state of an answer 0 is one of the chart, so that the next event accepts it.
use Prim.Native.Nat.{ℕ, zero, suc, ◌+◌, ◌^◌, min, ◌<◌, ◌≤◌}
use mathlib.Core.Bool.{Bool, true, false, cond, ◌&&◌, ◌||◌, and-eq-true_iff}
use mathlib.Core.List.{List, [], ◌∷◌}
use mathlib.Core.Path.{◌≡◌, refl}
use native.Mathlib.Nat.{lt_of_le_of_lt}
use native.Mathlib.Omega.{arith}
use borrow.Author.Tests.{lt-ltb, leb-true, le-leb, eq-eqb, eqb-true}
use lib.Bits.{and_le_r}
use lib.Dec.{leb, eqb}
use lib.ListN.{replicate}
use lib.Pow.{pow-lt}
use Rattle.text.specs.Words.{has}
use Rattle.text.proofs.Items.{Among, among_and, and_among, among_none}
use Rattle.cond.specs.declared.View.{View}
use Rattle.line.specs.Chart.{Latch}
use Rattle.evolve.specs.declared.End.{End}
use Rattle.evolve.specs.declared.End.TheVariants.{Rest, Loops, Cut}
use Rattle.evolve.specs.Words.{all_in, bit}
use Rattle.evolve.specs.Evolution.{at, latchable, each_from, kept}
use Rattle.evolve.specs.Search.{evolve}
use Rattle.evolve.specs.Demand.{All, StepsDeclared}
use Rattle.evolve.proofs.Sequence.Onward.{calm}
use Rattle.evolve.proofs.Ending.Demands.{gather_lt, latched_in, now_lt}
use Rattle.engine.specs.declared.State.{State}
use Rattle.engine.specs.declared.Occurrence.{Occurrence}
use Rattle.engine.specs.Plan.{Plan}
use Rattle.engine.specs.State.{fits, age_count, oldest_age, longest_elapsed, age_accepted, ages_accepted, state_accepted, inputs_accepted, event_accepted}
use Rattle.engine.specs.State.{zero_state, aged_at, aged, event_view, start_view}
use Rattle.engine.specs.Answers.{Outcome, refusing, resting, answered, evolved, start_on, event_on}
use Rattle.engine.specs.Laws.{Declares}
use Rattle.engine.proofs.Answers.Demands.{start-begins, event-begins}

-- Outputs that are named by latch lines are declared, where those lines name declared ones: their words, and a word of some of them

bits_low : (n : ℕ) (ls : List Latch) → All (λ l. l.output < n) ls → All (λ l. bit l.output < 2 ^ n) ls
bits_low n [] h = tt
bits_low n (l ∷ ls) h = (pow-lt h.0, bits_low n ls h.1)

among-low : (n a : ℕ) (ls : List Latch) → All (λ l. l.output < n) ls → Among a (latchable ls) → a < 2 ^ n
unfolding latchable
among-low n a ls o h =
    let e = among_and a (latchable ls) h in
    let l = and_le_r a (latchable ls) in
    let g = gather_lt n (λ l. true) (λ l. bit l.output) ls (bits_low n ls o) in
    lt_of_le_of_lt (rw e at l) g

-- Ages are at most the highest: those that an event begins with, and a start; and those that an answer keeps are accepted

abbrev Low : List ℕ → Type 0
Low = All (λ a. a ≤ oldest_age)

kept-accepted : (before now j : ℕ) (l : List ℕ) → Low l → ages_accepted now j (each_from (λ i a. cond (has before i && has now i) a 0) j l) ≡ true
unfolding ages_accepted
kept-accepted before now j [] h = refl
kept-accepted before now j (a ∷ l) h =
    (and-eq-true_iff _ _).1 (one (has before j) (has now j), kept-accepted before now (suc j) l h.1)
  where
    one : (x y : Bool) → (leb (cond (x && y) a 0) oldest_age && (y || eqb (cond (x && y) a 0) 0)) ≡ true
    one true true = rw (le-leb a oldest_age h.0)
    one true false = refl
    one false true = refl
    one false false = refl

aged-low : (s e j : ℕ) (l : List ℕ) → ages_accepted s j l ≡ true → Low (each_from (aged_at s e) j l)
unfolding ages_accepted
aged-low s e j [] h = tt
aged-low s e j (a ∷ l) h = (one (has s j), aged-low s e (suc j) l parts.1)
  where
    parts : (age_accepted s j a ≡ true) × (ages_accepted s (suc j) l ≡ true)
    parts = (and-eq-true_iff (age_accepted s j a) (ages_accepted s (suc j) l)).0 h

    one : (t : Bool) → cond t (min oldest_age (a + e)) a ≤ oldest_age
    one true = omega arith
    one false = leb-true a oldest_age ((and-eq-true_iff (leb a oldest_age) (has s j || eqb a 0)).0 parts.0).0

zeros_low : (n : ℕ) → Low (replicate n 0)
zeros_low zero = tt
zeros_low (suc n) = (omega arith, zeros_low n)

-- The answer of an evolution

module _ (p : Plan) (d : Declares p) where
  abbrev Accepts : State → Type 0
  Accepts s = state_accepted p s ≡ true

  -- what the view is in which an evolution begins
  record Fine (v : View) : Type 0 where
    begins : StepsDeclared p.net v
    inputs : inputs_accepted p v.inputs ≡ true
    latched : Among v.moment.latched (latchable p.net.latches)
    ages : Low v.ages

  module _ (v : View) (f : Fine v) (g : State) (t : List ℕ) where
    -- its state at rest is accepted, and so is that of every answer 0

    rested : (k : ℕ) → Accepts (answered p v g t (Rest k)).answer.state
    unfolding state_accepted inputs_accepted answered resting kept
    rested k =
        let a = latched_in p.net v f.latched k in
        let steps = lt-ltb _ _ (now_lt p.net v f.begins k) in
        let inputs : fits p.inputs (at p.net v k).inputs ≡ true = rw (calm p.net v k).inputs f.inputs in
        let outputs = lt-ltb _ _ (among-low p.outputs _ p.net.latches d.outputs a) in
        let ages = kept-accepted g.situation (at p.net v k).moment.situation 0 v.ages f.ages in
        let two = (and-eq-true_iff _ _).1 (steps, inputs) in
        let four = (and-eq-true_iff _ _).1 ((and-eq-true_iff _ _).1 (two, outputs), eq-eqb _ _ (among_and _ _ a)) in
        (and-eq-true_iff _ _).1 (four, rw (calm p.net v k).ages ages)

    answered-accepted : (e : End) → (answered p v g t e).answer.number ≡ 0 → Accepts (answered p v g t e).answer.state
    unfolding answered refusing
    answered-accepted (Rest k) z = rested k
    answered-accepted (Loops j) z = absurd (omega arith)
    answered-accepted (Cut l) z = absurd (omega arith)

    evolved-accepted : (evolved p v g t).answer.number ≡ 0 → Accepts (evolved p v g t).answer.state
    unfolding evolved
    evolved-accepted = answered-accepted (evolve p.net v)

  -- A start

  start_fine : (i : ℕ) → inputs_accepted p i ≡ true → Fine (start_view p i)
  unfolding start_view
  start_fine i h = record { begins = start-begins p d i; inputs = h; latched = among_none _; ages = zeros_low age_count }

  pub start_goes : (i : ℕ) (t : List ℕ) → (start_on p i t).answer.number ≡ 0 → Accepts (start_on p i t).answer.state
  unfolding start_on refusing
  start_goes i t = go (inputs_accepted p i) refl
    where
      out : Outcome
      out = evolved p (start_view p i) zero_state t

      go : (b : Bool) → inputs_accepted p i ≡ b → (cond b out (refusing 11 0 zero_state t)).answer.number ≡ 0
          → Accepts (cond b out (refusing 11 0 zero_state t)).answer.state
      go true q z = evolved-accepted (start_view p i) (start_fine i q) zero_state t z
      go false q z = absurd (omega arith)

  -- An event, in a state that is accepted: its latched outputs and its ages are

  abbrev Fit : State → Bool
  Fit s = fits p.net.steps s.situation && fits p.inputs s.inputs && fits p.outputs s.latched

  latched-named : (s : State) → Accepts s → all_in s.latched (latchable p.net.latches) ≡ true
  unfolding state_accepted
  latched-named s q =
      let h = (and-eq-true_iff (Fit s && all_in s.latched (latchable p.net.latches)) (ages_accepted s.situation 0 s.ages)).0 q in
      ((and-eq-true_iff (Fit s) _).0 h.0).1

  ages_fine : (s : State) → Accepts s → ages_accepted s.situation 0 s.ages ≡ true
  unfolding state_accepted
  ages_fine s q = ((and-eq-true_iff (Fit s && all_in s.latched (latchable p.net.latches)) _).0 q).1

  event_fine : (s : State) (e : Occurrence) → Accepts s → event_accepted p e ≡ true → Fine (event_view s e)
  unfolding event_view event_accepted aged
  event_fine s e q h =
      record {
        begins = event-begins p d s e q;
        inputs = ((and-eq-true_iff (leb e.elapsed longest_elapsed) (inputs_accepted p e.inputs)).0 h).1;
        latched = and_among s.latched (latchable p.net.latches) (eqb-true _ _ (latched-named s q));
        ages = aged-low s.situation e.elapsed 0 s.ages (ages_fine s q);
      }

  pub event_goes : (s : State) (e : Occurrence) (t : List ℕ) → (event_on p s e t).answer.number ≡ 0 → Accepts (event_on p s e t).answer.state
  unfolding event_on refusing
  event_goes s e t = go (state_accepted p s) refl (event_accepted p e) refl
    where
      out : Outcome
      out = evolved p (event_view s e) s t

      go : (a : Bool) → state_accepted p s ≡ a → (b : Bool) → event_accepted p e ≡ b
          → (cond a (cond b out (refusing 11 0 s t)) (refusing 10 0 s t)).answer.number ≡ 0
          → Accepts (cond a (cond b out (refusing 11 0 s t)) (refusing 10 0 s t)).answer.state
      go true q true r z = evolved-accepted (event_view s e) (event_fine s e q r) s t z
      go true q false r z = absurd (omega arith)
      go false q b r z = absurd (omega arith)
