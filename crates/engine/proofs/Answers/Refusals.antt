-- Every refusal of the two calls has a number of the table, that of the check where the text is refused; it gives back the given state, shows no output,
-- and leaves the trace as 01 says.
use Prim.Native.Nat.{ℕ, ◌≤◌}
use mathlib.Core.Bool.{Bool, true, false, cond}
use mathlib.Core.List.{List, ◌∷◌, ◌++◌}
use mathlib.Core.Path.{◌≡◌, refl, sym, ap, subst}
use native.Mathlib.Omega.{arith}
use borrow.Author.Tests.{leb-true}
use lib.Dec.{leb}
use Rattle.text.specs.Members.{is_among}
use Rattle.text.proofs.Members.{every, among_passes, among_not}
use Rattle.cond.specs.declared.View.{View}
use Rattle.chart.specs.declared.Verdict.{Verdict}
use Rattle.chart.specs.Numbers.{text_numbers}
use Rattle.chart.specs.Reading.{Read, accepted, refused, verdict_of, verdict, read_chart}
use Rattle.chart.proofs.Promises.{check_numbered}
use Rattle.evolve.specs.declared.End.{End}
use Rattle.evolve.specs.declared.End.TheVariants.{Rest, Loops, Cut}
use Rattle.evolve.specs.Search.{evolve}
use Rattle.engine.specs.declared.State.{State}
use Rattle.engine.specs.declared.Occurrence.{Occurrence}
use Rattle.engine.specs.Plan.{Plan, plan_of}
use Rattle.engine.specs.State.{inputs_accepted, state_accepted, event_accepted, zero_state, start_view, event_view}
use Rattle.engine.specs.Answers.{Outcome, refusing, resting, answered, evolved, start_on, event_on}
use Rattle.engine.specs.Texts.{start_read, event_read, started, evented}
use Rattle.engine.specs.Refusals.{evolution_numbers, start_numbers, event_numbers, Refusal, StartInTurn, EventInTurn}

-- the table of a call with its own numbers
abbrev table : List ℕ → List ℕ
table ns = 0 ∷ text_numbers ++ ns

-- Of a call on a text, which has its own numbers and was given a state and a trace

module _ (text ns : List ℕ) (s : State) (t : List ℕ) where
  -- an accepted text
  module _ (ok : (verdict text).number ≡ 0) where
    -- a refusal, 10 to 13
    accepted-refusal : (n k : ℕ) (u : List ℕ) → is_among n (table ns) ≡ true → 10 ≤ n → (n ≤ 11 → k ≡ 0) → ((n ≡ 12 → ⊥) → (n ≡ 13 → ⊥) → u ≡ t)
        → Refusal text ns s t (refusing n k s u)
    unfolding refusing
    accepted-refusal n k u m h z w =
        record {
          number = m;
          faulty = λ f. absurd (f ok);
          checked = λ f b. absurd (omega arith);
          accepted = λ a. ok;
          uncounted = λ a b. z b;
          state = λ f. refl;
          outputs = λ f. refl;
          trace = λ f a b. w a b;
        }

    -- an evolution's answer, where the call's table has its numbers
    module _ (p : Plan) (v : View) (m : every (λ n. is_among n (table ns)) evolution_numbers ≡ true) where
      answered-refusal : (e : End) → Refusal text ns s t (answered p v s t e)
      unfolding answered resting is_among
      answered-refusal (Rest k) =
          record {
            number = refl;
            faulty = λ f. absurd (f ok);
            checked = λ f b. absurd (f refl);
            accepted = λ a. ok;
            uncounted = λ a b. absurd (omega arith);
            state = λ f. absurd (f refl);
            outputs = λ f. absurd (f refl);
            trace = λ f a b. absurd (f refl);
          }
      answered-refusal (Loops j) =
          let h = among_passes (λ n. is_among n (table ns)) evolution_numbers 12 m refl in
          accepted-refusal 12 j _ h (omega arith) (λ l. absurd (omega arith)) (λ x y. absurd (x refl))
      answered-refusal (Cut n) =
          let h = among_passes (λ n. is_among n (table ns)) evolution_numbers 13 m refl in
          accepted-refusal 13 n _ h (omega arith) (λ l. absurd (omega arith)) (λ x y. absurd (y refl))

      evolved-refusal : Refusal text ns s t (evolved p v s t)
      unfolding evolved
      evolved-refusal = answered-refusal (evolve p.net v)

  -- a text that is refused, with what the check says of it
  text-refusal : (n l : ℕ) → verdict text ≡ record { number = n; line = l } → Refusal text ns s t (refusing n l s t)
  unfolding refusing is_among
  text-refusal n l e =
      let a : n ≡ (verdict text).number = ap (λ (v : Verdict). v.number) (sym e) in
      let b : l ≡ (verdict text).line = ap (λ (v : Verdict). v.line) (sym e) in
      let m : is_among n (0 ∷ text_numbers) ≡ true = subst (λ (k : ℕ). is_among k (0 ∷ text_numbers) ≡ true) (sym a) (check_numbered text).number in
      let h = leb-true n 9 (among_passes (λ k. leb k 9) (0 ∷ text_numbers) n refl m) in
      record {
        number = among_passes (λ k. is_among k (table ns)) (0 ∷ text_numbers) n refl m;
        faulty = λ f. (a, b);
        checked = λ f k. (a, b);
        accepted = λ k. absurd (omega arith);
        uncounted = λ k f. absurd (omega arith);
        state = λ f. refl;
        outputs = λ f. refl;
        trace = λ f k j. refl;
      }

-- A call by what is read of its text: a start, an event, and both on the text itself

module _ (text : List ℕ) where
  start_by : (r : Read) → verdict text ≡ verdict_of r → (i : ℕ) (t : List ℕ) → Refusal text start_numbers zero_state t (start_read r i t)
  unfolding start_read start_on is_among
  start_by (accepted c) q i t = go (inputs_accepted (plan_of c) i)
    where
      ok : (verdict text).number ≡ 0
      ok = ap (λ (v : Verdict). v.number) q

      o : Outcome
      o = evolved (plan_of c) (start_view (plan_of c) i) zero_state t

      go : (b : Bool) → Refusal text start_numbers zero_state t (cond b o (refusing 11 0 zero_state t))
      go true = evolved-refusal text start_numbers zero_state t ok (plan_of c) (start_view (plan_of c) i) refl
      go false = accepted-refusal text start_numbers zero_state t ok 11 0 t refl (omega arith) (λ h. refl) (λ a b. refl)
  start_by (refused n l) q i t = text-refusal text start_numbers zero_state t n l q

  event_by : (r : Read) → verdict text ≡ verdict_of r → (s : State) (e : Occurrence) (t : List ℕ) → Refusal text event_numbers s t (event_read r s e t)
  unfolding event_read event_on is_among
  event_by (accepted c) q s e t = go (state_accepted (plan_of c) s) (event_accepted (plan_of c) e)
    where
      ok : (verdict text).number ≡ 0
      ok = ap (λ (v : Verdict). v.number) q

      o : Outcome
      o = evolved (plan_of c) (event_view s e) s t

      go : (a b : Bool) → Refusal text event_numbers s t (cond a (cond b o (refusing 11 0 s t)) (refusing 10 0 s t))
      go true true = evolved-refusal text event_numbers s t ok (plan_of c) (event_view s e) refl
      go true false = accepted-refusal text event_numbers s t ok 11 0 t refl (omega arith) (λ h. refl) (λ a b. refl)
      go false b = accepted-refusal text event_numbers s t ok 10 0 t refl (omega arith) (λ h. refl) (λ a b. refl)
  event_by (refused n l) q s e t = text-refusal text event_numbers s t n l q

  pub start_refuses : (i : ℕ) (t : List ℕ) → Refusal text start_numbers zero_state t (started text i t)
  unfolding started verdict
  start_refuses i t = start_by (read_chart text) refl i t

  pub event_refuses : (s : State) (elapsed i : ℕ) (t : List ℕ) → Refusal text event_numbers s t (evented text s elapsed i t)
  unfolding evented verdict
  event_refuses s elapsed i t = event_by (read_chart text) refl s (record { elapsed = elapsed; inputs = i }) t

-- 10 and 11 are given exactly where 01 says

module _ (p : Plan) where
  -- an evolution answers 0, 12 or 13

  answered-runs : (v : View) (g : State) (t : List ℕ) (e : End) → is_among (answered p v g t e).answer.number (0 ∷ evolution_numbers) ≡ true
  unfolding answered resting refusing is_among
  answered-runs v g t (Rest k) = refl
  answered-runs v g t (Loops j) = refl
  answered-runs v g t (Cut n) = refl

  evolved-runs : (v : View) (g : State) (t : List ℕ) → is_among (evolved p v g t).answer.number (0 ∷ evolution_numbers) ≡ true
  unfolding evolved
  evolved-runs v g t = answered-runs v g t (evolve p.net v)

  -- a start, and an event

  pub start_turn : (i : ℕ) (t : List ℕ) → StartInTurn p i (start_on p i t).answer.number
  unfolding start_on refusing
  start_turn i t = record { eleven = λ h. rw h; runs = λ h. rw h (evolved-runs (start_view p i) zero_state t) }

  pub event_turn : (s : State) (e : Occurrence) (t : List ℕ) → EventInTurn p s e (event_on p s e t).answer.number
  unfolding event_on refusing
  event_turn s e t =
      record {
        ten = λ h. rw h;
        eleven = λ h k. rw (h, k);
        runs = λ h k. rw (h, k) (evolved-runs (event_view s e) s t);
      }

-- 5 is in no call's table

pub start_no_5 : (n : ℕ) → is_among n (table start_numbers) ≡ true → n ≡ 5 → ⊥
unfolding is_among
start_no_5 n = among_not (table start_numbers) n 5 refl

pub event_no_5 : (n : ℕ) → is_among n (table event_numbers) ≡ true → n ≡ 5 → ⊥
unfolding is_among
event_no_5 n = among_not (table event_numbers) n 5 refl
