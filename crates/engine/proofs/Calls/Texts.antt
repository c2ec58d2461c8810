-- The table that was read from a text stands for its chart.
use Prim.Native.Nat.{ℕ, suc, ◌+◌, ◌≤◌, ◌<◌}
use mathlib.Core.Path.{◌≡◌, refl, sym, ap, ap₂, ◌∙◌, subst}
use mathlib.Core.List.{List, [], ◌∷◌, map}
use native.Mathlib.Nat.{add-zero, add-suc, suc-add, zero-add, zero-lt-suc}
use native.Mathlib.Omega.{arith}
use lib.ListN.{length, get_or}
use Rattle.cond.specs.Judging.{meaning}
use Rattle.line.specs.Chart.{Chart}
use Rattle.line.specs.Words.{steps_at, initial_at, inputs_at, outputs_at, limit_at, move_count_at, hold_count_at, latch_count_at, MoveRow, latch_row, move_row}
use Rattle.chart.specs.declared.Verdict.{Verdict}
use Rattle.chart.specs.WellFormed.{WellFormed}
use Rattle.chart.specs.Reading.{Read, accepted, refused, verdict_of, verdict, read_chart}
use Rattle.chart.specs.Table.{no_move, no_hold, no_latch, TellsChart, TableSays}
use Rattle.chart.proofs.Fold.Faults.{Charted, number_read}
use Rattle.chart.proofs.Promises.{accepted-only}
use Rattle.evolve.specs.Net.{move_of, hold_of, net_of}
use Rattle.evolve.specs.Table.{rows_from, count_in, move_in, hold_in, moves_in, holds_in, latches_in, net_in}
use Rattle.engine.specs.declared.State.{State}
use Rattle.engine.specs.declared.Answer.{Answer}
use Rattle.engine.specs.Plan.{Plan, plan_of}
use Rattle.engine.specs.State.{zero_state}
use Rattle.engine.specs.Answers.{Gives, refusal, refusing, start_on, event_on}
use Rattle.engine.specs.Texts.{start_read, event_read, started, evented}
use Rattle.engine.specs.Parts.{plan_in}
use Rattle.engine.proofs.Calls.Answering.{gives_of}

-- rows that are a list's elements, by what these mean, are the list's meaning
rows_map : {A B : Type 0} (f : A → B) (row : ℕ → B) (d : A) (l : List A) (i : ℕ) → ((k : ℕ) → k < length l → row (i + k) ≡ f (get_or l k d))
    → rows_from row i (length l) ≡ map f l
unfolding rows_from
rows_map f row d [] i h = refl
rows_map {B = B} f row d (a ∷ l) i h =
    ap₂ (λ (x : B) (r : List B). x ∷ r) (ap row (sym (add-zero i)) ∙ h 0 (zero-lt-suc (length l)))
    (rows_map f row d l (suc i) (λ k m. ap row (suc-add i k ∙ sym (add-suc i k)) ∙ h (suc k) (omega arith)))

rows_list : {A : Type 0} (row : ℕ → A) (d : A) (l : List A) (i : ℕ) → ((k : ℕ) → k < length l → row (i + k) ≡ get_or l k d)
    → rows_from row i (length l) ≡ l
unfolding rows_from
rows_list row d [] i h = refl
rows_list {A = A} row d (a ∷ l) i h =
    ap₂ (λ (x : A) (r : List A). x ∷ r) (ap row (sym (add-zero i)) ∙ h 0 (zero-lt-suc (length l)))
    (rows_list row d l (suc i) (λ k m. ap row (suc-add i k ∙ sym (add-suc i k)) ∙ h (suc k) (omega arith)))

-- a count of the head that is at most 64 is the count of rows
count_is : (table : List ℕ) (k n : ℕ) → get_or table k 0 ≡ n → n ≤ 64 → count_in table k ≡ n
count_is table k n e h = omega arith

-- a table that says a well-formed chart
module _ (text : List ℕ) (c : Chart) (table : List ℕ) (s : TellsChart text c table) (f : WellFormed c) where
  moves_are : moves_in text table ≡ map move_of c.body.moves
  unfolding moves_in move_in move_row
  moves_are =
      ap (rows_from (move_in text table) 0) (count_is table move_count_at (length c.body.moves) (s.head move_count_at (omega arith)) f.few_moves)
      ∙ rows_map move_of (move_in text table) no_move c.body.moves 0 (λ j l.
      ap (move_in text table) (zero-add j)
      ∙ ap (λ (r : MoveRow). record { before = r.before; after = r.after; condition = meaning r.condition }) (s.moves j l))

  holds_are : holds_in text table ≡ map hold_of c.body.holds
  unfolding holds_in
  holds_are =
      ap (rows_from (hold_in text table) 0) (count_is table hold_count_at (length c.body.holds) (s.head hold_count_at (omega arith)) f.few_holds)
      ∙ rows_map hold_of (hold_in text table) no_hold c.body.holds 0 (λ j l. ap (hold_in text table) (zero-add j) ∙ ap hold_of (s.holds j l))

  latches_are : latches_in table ≡ c.body.latches
  unfolding latches_in
  latches_are =
      ap (rows_from (latch_row table) 0) (count_is table latch_count_at (length c.body.latches) (s.head latch_count_at (omega arith)) f.few_latches)
      ∙ rows_list (latch_row table) no_latch c.body.latches 0 (λ j l. ap (latch_row table) (zero-add j) ∙ s.latches j l)

  net-is : net_in text table ≡ net_of c
  unfolding net_in net_of
  net-is =
      let a = s.head steps_at (omega arith) in
      let b = s.head limit_at (omega arith) in
      λ j. record { steps = a j; limit = b j; moves = moves_are j; latches = latches_are j }

  says_plan : plan_in text table ≡ plan_of c
  unfolding plan_in plan_of
  says_plan =
      let a = s.head initial_at (omega arith) in
      let b = s.head inputs_at (omega arith) in
      let d = s.head outputs_at (omega arith) in
      λ j. record { initial = a j; inputs = b j; outputs = d j; net = net-is j; holds = holds_are j }

-- the plan in the table of an accepted text is the plan of its chart
pub plan_is : (text table : List ℕ) (c : Chart) → TableSays text table → read_chart text ≡ accepted c → plan_in text table ≡ plan_of c
plan_is text table c says is = says_plan text c table (says c is) (accepted-only text c is).0

-- a call on an accepted text is the call on its chart's plan
module _ (text : List ℕ) (c : Chart) (is : read_chart text ≡ accepted c) where
  pub start_is : (i : ℕ) (t : List ℕ) → started text i t ≡ start_on (plan_of c) i t
  unfolding started start_read
  start_is i t = ap (λ (x : Read). start_read x i t) is

  pub event-is : (s : State) (elapsed i : ℕ) (t : List ℕ) → evented text s elapsed i t ≡ event_on (plan_of c) s (record { elapsed = elapsed; inputs = i }) t
  unfolding evented event_read
  event-is s elapsed i t = ap (λ (x : Read). event_read x s (record { elapsed = elapsed; inputs = i }) t) is

-- a text that is no chart: its verdict has its number and line
faulty_by : (x : Read) → ((verdict_of x).number ≡ 0 → ⊥) → x ≡ refused (verdict_of x).number (verdict_of x).line
faulty_by (accepted c) h = absurd (h refl)
faulty_by (refused n l) h = refl

-- a verdict on a text
module _ (text : List ℕ) (r : Verdict) (is : r ≡ verdict text) where
  faulty-read : (r.number ≡ 0 → ⊥) → read_chart text ≡ refused r.number r.line
  unfolding verdict
  faulty-read h =
      faulty_by (read_chart text) (λ e. h (ap (λ (x : Verdict). x.number) is ∙ e)) ∙ ap (λ (x : Verdict). refused x.number x.line) (sym is)

  pub start-faulty : (a : Answer) (s : State) (i : ℕ) (t : List ℕ) → (r.number ≡ 0 → ⊥) → s ≡ zero_state → a ≡ refusal r.number r.line s
      → Gives (started text i t) a t
  unfolding started start_read refusing
  start-faulty a s i t h z e =
      gives_of _ (refusing r.number r.line zero_state t) a t (ap (λ (x : Read). start_read x i t) (faulty-read h)) (e ∙ ap (refusal r.number r.line) z, refl)

  pub event-faulty : (a : Answer) (s : State) (elapsed i : ℕ) (t : List ℕ) → (r.number ≡ 0 → ⊥) → a ≡ refusal r.number r.line s
      → Gives (evented text s elapsed i t) a t
  unfolding evented event_read refusing
  event-faulty a s elapsed i t h e =
      gives_of _ (refusing r.number r.line s t) a t
      (ap (λ (x : Read). event_read x s (record { elapsed = elapsed; inputs = i }) t) (faulty-read h)) (e, refl)

  -- the table of a text that is a chart
  module _ (table : List ℕ) (says : TableSays text table) (zero_is : r.number ≡ 0) where
    charted : Charted text
    charted = number_read text (ap (λ (x : Verdict). x.number) (sym is) ∙ zero_is)

    plan : plan_in text table ≡ plan_of charted.chart
    plan = plan_is text table charted.chart says charted.is

    pub start-read : (a : Answer) (u : List ℕ) (i : ℕ) (t : List ℕ) → Gives (start_on (plan_in text table) i t) a u → Gives (started text i t) a u
    start-read a u i t g =
        gives_of _ (start_on (plan_of charted.chart) i t) a u (start_is text charted.chart charted.is i t)
        (subst (λ (p : Plan). Gives (start_on p i t) a u) plan g)

    pub event-read : (a : Answer) (u : List ℕ) (s : State) (elapsed i : ℕ) (t : List ℕ)
        → Gives (event_on (plan_in text table) s (record { elapsed = elapsed; inputs = i }) t) a u → Gives (evented text s elapsed i t) a u
    event-read a u s elapsed i t g =
        gives_of _ (event_on (plan_of charted.chart) s (record { elapsed = elapsed; inputs = i }) t) a u
        (event-is text charted.chart charted.is s elapsed i t)
        (subst (λ (p : Plan). Gives (event_on p s (record { elapsed = elapsed; inputs = i }) t) a u) plan g)
