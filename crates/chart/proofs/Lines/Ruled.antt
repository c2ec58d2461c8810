-- The rules of each line, spelled out: a line has no fault exactly if 01's rules for it hold.
use mathlib.Core.Bool.{Bool, true, false, not, ◌&&◌, ◌||◌, false≢true, or-true}
use mathlib.Core.List.{List, [], ◌∷◌}
use mathlib.Core.Path.{◌≡◌, refl, sym, ◌∙◌}
use Prim.Native.Nat.{ℕ, ◌<◌}
use native.Mathlib.Omega.{arith}
use borrow.Author.Tests.{eqb-true, eq-eqb, leb-true, leb-false, le-leb, lt-leb, not-false}
use lib.Dec.{eqb, leb}
use lib.ListN.{length}
use Rattle.cond.specs.declared.Declared.{Declared}
use Rattle.cond.specs.Lowest.{given, lower}
use Rattle.cond.specs.Promised.{Judgement, too_long, no_condition, not_declared, edge_in_hold, faultless}
use Rattle.cond.specs.Judging.{judged}
use Rattle.cond.proofs.Promises.{judged_exactly}
use Rattle.line.specs.Chart.{Chart, Move, Hold, Latch}
use Rattle.line.specs.Kinds.{HeadNumber, number_line}
use Rattle.line.specs.Write.{number', initial', move', hold', latch', end', total}
use Rattle.line.specs.Rules.{rising, beyond, empty, is_held, declared_by, line_bound, rules}
use Rattle.line.proofs.Answers.{lower_zero, given_zero, not_given, and_both, or_neither}
use Rattle.chart.specs.WellFormed.{Some, some-here, some-later, StepList, Condition, MoveRules, HoldRules, LatchRules, InBounds}
use Rattle.chart.proofs.Lines.Numbers.{step-list, list-rises, list-declared}

-- Empty lists

not_empty : (l : List ℕ) → empty l ≡ false → l ≡ [] → ⊥
not_empty [] h e = absurd (false≢true (sym h))
not_empty (v ∷ l) h e = let z : ◌≡◌ {A = ℕ} 0 1 = cc in omega arith

empty_not : (l : List ℕ) → (l ≡ [] → ⊥) → empty l ≡ false
empty_not [] f = absurd (f refl)
empty_not (v ∷ l) f = refl

not_both-empty : (k l : List ℕ) → (empty k && empty l) ≡ false → k ≡ [] → l ≡ [] → ⊥
not_both-empty [] [] h p q = absurd (false≢true (sym h))
not_both-empty [] (v ∷ l) h p q = let z : ◌≡◌ {A = ℕ} 0 1 = cc in omega arith
not_both-empty (v ∷ k) l h p q = let z : ◌≡◌ {A = ℕ} 0 1 = cc in omega arith

both-empty_not : (k l : List ℕ) → (k ≡ [] → l ≡ [] → ⊥) → (empty k && empty l) ≡ false
both-empty_not [] [] f = absurd (f refl refl)
both-empty_not [] (v ∷ l) f = refl
both-empty_not (v ∷ k) l f = refl

-- Conditions

module _ (d : Declared) (hold : Bool) (s : List ℕ) where
  rules_of : {n : ℕ} → Judgement d hold s n → n ≡ 0 → Condition d hold s
  rules_of (too_long h) e = absurd (omega arith)
  rules_of (no_condition f) e = absurd (omega arith)
  rules_of (not_declared c x u) e = absurd (omega arith)
  rules_of (edge_in_hold c x u h w) e = absurd (omega arith)
  rules_of (faultless c x u f) e = record { short = x.short; meaning = c; grammar = x.spans; declared = u; no_edge = f }

  condition-rules : judged d hold s ≡ 0 → Condition d hold s
  condition-rules h = rules_of ((judged_exactly d hold s 0).0 h) refl

  condition-judged : Condition d hold s → judged d hold s ≡ 0
  condition-judged k = (judged_exactly d hold s 0).1 (faultless k.meaning (record { short = k.short; spans = k.grammar }) k.declared k.no_edge)

-- Outputs that have a hold

pub held : (o : ℕ) (hs : List Hold) → is_held o hs ≡ true → Some (λ (y : Hold). y.output ≡ o) hs
unfolding is_held
held o [] h = absurd (false≢true h)
held o (y ∷ hs) h = go (eqb y.output o) refl h (held o hs)
  where
    go : (t : Bool) → eqb y.output o ≡ t → (t || is_held o hs) ≡ true → (is_held o hs ≡ true → Some (λ (y : Hold). y.output ≡ o) hs)
        → Some (λ (y : Hold). y.output ≡ o) (y ∷ hs)
    go true q z f = some-here (eqb-true y.output o q)
    go false q z f = some-later (f z)

pub is_held_lem : (o : ℕ) (hs : List Hold) → Some (λ (y : Hold). y.output ≡ o) hs → is_held o hs ≡ true
unfolding is_held
is_held_lem o [] x = elim x [ ]
is_held_lem o (y ∷ hs) (some-here e) = rw (eq-eqb y.output o e)
is_held_lem o (y ∷ hs) (some-later s) = rw (is_held_lem o hs s) (or-true (eqb y.output o))

not_held : (o : ℕ) (hs : List Hold) → (Some (λ (y : Hold). y.output ≡ o) hs → ⊥) → is_held o hs ≡ false
not_held o hs f = go (is_held o hs) refl
  where
    go : (t : Bool) → is_held o hs ≡ t → t ≡ false
    go true q = absurd (f (held o hs q))
    go false q = refl

-- Lines of the head

module _ (c : Chart) (q : HeadNumber) (v : ℕ) where
  pub number-rules : rules c (number' q v) ≡ 0 → InBounds q v
  unfolding rules
  number-rules z =
      let p = and_both (leb (number_line q).from v) (leb v (number_line q).to) (not_given 3 _ (omega arith) z) in
      (leb-true (number_line q).from v p.0, leb-true v (number_line q).to p.1)

  pub number_ruled : InBounds q v → rules c (number' q v) ≡ 0
  unfolding rules
  number_ruled b = rw (le-leb (number_line q).from v b.0, le-leb v (number_line q).to b.1)

module _ (c : Chart) (l : List ℕ) where
  pub initial-rules : rules c (initial' l) ≡ 0 → (l ≡ [] → ⊥) × StepList c.head.steps l
  unfolding rules
  initial-rules z =
      let p = lower_zero (given 3 (empty l || not (rising 0 l))) (given 6 (beyond c.head.steps l)) z in
      let q = or_neither (empty l) (not (rising 0 l)) (given_zero 3 _ (omega arith) p.0) in
      (not_empty l q.0, step-list c.head.steps l (not-false (rising 0 l) q.1) (given_zero 6 _ (omega arith) p.1))

  pub initial_ruled : (l ≡ [] → ⊥) → StepList c.head.steps l → rules c (initial' l) ≡ 0
  unfolding rules
  initial_ruled f s = rw (empty_not l f, list-rises c.head.steps l s, list-declared c.head.steps l s)

-- Lines after the head

module _ (c : Chart) (m : Move) where
  pub move_rules : rules c (move' m) ≡ 0 → (length c.body.moves < line_bound) × MoveRules (declared_by c) m
  unfolding rules
  move_rules z =
      let n = c.head.steps in
      let lists = not (rising 0 m.before && rising 0 m.after) || (empty m.before && empty m.after) in
      let far = beyond n m.before || beyond n m.after in
      let told = judged (declared_by c) false m.condition in
      let p = lower_zero (given 3 (leb line_bound (length c.body.moves))) (lower (given 3 lists) (lower told (given 6 far))) z in
      let q = lower_zero (given 3 lists) (lower told (given 6 far)) p.1 in
      let r = lower_zero told (given 6 far) q.1 in
      let l = or_neither (not (rising 0 m.before && rising 0 m.after)) (empty m.before && empty m.after) (given_zero 3 lists (omega arith) q.0) in
      let u = and_both (rising 0 m.before) (rising 0 m.after) (not-false _ l.0) in
      let f = or_neither (beyond n m.before) (beyond n m.after) (given_zero 6 far (omega arith) r.1) in (
        leb-false line_bound (length c.body.moves) (given_zero 3 _ (omega arith) p.0),
        record {
          before = step-list n m.before u.0 f.0;
          after = step-list n m.after u.1 f.1;
          not_both = not_both-empty m.before m.after l.1;
          condition = condition-rules (declared_by c) false m.condition r.0;
        },
      )

  pub move_ruled : length c.body.moves < line_bound → MoveRules (declared_by c) m → rules c (move' m) ≡ 0
  unfolding rules
  move_ruled l r =
      rw (
        lt-leb line_bound (length c.body.moves) l,
        list-rises c.head.steps m.before r.before,
        list-rises c.head.steps m.after r.after,
        both-empty_not m.before m.after r.not_both,
        condition-judged (declared_by c) false m.condition r.condition,
        list-declared c.head.steps m.before r.before,
        list-declared c.head.steps m.after r.after,
      )

module _ (c : Chart) (x : Hold) where
  pub hold-rules : rules c (hold' x) ≡ 0 → (length c.body.holds < line_bound) × HoldRules (declared_by c) c.head.outputs x
  unfolding rules
  hold-rules z =
      let n = c.head.steps in
      let o = c.head.outputs in
      let far = leb n x.step || leb o x.output in
      let told = judged (declared_by c) true x.condition in
      let p = lower_zero (given 3 (leb line_bound (length c.body.holds))) (lower told (given 6 far)) z in
      let r = lower_zero told (given 6 far) p.1 in
      let f = or_neither (leb n x.step) (leb o x.output) (given_zero 6 far (omega arith) r.1) in (
        leb-false line_bound (length c.body.holds) (given_zero 3 _ (omega arith) p.0),
        record {
          step = leb-false n x.step f.0;
          output = leb-false o x.output f.1;
          condition = condition-rules (declared_by c) true x.condition r.0;
        },
      )

  pub hold_ruled : length c.body.holds < line_bound → HoldRules (declared_by c) c.head.outputs x → rules c (hold' x) ≡ 0
  unfolding rules
  hold_ruled l r =
      rw (
        lt-leb line_bound (length c.body.holds) l,
        condition-judged (declared_by c) true x.condition r.condition,
        lt-leb c.head.steps x.step r.step,
        lt-leb c.head.outputs x.output r.output,
      )

module _ (c : Chart) (x : Latch) where
  pub latch-rules : rules c (latch' x) ≡ 0
      → (length c.body.latches < line_bound) × LatchRules c.head.steps c.head.outputs c.body.holds x
  unfolding rules
  latch-rules z =
      let n = c.head.steps in
      let o = c.head.outputs in
      let far = leb n x.step || leb o x.output in
      let both = is_held x.output c.body.holds in
      let p = lower_zero (given 3 (leb line_bound (length c.body.latches))) (lower (given 6 far) (given 8 both)) z in
      let r = lower_zero (given 6 far) (given 8 both) p.1 in
      let f = or_neither (leb n x.step) (leb o x.output) (given_zero 6 far (omega arith) r.0) in
      let e = given_zero 8 both (omega arith) r.1 in (
        leb-false line_bound (length c.body.latches) (given_zero 3 _ (omega arith) p.0),
        record {
          step = leb-false n x.step f.0;
          output = leb-false o x.output f.1;
          not_held = λ s. false≢true (sym e ∙ is_held_lem x.output c.body.holds s);
        },
      )

  pub latch_ruled : length c.body.latches < line_bound → LatchRules c.head.steps c.head.outputs c.body.holds x → rules c (latch' x) ≡ 0
  unfolding rules
  latch_ruled l r =
      rw (
        lt-leb line_bound (length c.body.latches) l,
        lt-leb c.head.steps x.step r.step,
        lt-leb c.head.outputs x.output r.output,
        not_held x.output c.body.holds r.not_held,
      )

module _ (c : Chart) (v : ℕ) where
  pub end_rules : rules c (end' v) ≡ 0 → v ≡ total c
  unfolding rules
  end_rules z = eqb-true v (total c) (not_given 9 _ (omega arith) z)

  pub end_ruled : v ≡ total c → rules c (end' v) ≡ 0
  unfolding rules
  end_ruled e = rw (eq-eqb v (total c) e)
