-- Lines that pass from the start on are the lines of the chart that they make.
use mathlib.Core.Bool.{Bool, true, false}
use mathlib.Core.List.{List, [], ◌∷◌, ◌++◌, append-nil, append_assoc}
use mathlib.Core.Path.{◌≡◌, refl, sym, ap, ◌∙◌}
use Prim.Native.Nat.{ℕ, ◌+◌, ◌<◌, ◌≤◌}
use native.Mathlib.Omega.{arith}
use borrow.Author.Tests.{eqb-true, ltb-true, ltb-false}
use lib.Dec.{ltb}
use lib.ListN.{take}
use lib.Seq.{take_all}
use Rattle.line.specs.Chart.{Chart, Body, Move, Hold, Latch}
use Rattle.std.proofs.Common.{Option, Some, None}
use Rattle.line.specs.declared.Kind.{Kind}
use Rattle.line.specs.declared.Kind.TheVariants.{Initial as initial_kind, Move as move_kind, Hold as hold_kind, Latch as latch_kind, End as end_kind}
use Rattle.line.specs.Kinds.{HeadNumber, version, steps, inputs, outputs, limit, number_kind, rank, in_order}
use Rattle.line.specs.Write.{Line, number', initial', move', hold', latch', end', wrong, kind, lines, total, head_lines, lines_of}
use Rattle.line.specs.Rules.{blank, with_number, extended, fault}
use Rattle.line.proofs.Answers.{fault-wrong, in_place, rules_zero, after-head, after-body}
use Rattle.chart.proofs.Lines.Several.{lines_append, lines_at}
use Rattle.chart.proofs.Lines.Ruled.{end_rules}
use Rattle.chart.proofs.Fold.Whole.{Passes, done, pass, final}

-- The lines up to rank p: so many of the head, and the others

abbrev body_lines : Chart → List Line → List Line
body_lines c r = lines move' c.body.moves (lines hold' c.body.holds (lines latch' c.body.latches r))

abbrev so_far : ℕ → Chart → List Line
so_far p c = take p (head_lines c.head []) ++ body_lines c []

-- none of a kind above p
record Upto (p : ℕ) (c : Chart) : Type 0 where
  moves : p < rank (Some move_kind) → c.body.moves ≡ []
  holds : p < rank (Some hold_kind) → c.body.holds ≡ []
  latches : p < rank (Some latch_kind) → c.body.latches ≡ []

head-only : (p : ℕ) (c : Chart) → c.body.moves ≡ [] → c.body.holds ≡ [] → c.body.latches ≡ [] → so_far p c ≡ take p (head_lines c.head [])
unfolding lines
head-only p c m x y = rw (m, x, y, append-nil)

-- one line more
record Adds (p : ℕ) (c : Chart) (l : Line) : Type 0 where
  lines : so_far (rank (kind l)) (extended c l) ≡ so_far p c ++ (l ∷ [])
  upto : Upto (rank (kind l)) (extended c l)
  before_end : rank (kind l) < rank (Some end_kind)

module _ (p : ℕ) (c : Chart) (u : Upto p c) where
  -- a line of the head, after which there is no other line yet
  adds_head : (l : Line) → p < rank (Some (number_kind limit)) → rank (kind l) < rank (Some move_kind) → (extended c l).body ≡ c.body
      → take (rank (kind l)) (head_lines (extended c l).head []) ≡ take p (head_lines c.head []) ++ (l ∷ []) → Adds p c l
  adds_head l a b e h =
      let m = u.moves (omega arith) in
      let x = u.holds (omega arith) in
      let y = u.latches (omega arith) in
      let m' = ap (λ (b : Body). b.moves) e ∙ m in
      let x' = ap (λ (b : Body). b.holds) e ∙ x in
      let y' = ap (λ (b : Body). b.latches) e ∙ y in
      let i = sym (head-only p c m x y) in
      record {
        lines = head-only (rank (kind l)) (extended c l) m' x' y' ∙ h ∙ ap (λ (r : List Line). r ++ (l ∷ [])) i;
        upto = record { moves = λ z. m'; holds = λ z. x'; latches = λ z. y' };
        before_end = omega arith;
      }

  adds_number : (q : HeadNumber) (v : ℕ) → rank (Some (number_kind q)) ≡ p + 1 → Adds p c (number' q v)
  unfolding extended with_number
  adds_number version v e = let z : p ≡ 0 = omega arith in adds_head (number' version v) (omega arith) (omega arith) refl (rw z)
  adds_number steps v e = let z : p ≡ 1 = omega arith in adds_head (number' steps v) (omega arith) (omega arith) refl (rw z)
  adds_number inputs v e = let z : p ≡ 3 = omega arith in adds_head (number' inputs v) (omega arith) (omega arith) refl (rw z)
  adds_number outputs v e = let z : p ≡ 4 = omega arith in adds_head (number' outputs v) (omega arith) (omega arith) refl (rw z)
  adds_number limit v e = let z : p ≡ 5 = omega arith in adds_head (number' limit v) (omega arith) (omega arith) refl (rw z)

  adds_initial : (l : List ℕ) → rank (Some initial_kind) ≡ p + 1 → Adds p c (initial' l)
  unfolding extended
  adds_initial l e = let z : p ≡ 2 = omega arith in adds_head (initial' l) (omega arith) (omega arith) refl (rw z)

  -- the others, after all of the head
  whole-head : rank (Some (number_kind limit)) ≤ p → take p (head_lines c.head []) ≡ head_lines c.head []
  whole-head a = take_all p (head_lines c.head []) a

  adds_move : (m : Move) → rank (Some (number_kind limit)) ≤ p → p ≤ rank (Some move_kind) → Adds p c (move' m)
  unfolding extended lines
  adds_move m a b =
      let x = u.holds (omega arith) in
      let y = u.latches (omega arith) in
      record {
        lines = rw (whole-head a, x, y, lines_at);
        upto = record { moves = λ z. absurd (omega arith); holds = λ z. x; latches = λ z. y };
        before_end = omega arith;
      }

  adds_hold : (x : Hold) → rank (Some (number_kind limit)) ≤ p → p ≤ rank (Some hold_kind) → Adds p c (hold' x)
  unfolding extended lines
  adds_hold x a b =
      let y = u.latches (omega arith) in
      record {
        lines = rw (whole-head a, y, lines_at, lines_append);
        upto = record { moves = λ z. absurd (omega arith); holds = λ z. absurd (omega arith); latches = λ z. y };
        before_end = omega arith;
      }

  adds_latch : (x : Latch) → rank (Some (number_kind limit)) ≤ p → p ≤ rank (Some latch_kind) → Adds p c (latch' x)
  unfolding extended lines
  adds_latch x a b =
      record {
        lines = rw (whole-head a, lines_at, lines_append, lines_append);
        upto = record { moves = λ z. absurd (omega arith); holds = λ z. absurd (omega arith); latches = λ z. absurd (omega arith) };
        before_end = omega arith;
      }

-- Lines that pass are each one more, up to `end`, and nothing follows it

after_end : (p k : ℕ) → p ≡ rank (Some end_kind) → in_order p k ≡ true → ⊥
after_end p k e h = go (ltb k (rank (Some move_kind))) refl
  where
    go : (t : Bool) → ltb k (rank (Some move_kind)) ≡ t → ⊥
    go true q = let a = ltb-true k (rank (Some move_kind)) q in let b = after-head p k a h in omega arith
    go false q = let a = (after-body p k (ltb-false k (rank (Some move_kind)) q) h).before_end in omega arith

nothing-after : {k : Option Kind} {c : Chart} {ls : List Line} → Passes k c ls → rank k ≡ rank (Some end_kind) → ls ≡ []
nothing-after (done k c e) z = refl
nothing-after (pass k c l ls f p) z = absurd (after_end (rank k) (rank (kind l)) z (in_place k c l f))

module _ (k : Option Kind) (c : Chart) (u : Upto (rank k) c) where
  -- what is read after lines so far, where it is read after one more
  abbrev Reads : ℕ → Chart → List Line → Type 0
  Reads p c ls = so_far p c ++ ls ≡ lines_of (final c ls)

  reads_more : (l : Line) (ls : List Line) → Adds (rank k) c l
      → (Upto (rank (kind l)) (extended c l) → rank (kind l) < rank (Some end_kind) → Reads (rank (kind l)) (extended c l) ls) → Reads (rank k) c (l ∷ ls)
  unfolding final
  reads_more l ls a h =
      let e = append_assoc (so_far (rank k) c) (l ∷ []) ls in
      sym e ∙ ap (λ (r : List Line). r ++ ls) (sym a.lines) ∙ h a.upto a.before_end

  reads_end : (v : ℕ) → v ≡ total c → rank (Some (number_kind limit)) ≤ rank k → Reads (rank k) c (end' v ∷ [])
  unfolding final lines_of extended
  reads_end v e a =
      let i = end' (total c) ∷ [] in
      let x = lines_append latch' c.body.latches [] i in
      let y = lines_append hold' c.body.holds (lines latch' c.body.latches []) i in
      let z = lines_append move' c.body.moves (lines hold' c.body.holds (lines latch' c.body.latches [])) i in
      rw (e, whole-head (rank k) c u a, x, y, z)

  reads-line : (l : Line) (ls : List Line) → fault k c l ≡ 0 → Passes (kind l) (extended c l) ls
      → (Upto (rank (kind l)) (extended c l) → rank (kind l) < rank (Some end_kind) → Reads (rank (kind l)) (extended c l) ls) → Reads (rank k) c (l ∷ ls)
  reads-line (number' q v) ls f p h =
      let e = after-head (rank k) (rank (Some (number_kind q))) (head-rank q) (in_place k c (number' q v) f) in
      reads_more (number' q v) ls (adds_number (rank k) c u q v e) h
    where
      head-rank : (q : HeadNumber) → rank (Some (number_kind q)) < rank (Some move_kind)
      head-rank version = omega arith
      head-rank steps = omega arith
      head-rank inputs = omega arith
      head-rank outputs = omega arith
      head-rank limit = omega arith
  reads-line (initial' l) ls f p h =
      let e = after-head (rank k) (rank (Some initial_kind)) (omega arith) (in_place k c (initial' l) f) in
      reads_more (initial' l) ls (adds_initial (rank k) c u l e) h
  reads-line (move' m) ls f p h =
      let b = after-body (rank k) (rank (Some move_kind)) (omega arith) (in_place k c (move' m) f) in
      reads_more (move' m) ls (adds_move (rank k) c u m b.after-limit b.not_falling) h
  reads-line (hold' x) ls f p h =
      let b = after-body (rank k) (rank (Some hold_kind)) (omega arith) (in_place k c (hold' x) f) in
      reads_more (hold' x) ls (adds_hold (rank k) c u x b.after-limit b.not_falling) h
  reads-line (latch' x) ls f p h =
      let b = after-body (rank k) (rank (Some latch_kind)) (omega arith) (in_place k c (latch' x) f) in
      reads_more (latch' x) ls (adds_latch (rank k) c u x b.after-limit b.not_falling) h
  reads-line (end' v) ls f p h =
      let b = after-body (rank k) (rank (Some end_kind)) (omega arith) (in_place k c (end' v) f) in
      let e = end_rules c v (rules_zero k c (end' v) f) in
      let n = nothing-after p refl in
      rw n (reads_end v e b.after-limit)
  reads-line wrong ls f p h = let z = fault-wrong k c in absurd (omega arith)

reads : {k : Option Kind} {c : Chart} {ls : List Line} → Passes k c ls → Upto (rank k) c → rank k < rank (Some end_kind) → so_far (rank k) c ++ ls ≡ lines_of (final c ls)
reads (done k c e) u b = let z = eqb-true (rank k) (rank (Some end_kind)) e in absurd (omega arith)
reads (pass k c l ls f p) u b = reads-line k c u l ls f p (λ v d. reads p v d)

pub of_chart : (ls : List Line) → Passes None blank ls → ls ≡ lines_of (final blank ls)
unfolding lines
of_chart ls p = reads p (record { moves = λ z. refl; holds = λ z. refl; latches = λ z. refl }) (omega arith)
