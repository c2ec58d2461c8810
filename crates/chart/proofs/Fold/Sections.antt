-- The lines of each section of a chart pass exactly if 01's rules for them hold. A section is the lines of one kind.
use mathlib.Core.Bool.{true}
use mathlib.Core.List.{List, [], ◌∷◌, ◌++◌, append-nil, append_assoc}
use mathlib.Core.Path.{◌≡◌, refl, ap, ◌∙◌}
use Prim.Native.Nat.{◌<◌, ◌≤◌}
use native.Mathlib.Omega.{arith}
use lib.ListN.{length, length-append}
use Rattle.line.specs.Chart.{Chart, Move, Hold, Latch}
use Rattle.std.proofs.Common.{Option, Some}
use Rattle.line.specs.declared.Kind.{Kind}
use Rattle.line.specs.declared.Kind.TheVariants.{Move as move_kind, Hold as hold_kind, Latch as latch_kind}
use Rattle.line.specs.Kinds.{follows}
use Rattle.line.specs.Write.{Line, move', hold', latch', kind, lines}
use Rattle.line.specs.Rules.{with_lines, declared_by, line_bound, extended, rules}
use Rattle.line.proofs.Answers.{rules_zero, fault_zero}
use Rattle.chart.specs.WellFormed.{Every, every_nil, every_cons, MoveRules, HoldRules, LatchRules}
use Rattle.chart.proofs.Lines.Ruled.{move_rules, move_ruled, hold-rules, hold_ruled, latch-rules, latch_ruled}
use Rattle.chart.proofs.Fold.Whole.{Passes, pass, final}

-- the first line passes, and then the others
pub peel : {k : Option Kind} {c : Chart} {l : Line} {ls : List Line} → Passes k c (l ∷ ls) → (rules c l ≡ 0) × Passes (kind l) (extended c l) ls
peel (pass k c l ls f p) = (rules_zero k c l f, p)

pub push : (k : Option Kind) (c : Chart) (l : Line) (ls : List Line) → follows k (kind l) ≡ true → rules c l ≡ 0 → Passes (kind l) (extended c l) ls
    → Passes k c (l ∷ ls)
push k c l ls e r p = pass k c l ls (fault_zero k c l e r) p

-- A section

pub record Section (A : Type 0) : Type 1 where
  -- a line of it
  pub line : A → Line
  pub of : Option Kind
  pub is_of : (x : A) → kind (line x) ≡ of
  pub again : follows of of ≡ true
  -- the chart with lines of it
  pub chart : List A → Chart
  pub extends : (xs : List A) (x : A) → extended (chart xs) (line x) ≡ chart (xs ++ (x ∷ []))
  -- its rules
  pub Ruled : A → Type 0
  pub out : (xs : List A) (x : A) → rules (chart xs) (line x) ≡ 0 → (length xs < line_bound) × Ruled x
  pub in' : (xs : List A) (x : A) → length xs < line_bound → Ruled x → rules (chart xs) (line x) ≡ 0

-- the kind of the last line after lines of a kind, if there are any
abbrev pub last : {A : Type 0} → Option Kind → Option Kind → List A → Option Kind
last k m [] = k
last k m (x ∷ xs) = m

pub last-follows : {A : Type 0} (k m n : Option Kind) (xs : List A) → follows k n ≡ true → follows m n ≡ true → follows (last k m xs) n ≡ true
last-follows k m n [] p q = p
last-follows k m n (x ∷ xs) p q = q

last-same : {A : Type 0} (k : Option Kind) (xs : List A) → last k k xs ≡ k
last-same k [] = refl
last-same k (x ∷ xs) = refl

module _ {A : Type 0} (s : Section A) where
  pub record Passed (k : Option Kind) (xs ys : List A) (r : List Line) : Type 0 where
    pub few : length (xs ++ ys) ≤ line_bound
    pub every : Every s.Ruled ys
    pub passes : Passes (last k s.of ys) (s.chart (xs ++ ys)) r

  pub section_out : (ys : List A) (k : Option Kind) (xs : List A) (r : List Line) → length xs ≤ line_bound → Passes k (s.chart xs) (lines s.line ys r) → Passed k xs ys r
  unfolding lines
  section_out [] k xs r h p = record { few = rw (append-nil xs) h; every = every_nil; passes = rw (append-nil xs) p }
  section_out (y ∷ ys) k xs r h p =
      let e = peel p in
      let o = s.out xs y e.0 in
      let f = o.0 in
      let n = length-append xs (y ∷ []) in
      let p' : Passes s.of (s.chart (xs ++ (y ∷ []))) (lines s.line ys r) = rw (s.is_of y, s.extends xs y) at e.1 in
      let t = section_out ys s.of (xs ++ (y ∷ [])) r (omega arith) p' in
      record {
        few = rw (append_assoc xs (y ∷ []) ys) at t.few;
        every = every_cons o.1 t.every;
        passes = rw (last-same s.of ys, append_assoc xs (y ∷ []) ys) at t.passes;
      }

  pub section_in : (ys : List A) (k : Option Kind) (xs : List A) (r : List Line) → follows k s.of ≡ true → Passed k xs ys r → Passes k (s.chart xs) (lines s.line ys r)
  unfolding lines
  section_in [] k xs r e p = rw (append-nil xs) at p.passes
  section_in (y ∷ ys) k xs r e p = go p.every (λ t. section_in ys s.of (xs ++ (y ∷ [])) r s.again t)
    where
      go : Every s.Ruled (y ∷ ys) → (Passed s.of (xs ++ (y ∷ [])) ys r → Passes s.of (s.chart (xs ++ (y ∷ []))) (lines s.line ys r))
          → Passes k (s.chart xs) (lines s.line (y ∷ ys) r)
      go (every_cons q z) f =
          let m = p.few in
          let n = length-append xs (y ∷ ys) in
          let i = s.is_of y in
          let a = append_assoc xs (y ∷ []) ys in
          let t = f (record { few = rw a m; every = z; passes = rw (last-same s.of ys, a) p.passes }) in
          push k (s.chart xs) (s.line y) (lines s.line ys r) (rw i e) (s.in' xs y (omega arith) q) (rw (i, s.extends xs y) t)

  pub section_final : (ys xs : List A) (r : List Line) → final (s.chart xs) (lines s.line ys r) ≡ final (s.chart (xs ++ ys)) r
  unfolding lines final
  section_final [] xs r = rw (append-nil xs)
  section_final (y ∷ ys) xs r =
      ap (λ (c : Chart). final c (lines s.line ys r)) (s.extends xs y) ∙ section_final ys (xs ++ (y ∷ [])) r
      ∙ ap (λ (zs : List A). final (s.chart zs) r) (append_assoc xs (y ∷ []) ys)

-- The three sections of a chart, each after those before it

module _ (c : Chart) where
  pub move_extends : (ms : List Move) (m : Move) → extended (with_lines c ms [] []) (move' m) ≡ with_lines c (ms ++ (m ∷ [])) [] []
  unfolding extended
  move_extends ms m = refl

  abbrev pub move_section : Section Move
  move_section =
      record {
        line = move';
        of = Some move_kind;
        is_of = λ m. refl;
        again = refl;
        chart = λ ms. with_lines c ms [] [];
        extends = move_extends;
        Ruled = MoveRules (declared_by c);
        out = λ ms m. move_rules (with_lines c ms [] []) m;
        in' = λ ms m. move_ruled (with_lines c ms [] []) m;
      }

  pub hold_extends : (hs : List Hold) (x : Hold) → extended (with_lines c c.body.moves hs []) (hold' x) ≡ with_lines c c.body.moves (hs ++ (x ∷ [])) []
  unfolding extended
  hold_extends hs x = refl

  abbrev pub hold_section : Section Hold
  hold_section =
      record {
        line = hold';
        of = Some hold_kind;
        is_of = λ x. refl;
        again = refl;
        chart = λ hs. with_lines c c.body.moves hs [];
        extends = hold_extends;
        Ruled = HoldRules (declared_by c) c.head.outputs;
        out = λ hs x. hold-rules (with_lines c c.body.moves hs []) x;
        in' = λ hs x. hold_ruled (with_lines c c.body.moves hs []) x;
      }

  pub latch_extends : (xs : List Latch) (x : Latch)
      → extended (with_lines c c.body.moves c.body.holds xs) (latch' x) ≡ with_lines c c.body.moves c.body.holds (xs ++ (x ∷ []))
  unfolding extended
  latch_extends xs x = refl

  abbrev pub latch_section : Section Latch
  latch_section =
      record {
        line = latch';
        of = Some latch_kind;
        is_of = λ x. refl;
        again = refl;
        chart = with_lines c c.body.moves c.body.holds;
        extends = latch_extends;
        Ruled = LatchRules c.head.steps c.head.outputs c.body.holds;
        out = λ xs x. latch-rules (with_lines c c.body.moves c.body.holds xs) x;
        in' = λ xs x. latch_ruled (with_lines c c.body.moves c.body.holds xs) x;
      }
