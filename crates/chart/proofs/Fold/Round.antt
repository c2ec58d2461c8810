-- A text is accepted with a chart exactly if the chart is well formed and the text is the chart's text.
use mathlib.Core.Bool.{Bool, true}
use mathlib.Core.List.{List}
use mathlib.Core.Path.{◌≡◌, refl, sym, ap, ◌∙◌}
use Prim.Native.Nat.{ℕ, ◌≤◌}
use native.Mathlib.Omega.{arith}
use Rattle.cond.specs.declared.Declared.{Declared}
use Rattle.line.specs.Chart.{Chart, Move, Hold, Latch}
use Rattle.line.specs.Kinds.{HeadNumber, version, steps, inputs, outputs, limit, number_line}
use Rattle.line.specs.Write.{Line, number', initial', move', hold', latch', end', lines, total, lines_of, write_lines, write}
use Rattle.line.specs.Rules.{number_of, declared_by}
use Rattle.chart.specs.WellFormed.{Every, every_nil, every_cons, StepList, Condition, MoveRules, HoldRules, LatchRules, InBounds, WellFormed}
use Rattle.chart.specs.Shapes.{Digits7}
use Rattle.chart.specs.Reading.{accepted, read_chart}
use Rattle.chart.proofs.Lines.Numbers.{every_map}
use Rattle.chart.proofs.Lines.Plain.{plain, plain-condition, plain-line}
use Rattle.chart.proofs.Fold.Whole.{Plain, read_sound, read_complete}
use Rattle.chart.proofs.Fold.Order.{of_chart}
use Rattle.chart.proofs.Fold.Passing.{passing, well_formed, final-chart}

-- A well-formed chart's lines are plain: their numbers are low, and their conditions are of the grammar

number-plain : (q : HeadNumber) (v : ℕ) → InBounds q v → Plain (number' q v)
number-plain q v b = record { low = low q b.1; plain = plain-line (number' q v) tt }
  where
    low : (q : HeadNumber) → v ≤ (number_line q).to → Digits7 v
    low version a = omega arith
    low steps a = omega arith
    low inputs a = omega arith
    low outputs a = omega arith
    low limit a = omega arith

condition-plain : {d : Declared} {hold : Bool} (s : List ℕ) → Condition d hold s → plain s ≡ true
condition-plain s k = plain-condition s k.meaning k.grammar

lines-plain : {A : Type 0} (f : A → Line) {P : A → Type 0} → ((x : A) → P x → Plain (f x)) → {xs : List A} {ls : List Line} → Every P xs → Every Plain ls → Every Plain (lines f xs ls)
unfolding lines
lines-plain f g every_nil p = p
lines-plain f g (every_cons {x} q e) p = every_cons (g x q) (lines-plain f g e p)

module _ (c : Chart) (f : WellFormed c) where
  head_plain : (q : HeadNumber) → Plain (number' q (number_of q c.head))
  head_plain q = number-plain q (number_of q c.head) (f.numbers q)

  low-list : (l : List ℕ) → StepList c.head.steps l → Every Digits7 l
  low-list l s = let n = (f.numbers steps).1 in every_map (λ v a. omega arith) s.declared

  initial-plain : Plain (initial' c.head.initial)
  initial-plain = record { low = low-list c.head.initial f.initial; plain = plain-line (initial' c.head.initial) tt }

  move_plain : (m : Move) → MoveRules (declared_by c) m → Plain (move' m)
  move_plain m r =
      record {
        low = (low-list m.before r.before, low-list m.after r.after);
        plain = plain-line (move' m) (condition-plain m.condition r.condition);
      }

  hold-plain : (x : Hold) → HoldRules (declared_by c) c.head.outputs x → Plain (hold' x)
  hold-plain x r =
      let n = (f.numbers steps).1 in let o = (f.numbers outputs).1 in
      let a = r.step in let b = r.output in
      record { low = (omega arith, omega arith); plain = plain-line (hold' x) (condition-plain x.condition r.condition) }

  latch-plain : (x : Latch) → LatchRules c.head.steps c.head.outputs c.body.holds x → Plain (latch' x)
  latch-plain x r =
      let n = (f.numbers steps).1 in let o = (f.numbers outputs).1 in
      let a = r.step in let b = r.output in
      record { low = (omega arith, omega arith); plain = plain-line (latch' x) tt }

  end_plain : Plain (end' (total c))
  end_plain =
      let m = f.few_moves in let h = f.few_holds in let x = f.few_latches in
      record { low = omega arith; plain = plain-line (end' (total c)) tt }

  chart-plain : Every Plain (lines_of c)
  unfolding lines_of
  chart-plain =
      every_cons (head_plain version) (every_cons (head_plain steps) (every_cons initial-plain
      (every_cons (head_plain inputs) (every_cons (head_plain outputs) (every_cons (head_plain limit)
      (lines-plain move' move_plain f.moves
      (lines-plain hold' hold-plain f.holds
      (lines-plain latch' latch-plain f.latches (every_cons end_plain every_nil)))))))))

-- The theorem

pub accepted-only : (t : List ℕ) (c : Chart) → read_chart t ≡ accepted c → WellFormed c × (t ≡ write c)
unfolding write
accepted-only t c q =
    let a = read_sound t c q in
    let l : a.lines ≡ lines_of c = of_chart a.lines a.passes ∙ ap lines_of (sym a.chart) in
    let w : t ≡ write_lines (lines_of c) = a.written ∙ ap write_lines l in
    (well_formed c (rw w at a.short) (rw l at a.passes), w)

pub accepted_if : (t : List ℕ) (c : Chart) → WellFormed c → t ≡ write c → read_chart t ≡ accepted c
unfolding write
accepted_if t c f w = read_complete t (lines_of c) (rw w f.short) w (chart-plain c f) (passing c f) ∙ ap accepted (final-chart c)

-- an accepted text has one chart
pub one-chart : (t : List ℕ) (c d : Chart) → read_chart t ≡ accepted c → read_chart t ≡ accepted d → c ≡ d
one-chart t c d p q = cc

-- a chart has one text
pub one-text : (s t : List ℕ) (c : Chart) → read_chart s ≡ accepted c → read_chart t ≡ accepted c → s ≡ t
one-text s t c p q = (accepted-only s c p).1 ∙ sym (accepted-only t c q).1

-- and two well-formed charts of one text are one chart
pub write-one : (c d : Chart) → WellFormed c → WellFormed d → write c ≡ write d → c ≡ d
write-one c d f g e = one-chart (write c) c d (accepted_if (write c) c f refl) (accepted_if (write c) d g e)
