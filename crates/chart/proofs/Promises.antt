-- The promises of chart text: which texts are charts, which answers there are, what a line's shape is, and what the lookup yields.
use mathlib.Core.List.{List}
use mathlib.Core.Path.{◌≡◌, refl, sym, ◌∙◌}
use Prim.Native.Nat.{ℕ}
use denote.Ref.{Bor}
use lib.Dec.{T}
use Rattle.std.specs.Prelude.{Result}
use Rattle.text.specs.Lines.{split}
use Rattle.line.specs.Chart.{Chart}
use Rattle.line.specs.Write.{Line, wrong, write_line, write}
use Rattle.line.specs.Shape.{shape}
use Rattle.chart.specs.declared.Refusal.{Refusal}
use Rattle.chart.specs.declared.Verdict.{Verdict}
use Rattle.chart.specs.WellFormed.{WellFormed}
use Rattle.chart.specs.Shapes.{Low, Shaped}
use Rattle.chart.specs.Reading.{accepted, read_chart, shown, verdict}
use Rattle.chart.specs.Parts.{FoundPart, Looks}
use Rattle.chart.specs.Reordered.{Reordered, Rearranged}
use Rattle.chart.specs.Numbers.{TextAnswer}
use Rattle.chart.specs.Cases.{right, table}
use Rattle.chart.proofs.Lines.Shaped as shapes
use Rattle.chart.proofs.Fold.Round as round
use Rattle.chart.proofs.Fold.Found.{found_part}
use Rattle.chart.proofs.Fold.Faults as faults
use Rattle.chart.proofs.Fold.Reordering as reordering
use Rattle.chart.proofs.Fold.Showing as showing
use Rattle.chart.proofs.Fold.Rearranging.{rearranged_well_formed}
use Rattle.chart.proofs.Worked as worked

-- Texts and charts: a text is accepted with a chart exactly if the chart is well formed and the text is the chart's text

pub accepted-only : (t : List ℕ) (c : Chart) → read_chart t ≡ accepted c → WellFormed c × (t ≡ write c)
accepted-only = round.accepted-only

pub accepted_if : (t : List ℕ) (c : Chart) → WellFormed c → t ≡ write c → read_chart t ≡ accepted c
accepted_if = round.accepted_if

-- an accepted text has one chart, a chart has one text, and two well-formed charts of one text are one chart

pub one-chart : (t : List ℕ) (c d : Chart) → read_chart t ≡ accepted c → read_chart t ≡ accepted d → c ≡ d
one-chart = round.one-chart

pub one-text : (s t : List ℕ) (c : Chart) → read_chart s ≡ accepted c → read_chart t ≡ accepted c → s ≡ t
one-text = round.one-text

pub write-one : (c d : Chart) → WellFormed c → WellFormed d → write c ≡ write d → c ≡ d
write-one = round.write-one

-- Demand 3: "Reordering move, hold or latch lines among their own kind": what is reordered is accepted, with the chart's lines reordered;
-- nothing is supposed of the second text
pub reordered_accepted : (s t : List ℕ) (c : Chart) → read_chart s ≡ accepted c → Reordered (split s) (split t)
    → (d : Chart) × (read_chart t ≡ accepted d) × Rearranged c d
reordered_accepted = reordering.reordered_accepted

-- and the text of any rearrangement of an accepted text's chart is accepted, with that rearrangement
pub rearranged_accepted : (s t : List ℕ) (c d : Chart) → read_chart s ≡ accepted c → Rearranged c d → t ≡ write d → read_chart t ≡ accepted d
rearranged_accepted s t c d q r w = accepted_if t d (rearranged_well_formed c d r (accepted-only s c q).0) w

-- Answers: 0 or a number of the table, with its line

pub check_numbered : (t : List ℕ) → TextAnswer (verdict t)
check_numbered = faults.check_numbered

-- 02, P5: "Number 5 isn't used again"
pub check_never_5 : (t : List ℕ) → (verdict t).number ≡ 5 → ⊥
check_never_5 = faults.check_never_5

-- the worked texts
pub cases : T (right table)
cases = worked.cases

-- Lines: the shape of bytes is the line that is written so

pub shaped : (w : List ℕ) → Shaped w
shaped = shapes.shaped

pub shape-written : (w : List ℕ) → (shape w ≡ wrong → ⊥) → (write_line (shape w) ≡ w) × Low (shape w)
shape-written w = (shaped w).written

pub shape_complete : {l : Line} → Low l → (l ≡ wrong → ⊥) → shape (write_line l) ≡ l
shape_complete {l} o n = (shaped (write_line l)).only l n o refl

pub no_shape : (w : List ℕ) → (shape w ≡ wrong → (l : Line) → (l ≡ wrong → ⊥) → Low l → write_line l ≡ w → ⊥)
    × (((l : Line) → (l ≡ wrong → ⊥) → Low l → write_line l ≡ w → ⊥) → shape w ≡ wrong)
no_shape w = ((shaped w).no_line, (shaped w).no_shape)

-- The lookup: "that very part of the caller's text"

pub lookup_part : (t : List ℕ) (k : ℕ) → FoundPart t k
lookup_part = found_part

-- Uniqueness: two results that meet a call's contract on the same inputs are equal

pub check_unique : (t : List ℕ) (r s : Verdict) → r ≡ verdict t → s ≡ verdict t → r ≡ s
check_unique t r s p q = p ∙ sym q

-- a result's number and line are those of no other result
pub shown_exactly : (r s : Result Unit Refusal) → shown r ≡ shown s → r ≡ s
shown_exactly = showing.shown-is

-- so the result itself is one too
pub check_exactly : (t : List ℕ) (r s : Result Unit Refusal) → shown r ≡ verdict t → shown s ≡ verdict t → r ≡ s
check_exactly t r s p q = shown_exactly r s (check_unique t (shown r) (shown s) p q)

pub lookup_unique : (text : Bor (List ℕ)) (k : ℕ) (r s : Bor (List ℕ)) → Looks text k r → Looks text k s → (r.now ≡ s.now) × (r.ref_ptr ≡ s.ref_ptr)
lookup_unique text k r s p q =
    (p.0 ∙ sym q.0, pairs (p.1.0 ∙ sym q.1.0) (p.1.1 ∙ sym q.1.1))
  where
    pairs : {x y : ℕ × ℕ} → x.0 ≡ y.0 → x.1 ≡ y.1 → x ≡ y
    pairs a b i = (a i, b i)
