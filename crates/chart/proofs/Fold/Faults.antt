-- Which answers a text may have.
use Prim.Native.Nat.{ℕ, zero, suc, ◌+◌, ◌≤◌}
use mathlib.Core.Bool.{Bool, true, false, cond}
use mathlib.Core.List.{List, ◌∷◌}
use mathlib.Core.Path.{◌≡◌, refl}
use native.Mathlib.Omega.{arith}
use lib.Dec.{ltb}
use lib.ListN.{length}
use Rattle.text.specs.Members.{is_among}
use Rattle.text.specs.Lines.{Lines, nothing, unended, line, split}
use Rattle.text.proofs.Members.{among_passes, among_not}
use Rattle.line.specs.Chart.{Chart}
use Rattle.std.proofs.Common.{Option, None}
use Rattle.line.specs.declared.Kind.{Kind}
use Rattle.line.specs.Kinds.{is_end}
use Rattle.line.specs.Write.{kind}
use Rattle.line.specs.Shape.{shape}
use Rattle.line.specs.Rules.{longest_text, blank, extended, fault}
use Rattle.line.proofs.Faults.{line_answers, fault-among}
use Rattle.chart.specs.Numbers.{text_numbers, TextAnswer}
use Rattle.chart.specs.Reading.{Read, accepted, refused, onward, read_from, read_chart, verdict_of, verdict}

-- a number with a line
abbrev Row : ℕ → ℕ → Type 0
Row a n = TextAnswer (record { number = a; line = n })

no_fault : Row 0 0
unfolding is_among
no_fault = record { number = refl; whole = λ h. refl; line = λ h. absurd (omega arith) }

too_long : Row 1 0
unfolding is_among
too_long = record { number = refl; whole = λ h. refl; line = λ h. absurd (omega arith) }

only_1 : (a : ℕ) → (a ≡ 0 → ⊥) → a ≤ 1 → a ≡ 1
only_1 zero z h = absurd (z refl)
only_1 (suc a) z h = omega arith

-- a fault of the n-th line: its number is none of a whole text's
at-line : (a n : ℕ) → 1 ≤ n → is_among a line_answers ≡ true → (a ≡ 0 → ⊥) → Row a n
unfolding is_among
at-line a n l m z =
    record {
      number = among_passes (λ k. is_among k (0 ∷ text_numbers)) line_answers a refl m;
      whole = λ h. absurd (among_not line_answers a 1 refl m (only_1 a z h));
      line = λ h. l;
    }

misplaced : (n : ℕ) → 1 ≤ n → Row 2 n
unfolding is_among
misplaced n l = at-line 2 n l refl (λ e. omega arith)

-- a refusal has a number of the table, which is not 0
record Fair (r : Read) : Type 0 where
  answer : TextAnswer (verdict_of r)
  refusal : (a n : ℕ) → r ≡ refused a n → a ≡ 0 → ⊥

fair_accepted : (c : Chart) → Fair (accepted c)
fair_accepted c = record { answer = no_fault; refusal = λ a n e z. let y : ◌≡◌ {A = ℕ} 0 1 = cc in omega arith }

fair_refused : (a n : ℕ) → Row a n → (a ≡ 0 → ⊥) → Fair (refused a n)
fair_refused a n r f = record { answer = r; refusal = λ b m e z. let y : a ≡ b = cc in f (omega arith) }

fair_misplaced : (n : ℕ) → 1 ≤ n → Fair (refused 2 n)
fair_misplaced n l = fair_refused 2 n (misplaced n l) (λ e. omega arith)

fair_onward : (a n : ℕ) (r : Read) → 1 ≤ n → is_among a line_answers ≡ true → Fair r → Fair (onward a n r)
unfolding onward
fair_onward zero n r l m f = f
fair_onward (suc a) n r l m f = fair_refused (suc a) n (at-line (suc a) n l m (λ e. omega arith)) (λ e. omega arith)

fair_either : (t : Bool) (a b : Read) → Fair a → Fair b → Fair (cond t a b)
fair_either true a b p q = p
fair_either false a b p q = q

fair_lines : (n : ℕ) → 1 ≤ n → (k : Option Kind) (c : Chart) (x : Lines) → Fair (read_from n k c x)
unfolding read_from
fair_lines n l k c nothing = fair_either (is_end k) (accepted c) (refused 2 n) (fair_accepted c) (fair_misplaced n l)
fair_lines n l k c unended = fair_misplaced n l
fair_lines n l k c (line w x) =
    let f = fair_lines (n + 1) (omega arith) (kind (shape w)) (extended c (shape w)) x in
    fair_onward (fault k c (shape w)) n _ l (fault-among k c (shape w)) f

fair : (t : List ℕ) → Fair (read_chart t)
unfolding read_chart
fair t =
    fair_either (ltb longest_text (length t)) (refused 1 0) _ (fair_refused 1 0 too_long (λ e. omega arith)) (fair_lines 1 (omega arith) None blank (split t))

-- a text with answer 0 is accepted
pub record Charted (t : List ℕ) : Type 0 where
  pub chart : Chart
  pub is : read_chart t ≡ accepted chart

pub number_read : (t : List ℕ) → (verdict t).number ≡ 0 → Charted t
unfolding verdict
number_read t = go (read_chart t) refl
  where
    go : (r : Read) → read_chart t ≡ r → (verdict_of r).number ≡ 0 → Charted t
    go (accepted c) e h = record { chart = c; is = e }
    go (refused a n) e h = absurd ((fair t).refusal a n e h)

-- the answer to a text is 0 or a number of the table, with its line
pub check_numbered : (t : List ℕ) → TextAnswer (verdict t)
unfolding verdict
check_numbered t = (fair t).answer

-- 02, P5: "Number 5 isn't used again"
pub check_never_5 : (t : List ℕ) → (verdict t).number ≡ 5 → ⊥
unfolding is_among
check_never_5 t = among_not (0 ∷ text_numbers) (verdict t).number 5 refl (check_numbered t).number
