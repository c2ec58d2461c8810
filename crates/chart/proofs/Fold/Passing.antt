-- The lines of a chart pass exactly if the chart keeps 01's rules, and they make that chart.
use mathlib.Core.Bool.{true}
use mathlib.Core.List.{List, [], ◌∷◌}
use mathlib.Core.Path.{◌≡◌, refl, ◌∙◌}
use native.Mathlib.Omega.{arith}
use Prim.Native.Nat.{◌≤◌}
use lib.ListN.{length}
use Rattle.line.specs.Chart.{Chart}
use Rattle.std.proofs.Common.{Option, Some, None}
use Rattle.line.specs.declared.Kind.{Kind}
use Rattle.line.specs.declared.Kind.TheVariants.{Initial as initial_kind, Move as move_kind, Hold as hold_kind, Latch as latch_kind, End as end_kind}
use Rattle.line.specs.Kinds.{HeadNumber, version, steps, inputs, outputs, limit, number_kind, follows}
use Rattle.line.specs.Write.{Line, number', initial', move', hold', latch', end', lines, total, head_lines, lines_of, write}
use Rattle.line.specs.Rules.{longest_text, blank, number_of, with_number, with_lines, extended}
use Rattle.chart.specs.WellFormed.{InBounds, WellFormed}
use Rattle.chart.proofs.Lines.Ruled.{number-rules, number_ruled, initial-rules, initial_ruled, end_ruled}
use Rattle.chart.proofs.Fold.Whole.{Passes, done, final}
use Rattle.chart.proofs.Fold.Sections.{peel, push, last, last-follows, section_out, section_in, section_final, move_section, hold_section, latch_section}

module _ (c : Chart) where
  -- the chart after its head
  abbrev headed : Chart
  headed = with_lines c [] [] []

  abbrev end_lines : List Line
  end_lines = end' (total c) ∷ []

  abbrev latch_lines : List Line
  latch_lines = lines latch' c.body.latches end_lines

  abbrev hold_lines : List Line
  hold_lines = lines hold' c.body.holds latch_lines

  abbrev move_lines : List Line
  move_lines = lines move' c.body.moves hold_lines

  -- Well formed: they pass

  head_in : WellFormed c → (r : List Line) → Passes (Some (number_kind limit)) headed r → Passes None blank (head_lines c.head r)
  unfolding extended with_number
  head_in f r p =
      push None blank (number' version c.head.version) _ refl (number_ruled _ version _ (f.numbers version))
      (push (Some (number_kind version)) _ (number' steps c.head.steps) _ refl (number_ruled _ steps _ (f.numbers steps))
      (push (Some (number_kind steps)) _ (initial' c.head.initial) _ refl (initial_ruled _ c.head.initial f.starts f.initial)
      (push (Some initial_kind) _ (number' inputs c.head.inputs) _ refl (number_ruled _ inputs _ (f.numbers inputs))
      (push (Some (number_kind inputs)) _ (number' outputs c.head.outputs) _ refl (number_ruled _ outputs _ (f.numbers outputs))
      (push (Some (number_kind outputs)) _ (number' limit c.head.limit) _ refl (number_ruled _ limit _ (f.numbers limit)) p)))))

  end_in : (k : Option Kind) → follows k (Some end_kind) ≡ true → Passes k c end_lines
  unfolding extended
  end_in k e = push k c (end' (total c)) [] e (end_ruled c (total c) refl) (done (Some end_kind) c refl)

  -- the kinds of the last lines after the moves, the holds and the latches

  abbrev after_moves : Option Kind
  after_moves = last (Some (number_kind limit)) (Some move_kind) c.body.moves

  abbrev after_holds : Option Kind
  after_holds = last after_moves (Some hold_kind) c.body.holds

  abbrev after_latches : Option Kind
  after_latches = last after_holds (Some latch_kind) c.body.latches

  -- a kind that may follow each of them
  in_turn : (n : Option Kind) → follows (Some (number_kind limit)) n ≡ true → follows (Some move_kind) n ≡ true → follows (Some hold_kind) n ≡ true → follows after_holds n ≡ true
  in_turn n a b d = last-follows after_moves (Some hold_kind) n c.body.holds (last-follows (Some (number_kind limit)) (Some move_kind) n c.body.moves a b) d

  latches_in : WellFormed c → Passes after_holds (with_lines c c.body.moves c.body.holds []) latch_lines
  latches_in f =
      let e = last-follows after_holds (Some latch_kind) (Some end_kind) c.body.latches (in_turn (Some end_kind) refl refl refl) refl in
      section_in (latch_section c) c.body.latches after_holds [] end_lines (in_turn (Some latch_kind) refl refl refl)
      (record { few = f.few_latches; every = f.latches; passes = end_in after_latches e })

  holds_in : WellFormed c → Passes after_moves (with_lines c c.body.moves [] []) hold_lines
  holds_in f =
      section_in (hold_section c) c.body.holds after_moves [] latch_lines (last-follows (Some (number_kind limit)) (Some move_kind) (Some hold_kind) c.body.moves refl refl)
      (record { few = f.few_holds; every = f.holds; passes = latches_in f })

  pub passing : WellFormed c → Passes None blank (lines_of c)
  unfolding lines_of
  passing f =
      head_in f move_lines (section_in (move_section c) c.body.moves (Some (number_kind limit)) [] hold_lines refl
      (record { few = f.few_moves; every = f.moves; passes = holds_in f }))

  -- They pass: well formed

  pub well_formed : length (write c) ≤ longest_text → Passes None blank (lines_of c) → WellFormed c
  unfolding lines_of extended with_number
  well_formed short p =
      let p1 = peel p in
      let p2 = peel p1.1 in
      let p3 = peel p2.1 in
      let p4 = peel p3.1 in
      let p5 = peel p4.1 in
      let p6 = peel p5.1 in
      let i = initial-rules _ c.head.initial p3.0 in
      let m = section_out (move_section c) c.body.moves (Some (number_kind limit)) [] hold_lines (omega arith) p6.1 in
      let h = section_out (hold_section c) c.body.holds after_moves [] latch_lines (omega arith) m.passes in
      let x = section_out (latch_section c) c.body.latches after_holds [] end_lines (omega arith) h.passes in
      record {
        numbers = numbers (number-rules _ version _ p1.0) (number-rules _ steps _ p2.0) (number-rules _ inputs _ p4.0) (number-rules _ outputs _ p5.0) (number-rules _ limit _ p6.0);
        starts = i.0;
        initial = i.1;
        few_moves = m.few;
        moves = m.every;
        few_holds = h.few;
        holds = h.every;
        few_latches = x.few;
        latches = x.every;
        short = short;
      }
    where
      numbers : InBounds version c.head.version → InBounds steps c.head.steps → InBounds inputs c.head.inputs → InBounds outputs c.head.outputs
          → InBounds limit c.head.limit → (q : HeadNumber) → InBounds q (number_of q c.head)
      numbers a b d e f version = a
      numbers a b d e f steps = b
      numbers a b d e f inputs = d
      numbers a b d e f outputs = e
      numbers a b d e f limit = f

  -- The chart that they make

  pub final-chart : final blank (lines_of c) ≡ c
  unfolding final lines_of extended with_number
  final-chart =
      section_final (move_section c) c.body.moves [] hold_lines ∙ section_final (hold_section c) c.body.holds [] latch_lines
      ∙ section_final (latch_section c) c.body.latches [] end_lines
