-- A rearrangement of a chart: its plan differs from the chart's only in the order of lines.
use mathlib.Core.List.Permᴰ
use mathlib.Core.Path.{◌≡◌, sym, ap}
use Rattle.text.specs.Words.{word_of}
use Rattle.line.specs.Chart.{Head, Chart}
use Rattle.chart.specs.Reordered.{Rearranged}
use Rattle.evolve.specs.Net.{move_of, hold_of, net_of}
use Rattle.engine.specs.Plan.{plan_of}
use Rattle.engine.specs.Laws.{ShuffledPlan}

-- the head is the same, and what lines mean is reordered as they are
pub shuffled : (c d : Chart) → Rearranged c d → ShuffledPlan (plan_of c) (plan_of d)
unfolding plan_of net_of
shuffled c d r =
    let h : c.head ≡ d.head = sym r.same_head in
    record {
      initial = ap (λ (x : Head). word_of x.initial) h;
      inputs = ap (λ (x : Head). x.inputs) h;
      outputs = ap (λ (x : Head). x.outputs) h;
      net =
          record {
            steps = ap (λ (x : Head). x.steps) h;
            limit = ap (λ (x : Head). x.limit) h;
            moves = Permᴰ.map move_of r.moves;
            latches = r.latches;
          };
      holds = Permᴰ.map hold_of r.holds;
    }
