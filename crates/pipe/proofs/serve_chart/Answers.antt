use Rattle.std.proofs.Common.{sym}
use Rattle.pipe.proofs.Feeding.{leads_start, leads_to, leads_on}
use Rattle.pipe.proofs.serve_chart.Goals as goal

pub loop-init : goal.loop-init
loop-init g c = leads_to _ (leads_start _ _) (sym c.new-run.ensures)

pub loop-preserved : goal.loop-preserved
loop-preserved g c = leads_on _ c.loop.invariant c.turn.ensures

pub returns-then-matches : goal.returns-then-matches
returns-then-matches g c = leads_on _ c.loop.invariant c.turn.ensures
