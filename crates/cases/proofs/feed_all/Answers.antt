use Rattle.rig_log.specs.Run.{fed_all}
use Rattle.rig_log.proofs.Runs.Chains.{fed_further, fed-whole}
use Rattle.cases.proofs.feed_all.Goals as goal

pub loop-b-init : goal.loop-b-init
unfolding fed_all
loop-b-init g c = c.new-run.ensures

pub loop-b-preserved : goal.loop-b-preserved
loop-b-preserved g c = fed_further _ _ _ _ c.loop-b-test.true c.loop-b.invariant c.feed.ensures

pub returns : goal.returns
returns g c = fed-whole _ _ _ _ c.loop-b-test.false c.loop-b.invariant
