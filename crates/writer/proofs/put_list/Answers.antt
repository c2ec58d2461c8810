use Rattle.writer.proofs.Laws.{itemizing_on, itemizing_end}
use Rattle.writer.proofs.put_list.Goals as goal

pub loop-j-preserved : goal.loop-j-preserved
loop-j-preserved c = itemizing_on _ _ _ _ _ _ _ _ c.loop-j.invariant c.loop-j-test.true c.put_item-at.ensures

pub returns : goal.returns
returns c = itemizing_end _ _ _ _ _ _ c.loop-j.invariant c.loop-j-test.false
