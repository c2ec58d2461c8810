use Rattle.text.proofs.Putting.{putting_on}
use Rattle.text.proofs.writing.put_bytes.Goals as goal

pub loop-b-preserved : goal.loop-b-preserved
loop-b-preserved c = putting_on _ _ _ _ _ _ c.loop-b.invariant _ _ c.loop-b-test.true c.put_byte-end.ensures
