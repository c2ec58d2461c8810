use Rattle.text.proofs.Putting.{put_then}
use Rattle.writer.proofs.write_initial.Goals as goal

pub returns-clause-put : goal.returns-clause-put
returns-clause-put c = put_then _ _ _ _ _ _ _ _ c.put_bytes-a.ensures (put_then _ _ _ _ _ _ _ _ c.put_list-b.ensures.put c.put_byte.ensures)
