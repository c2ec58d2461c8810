use Rattle.text.proofs.Putting.{put_then}
use Rattle.line.specs.Write.{write_line}
use mathlib.Core.List.{append_assoc}
use Rattle.writer.proofs.write_move.Goals as goal

pub returns-clause-put : goal.returns-clause-put
unfolding write_line
returns-clause-put c =
    simp append_assoc (put_then _ _ _ _ _ _ _ _ c.put_bytes-a.ensures (put_then _ _ _ _ _ _ _ _ c.put_list-b.ensures.put (put_then _ _ _ _ _ _ _ _ c.put_byte-c.ensures (put_then _ _ _ _ _ _ _ _ c.put_list-d.ensures.put (put_then _ _ _ _ _ _ _ _ c.put_byte-e.ensures (put_then _ _ _ _ _ _ _ _ c.put_condition-f.ensures.put c.put_byte.ensures))))))
