use Rattle.text.proofs.Putting.{put_then}
use Rattle.line.specs.Write.{write_line}
use mathlib.Core.List.{append_assoc}
use Rattle.writer.proofs.write_latch.Goals as goal

pub returns-then-switches_on-clause-put : goal.returns-then-switches_on-clause-put
unfolding write_line
returns-then-switches_on-clause-put c =
    let w = put_then _ _ _ _ _ _ _ _ c.put_number-a.ensures.put (put_then _ _ _ _ _ _ _ _ c.put_number-b.ensures.put c.put_bytes.ensures) in
    simp append_assoc (rw (← c.switches_on.ensures, c.if-switches_on.true) (simp append_assoc at w))

pub returns-else-switches_on-clause-put : goal.returns-else-switches_on-clause-put
unfolding write_line
returns-else-switches_on-clause-put c =
    let w = put_then _ _ _ _ _ _ _ _ c.put_number-a.ensures.put (put_then _ _ _ _ _ _ _ _ c.put_number-b.ensures.put c.put_bytes-else-switches_on.ensures) in
    simp append_assoc (rw (← c.switches_on.ensures, c.if-switches_on.false) (simp append_assoc at w))
