use Rattle.text.proofs.Putting.{put_then}
use Rattle.line.specs.Write.{write_line}
use mathlib.Core.List.{append_assoc}
use Rattle.writer.proofs.write_hold.Goals as goal

pub returns-clause-put : goal.returns-clause-put
unfolding write_line
returns-clause-put c =
    let w = put_then _ _ _ _ _ _ _ _ c.put_number-a.ensures.put (put_then _ _ _ _ _ _ _ _ c.put_number-b.ensures.put c.put_bytes.ensures) in
    simp append_assoc (simp append_assoc at w)
