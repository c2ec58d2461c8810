use Rattle.text.proofs.Putting.{put_then}
use Rattle.text.specs.Writing.{keyed}
use Rattle.line.specs.Write.{write_line, write_lines}
use Rattle.writer.specs.Writing.{head_of}
use mathlib.Core.List.{append_assoc}
use Rattle.writer.proofs.write_head.Goals as goal

pub returns-clause-put : goal.returns-clause-put
unfolding head_of write_line write_lines keyed
returns-clause-put c =
    let v = put_then _ _ _ _ _ _ _ _ c.put_count-d.ensures.put (put_then _ _ _ _ _ _ _ _ c.put_count-e.ensures.put c.put_line.ensures.put) in
    let w = put_then _ _ _ _ _ _ _ _ c.put_line-a.ensures.put (put_then _ _ _ _ _ _ _ _ c.put_count-b.ensures.put (put_then _ _ _ _ _ _ _ _ c.write_initial-c.ensures.put v)) in
    simp append_assoc (simp append_assoc at w)
