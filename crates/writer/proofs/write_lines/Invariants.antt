use Rattle.writer.proofs.Lines.{Writing}
use Prim.Native.Nat.{◌-◌}
use lib.ListN.{length}
use Rattle.writer.proofs.write_lines.Given as goal

abbrev pub invariant-loop-kind : goal.invariant-loop-kind
invariant-loop-kind l = Writing l.text l.kind l.initial.w l.w l.initial.room l.room l.reading l.t

abbrev pub decreases-loop-kind : goal.decreases-loop-kind
decreases-loop-kind l = length l.text - l.t.place
