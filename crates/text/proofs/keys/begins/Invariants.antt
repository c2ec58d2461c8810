use mathlib.Core.Path.{◌≡◌}
use Prim.Native.Nat.{◌≤◌}
use lib.ListN.{drop, length}
use Rattle.text.specs.Keys.{begins}
use Rattle.text.proofs.keys.begins.Given as goal

abbrev pub invariant-loop-i : goal.invariant-loop-i
invariant-loop-i l = (length l.key ≤ length l.w) × (begins l.key l.w ≡ begins (drop l.i l.key) (drop l.i l.w))
