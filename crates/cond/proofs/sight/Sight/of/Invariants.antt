use Rattle.std.proofs.Common.{◌≡◌}
use Rattle.cond.proofs.Words.Copy.{Copying}
use Rattle.cond.proofs.sight.Sight.of.Given as goal

abbrev pub invariant-loop-i : goal.invariant-loop-i
invariant-loop-i l = record {
  copying : Copying l.text l.sight.bytes l.i;
  view : l.sight.view ≡ l.initial.sight.view;
  declared : l.sight.declared ≡ l.initial.sight.declared;
}
