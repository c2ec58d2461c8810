use mathlib.Core.Path.{◌≡◌, ◌∙◌}
use Prim.Native.Nat.{◌-◌}
use native.Mathlib.Omega.{arith}
use lib.ListN.{length}
use Rattle.host.proofs.Putting.{state-read}
use Rattle.host.proofs.words.state_in.Goals as goal

pub returns : goal.returns
returns c =
    let n : length c.args.words.now - 3 ≡ 30 = omega arith in
    state-read _ _ (c.copy_from_slice.ensures.after ∙ rw n)
