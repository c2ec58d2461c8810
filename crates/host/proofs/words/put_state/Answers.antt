use mathlib.Core.List.{append-nil}
use mathlib.Core.Path.{◌≡◌}
use Prim.Native.Nat.{suc, ◌-◌}
use native.Mathlib.Omega.{arith}
use lib.ListN.{length, drop, drop_of_length-le}
use Rattle.host.specs.State.{words_of}
use Rattle.host.proofs.Putting.{put_three}
use Rattle.host.proofs.words.put_state.Goals as goal

pub returns : goal.returns
unfolding words_of
returns c =
    let t = drop 3 c.args.words.now in
    let n : suc (suc (suc (length t))) - 3 ≡ length t = omega arith in
    rw (put_three c.args.words.now _ _ _ (omega arith), c.copy_from_slice.ensures.after, n, drop_of_length-le t {i = length t} (omega arith), append-nil)
