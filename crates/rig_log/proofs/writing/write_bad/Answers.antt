use lib.ListN.{length}
use mathlib.Core.Path.{◌≡◌}
use native.Mathlib.Omega.{arith}
use borrow.Author.Rules.{rules}
use Rattle.rig_log.proofs.writing.write_bad.Goals as goal

pub returns : goal.returns
returns c =
    let w : length c.args.out.now ≡ 64 = search rules in
    let e = c.put_line.ensures.upper_bound in
    record { put = c.put_line.ensures.put; fits = omega arith }
