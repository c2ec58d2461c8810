use Rattle.rig_log.specs.Run.{partial, finished}
use Rattle.rig_log.proofs.Runs.Turns.{said-nothing, finished-begun, finished-none}
use lib.ListN.{length, length-take}
use mathlib.Core.Path.{◌≡◌}
use native.Mathlib.Omega.{arith}
use borrow.Author.Rules.{rules}
use Rattle.rig_log.proofs.Run.finish.Goals as goal

pub returns-in-Waiting : goal.returns-in-Waiting
unfolding finished
returns-in-Waiting c = rw c.in-Waiting.is c.write_bad.ensures

pub returns-then-begun : goal.returns-then-begun
returns-then-begun c =
    let l = c.args.self.now.line in
    let n : length l.bytes ≡ 32 = search rules in
    let m = length-take l.length l.bytes in
    rw (c.in-Running.is, finished-begun _ _ (partial l) (omega arith)) c.write_bad-then-begun.ensures

pub returns-else-begun : goal.returns-else-begun
returns-else-begun c =
    let l = c.args.self.now.line in
    let m = length-take l.length l.bytes in
    rw (c.in-Running.is, finished-none _ _ (partial l) (omega arith)) (said-nothing _)

pub returns-in-Over : goal.returns-in-Over
unfolding finished
returns-in-Over c = rw c.in-Over.is (said-nothing _)
