use mathlib.Core.Path.{◌≡◌}
use Prim.Native.Nat.{◌*◌, ◌+◌, ◌-◌, suc}
use native.Mathlib.Omega.{arith}
use Rattle.line.specs.Words.{moves_from}
use Rattle.chart.proofs.Rows.Areas.{stored_move, stored_hold, stored_latch}
use Rattle.chart.proofs.pass.store.Goals as goal

pub returns-in-Move : goal.returns-in-Move
returns-in-Move c =
    let room = rw c.in-Move.is at c.requires.room in
    let i = moves_from + 3 * (c.args.known.now.moves - 1) in
    let e : i + 1 ≡ suc i = omega arith in
    let f : i + 2 ≡ suc (suc i) = omega arith in
    rw (c.in-Move.is, e, f) (stored_move c.args.known.now c.args.table.now _ _ _ room)

pub returns-in-Hold : goal.returns-in-Hold
returns-in-Hold c = rw c.in-Hold.is (stored_hold c.args.known.now c.args.table.now _ (rw c.in-Hold.is at c.requires.room))

pub returns-in-Latch : goal.returns-in-Latch
returns-in-Latch c = rw c.in-Latch.is (stored_latch c.args.known.now c.args.table.now _ (rw c.in-Latch.is at c.requires.room))
