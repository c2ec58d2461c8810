use Rattle.text.proofs.Putting.{put_then, decimal_length}
use Prim.Native.Nat.{◌<◌}
use native.Mathlib.Omega.{arith}
use borrow.Author.Rules.{rules}
use Rattle.writer.proofs.put_number.Goals as goal

pub put_decimal-requires : goal.put_decimal-requires
put_decimal-requires c =
    let v : c.from.result < 4294967296 = search rules in
    let d = decimal_length 10 c.from.result (omega arith) (omega arith) in
    let p = c.requires.0 in
    let k = c.requires.1 in
    let a = c.put_bytes-a.ensures.next in
    omega arith

pub returns-clause-put : goal.returns-clause-put
returns-clause-put c = rw (← c.from.ensures) (put_then _ _ _ _ _ _ _ _ c.put_bytes-a.ensures c.put_decimal.ensures)

pub returns-clause-upper_bound : goal.returns-clause-upper_bound
returns-clause-upper_bound c =
    let v : c.from.result < 4294967296 = search rules in
    let d = decimal_length 10 c.from.result (omega arith) (omega arith) in
    let k = c.requires.1 in
    let a = c.put_bytes-a.ensures.next in
    let b = c.put_decimal.ensures.next in
    omega arith
