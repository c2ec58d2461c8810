use Rattle.text.proofs.Putting.{decimal_length}
use Rattle.text.specs.Decimal.{decimal}
use Rattle.outline.proofs.Laws.{input_spelt}
use Prim.Native.Nat.{◌≤◌}
use lib.ListN.{length, length-take}
use native.Mathlib.Omega.{arith}
use Rattle.outline.proofs.Reading.add_input.Goals as goal

pub put_decimal-end-requires : goal.put_decimal-end-requires
put_decimal-end-requires c = rw c.from.ensures (let h : length (decimal c.args.j) ≤ 2 = decimal_length 2 c.args.j (omega arith) c.requires in omega arith)

pub slice_bounds-bytes-end : goal.slice_bounds-bytes-end
slice_bounds-bytes-end c =
    let s = input_spelt _ _ c.from.ensures c.requires _ _ c.put_decimal-end.ensures in
    let l = s.low in
    let w = s.wide in
    omega arith

pub slice_bounds-add_to_condition-end : goal.slice_bounds-add_to_condition-end
slice_bounds-add_to_condition-end c =
    let s = input_spelt _ _ c.from.ensures c.requires _ _ c.put_decimal-end.ensures in
    let l = s.low in
    let w = s.wide in
    let t = length-take c.put_decimal-end.result c.put_decimal-end.new.room in
    omega arith

pub returns : goal.returns
returns c = let s = input_spelt _ _ c.from.ensures c.requires _ _ c.put_decimal-end.ensures in rw (← s.is) c.add_to_condition.ensures
