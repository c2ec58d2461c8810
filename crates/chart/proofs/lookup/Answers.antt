use mathlib.Core.Path.{◌≡◌}
use Prim.Native.Nat.{◌+◌, ◌-◌}
use native.Mathlib.Omega.{arith}
use Rattle.chart.proofs.Rows.Lookup.{found_within, found_is}
use Rattle.chart.proofs.lookup.Goals as goal

pub slice_bounds-result-end : goal.slice_bounds-result-end
slice_bounds-result-end c = let w = found_within c.args.text.now c.args.k in let e = c.locate-part.ensures in omega arith

pub returns-clause-part : goal.returns-clause-part
returns-clause-part c =
    let e = c.locate-part.ensures in
    let n : c.locate-part.result.start + c.locate-part.result.length - c.locate-part.result.start ≡ c.locate-part.result.length = omega arith in
    rw (n, e.0, e.1) (found_is c.args.text.now c.args.k)
