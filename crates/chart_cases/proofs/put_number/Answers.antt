use Rattle.std.proofs.Common.{arith}
use Rattle.text.proofs.Putting.{twenty_digits}
use Rattle.chart_cases.proofs.put_number.Goals as goal

pub put_decimal-k-requires : goal.put_decimal-k-requires
put_decimal-k-requires c = let d = twenty_digits c.args.n (omega arith) in omega arith
