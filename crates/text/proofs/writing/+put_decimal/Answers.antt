use Rattle.text.proofs.Putting.{decimal_tenth, tenth_length, put_then}
use Rattle.text.proofs.Decimal.{decimal-one}
use native.Mathlib.Omega.{arith}
use Rattle.text.proofs.writing.+put_decimal.Goals as goal

pub returns-then-v-lt10 : goal.returns-then-v-lt10
returns-then-v-lt10 t c = rw (decimal-one c.args.v c.if-v-lt10.true, ← c.digit.ensures) c.put_byte.ensures

pub put_decimal-e-requires : goal.put_decimal-e-requires
put_decimal-e-requires t c = let a = c.args in let l = tenth_length a.v (omega arith) in let p = c.requires in let m = c.decreases in (omega arith, omega arith)

pub put_byte-requires-2 : goal.put_byte-requires-2
put_byte-requires-2 t c = let a = c.args in let l = tenth_length a.v (omega arith) in let p = c.requires in let n = c.put_decimal-e.ensures.next in omega arith

pub returns : goal.returns
returns t c = rw (decimal_tenth c.args.v (omega arith), ← c.digit-2.ensures) (put_then _ _ _ _ _ _ _ _ c.put_decimal-e.ensures c.put_byte-2.ensures)
