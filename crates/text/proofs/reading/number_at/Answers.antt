use Rattle.std.proofs.Common.{arith, sym, ◌∙◌}
use Rattle.text.proofs.Decimal.{decimal_sound}
use Rattle.text.proofs.reading.number_at.Goals as goal

pub overflow_cast-result : goal.overflow_cast-result
overflow_cast-result c = let l = (decimal_sound 7 c.args.s.now c.args.at _ _ (omega arith) (sym c.numeral_at.ensures ∙ c.in_ok-value.was)).below in omega arith
