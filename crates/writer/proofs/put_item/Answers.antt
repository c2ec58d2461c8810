use Rattle.text.proofs.Putting.{decimal_length}
use Rattle.writer.proofs.Laws.{item_first, item_more}
use mathlib.Core.Path.{sym, ◌∙◌}
use native.Mathlib.Omega.{arith}
use Rattle.writer.proofs.put_item.Goals as goal

pub put_decimal-requires : goal.put_decimal-requires
put_decimal-requires c = rw c.from.ensures (let p = c.requires.0 in let d = decimal_length 2 c.args.j (omega arith) (omega arith) in omega arith)

pub returns-then-at-from : goal.returns-then-at-from
returns-then-at-from c = item_first _ _ _ _ _ _ _ (sym c.has_item.ensures ∙ c.if-not-has_item.false) c.if-at-from.true c.requires.1 (rw c.from.ensures at c.put_decimal.ensures)

pub put_decimal-requires-2 : goal.put_decimal-requires-2
put_decimal-requires-2 c = rw c.from-2.ensures (let p = c.requires.0 in let n = c.put_byte-e.ensures.next in let d = decimal_length 2 c.args.j (omega arith) (omega arith) in omega arith)

pub returns : goal.returns
returns c = item_more _ _ _ _ _ _ _ (sym c.has_item.ensures ∙ c.if-not-has_item.false) c.if-at-from.false c.requires.1 _ _ c.put_byte-e.ensures (rw c.from-2.ensures at c.put_decimal-2.ensures)
