use Rattle.std.proofs.Common.{take, sym, ◌∙◌, arith}
use Rattle.naming.proofs.Laws.{number_hit, number_miss, number_end, table-listed}
use Rattle.naming.proofs.number_of.Goals as goal

pub returns-then-same_word-clause-value : goal.returns-then-same_word-clause-value
returns-then-same_word-clause-value c =
    let e = table-listed c.args.text.now c.args.n c.args.t c.counted.result c.counted.ensures.value in
    let v = c.loop-i.invariant in
    let z = number_hit c.args.text.now c.args.t (take c.counted.result c.args.n.words) c.loop-i.i _ c.loop-i-test.true (sym c.same_word.ensures ∙ c.if-same_word.true) in
    omega arith

pub loop-i-preserved : goal.loop-i-preserved
loop-i-preserved c =
    let v = c.loop-i.invariant in
    let z = number_miss c.args.text.now c.args.t (take c.counted.result c.args.n.words) c.loop-i.i _ c.loop-i-test.true (sym c.same_word.ensures ∙ c.if-same_word.false) in
    omega arith

pub returns-clause-value : goal.returns-clause-value
returns-clause-value c =
    let e = table-listed c.args.text.now c.args.n c.args.t c.counted.result c.counted.ensures.value in
    let v = c.loop-i.invariant in
    let z = number_end c.args.text.now c.args.t (take c.counted.result c.args.n.words) c.loop-i.i c.args.t c.loop-i-test.false in
    omega arith
