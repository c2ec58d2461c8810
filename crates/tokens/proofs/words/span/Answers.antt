use Rattle.std.proofs.Common.{sym, ◌∙◌, arith}
use Rattle.tokens.proofs.Laws.{span-on, span_stop, span_end}
use Rattle.tokens.proofs.words.span.Goals as goal

pub returns-then-not-goes_on : goal.returns-then-not-goes_on
returns-then-not-goes_on c = let z = span_stop c.args.text.now c.loop-i.i c.loop-i-test.true (sym c.goes_on.ensures ∙ c.if-not-goes_on.true) in omega arith

pub loop-i-preserved : goal.loop-i-preserved
loop-i-preserved c = let z = span-on c.args.text.now c.loop-i.i c.loop-i-test.true (sym c.goes_on.ensures ∙ c.if-not-goes_on.false) in omega arith

pub returns : goal.returns
returns c = let z = span_end c.args.text.now c.loop-i.i c.loop-i-test.false in omega arith
