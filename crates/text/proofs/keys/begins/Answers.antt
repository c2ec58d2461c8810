use mathlib.Core.Path.{◌∙◌, refl, sym}
use native.Mathlib.Omega.{arith}
use Rattle.text.proofs.Beginning.{begins-all, begins-next, begins-other, begins_longer}
use Rattle.text.proofs.keys.begins.Goals as goal

pub returns-then-w-key : goal.returns-then-w-key
returns-then-w-key c = sym (begins_longer c.args.key.now c.args.w.now c.if-w-key.true)

pub loop-i-init : goal.loop-i-init
loop-i-init c = (c.if-w-key.false, refl)

pub returns-then-w-i : goal.returns-then-w-i
returns-then-w-i c = sym (c.loop-i.invariant.1 ∙ begins-other c.args.key.now c.args.w.now _ c.loop-i-test.true (omega arith) c.if-w-i.true)

pub loop-i-preserved : goal.loop-i-preserved
loop-i-preserved c = (c.loop-i.invariant.0, c.loop-i.invariant.1 ∙ begins-next c.args.key.now c.args.w.now _ c.loop-i-test.true (omega arith) c.if-w-i.false)

pub returns : goal.returns
returns c = sym (c.loop-i.invariant.1 ∙ begins-all c.args.key.now c.args.w.now _ c.loop-i-test.false)
