use Rattle.engine.proofs.Accepts.Accepting.{age_passed, age_failed, ages-ended}
use native.Mathlib.Omega.{arith}
use mathlib.Core.Path.{refl}
use Rattle.engine.proofs.accept.ages_accepted.Goals as goal

pub loop-j-init : goal.loop-j-init
loop-j-init c = refl

pub returns-then-not-age_accepted : goal.returns-then-not-age_accepted
returns-then-not-age_accepted c = age_failed _ _ _ c.loop-j.invariant _ (omega arith) c.age_accepted.ensures c.if-not-age_accepted.true

pub loop-j-preserved : goal.loop-j-preserved
loop-j-preserved c = age_passed _ _ _ c.loop-j.invariant _ (omega arith) c.age_accepted.ensures c.if-not-age_accepted.false

pub returns : goal.returns
returns c = ages-ended _ _ _ c.loop-j.invariant (omega arith)
