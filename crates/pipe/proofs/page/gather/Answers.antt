use Rattle.std.proofs.Common.{refl, sym, ◌∙◌}
use lib.Seq.{take_all}
use Rattle.pipe.specs.Page.{gathered}
use Rattle.pipe.proofs.Pages.{gathered-one}
use Rattle.pipe.proofs.page.gather.Goals as goal

pub loop-b-init : goal.loop-b-init
unfolding gathered
loop-b-init g c = refl

pub loop-b-preserved : goal.loop-b-preserved
loop-b-preserved g c = c.put.ensures ∙ rw c.loop-b.invariant (sym (gathered-one 4096 _ c.args.s.now _ c.loop-b-test.true))

pub returns : goal.returns
returns g c = rw (take_all _ _ c.loop-b-test.false) at c.loop-b.invariant
