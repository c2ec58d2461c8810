use Rattle.std.proofs.Common.{rules, arith}
use lib.ListN.{length-take}
use Rattle.pipe.proofs.Feeding.{feeding_start, feeding_on, feeding_end}
use Rattle.pipe.proofs.feed_page.Goals as goal

pub loop-b-init : goal.loop-b-init
loop-b-init g c = record { fed = feeding_start _ _ _ c.args.input.now _; room = search rules }

pub slice_bounds-said-end : goal.slice_bounds-said-end
slice_bounds-said-end g c = let r = c.loop-b.invariant.room in let f = c.feed-written.ensures.says.fits in omega arith

pub slice_bounds-gather-end : goal.slice_bounds-gather-end
slice_bounds-gather-end g c =
    let r = c.loop-b.invariant.room in
    let f = c.feed-written.ensures.says.fits in
    let l = length-take c.feed-written.result c.feed-written.new.out in
    omega arith

pub loop-b-preserved : goal.loop-b-preserved
loop-b-preserved g c =
    record {
      fed = feeding_on _ _ _ _ _ _ _ _ _ c.loop-b.invariant.fed c.loop-b-test.true _ _ _ _ c.feed-written.ensures c.gather.ensures;
      room = search rules;
    }

pub returns : goal.returns
returns g c = feeding_end _ _ _ _ _ _ _ _ c.loop-b-test.false c.loop-b.invariant.fed
