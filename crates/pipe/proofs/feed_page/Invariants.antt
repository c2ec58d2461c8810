use Rattle.std.proofs.Common.{◌≡◌, length, take}
use Rattle.rig_log.specs.Run.{progress_of}
use Rattle.pipe.specs.Loop.{FedPage}
use Rattle.pipe.proofs.feed_page.Given as goal

abbrev pub invariant-loop-b : goal.invariant-loop-b
invariant-loop-b g l = record {
  fed : FedPage l.chart 4096 (progress_of l.fn.run) (take l.b-index l.input) l.fn.page.items l.run l.page.items;
  room : length l.said ≡ 64;
}
