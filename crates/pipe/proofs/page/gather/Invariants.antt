use Rattle.std.proofs.Common.{◌≡◌, take}
use Rattle.pipe.specs.Page.{gathered}
use Rattle.pipe.proofs.page.gather.Given as goal

abbrev pub invariant-loop-b : goal.invariant-loop-b
invariant-loop-b g l = l.page.items ≡ gathered 4096 l.fn.page.items (take l.b-index l.s)
