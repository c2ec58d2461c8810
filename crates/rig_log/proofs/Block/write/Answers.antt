use Rattle.rig_log.proofs.Lines.Blocks.{block-fits}
use Rattle.rig_log.specs.Forms.{block}
use Rattle.text.specs.Writing.{Put}
use Rattle.text.proofs.Putting.{put_then}
use lib.ListN.{length}
use mathlib.Core.Path.{◌≡◌}
use native.Mathlib.Omega.{arith}
use borrow.Author.Rules.{rules}
use Rattle.rig_log.proofs.Block.write.Goals as goal

pub returns : goal.returns
returns c =
    let o = c.args.out.now in
    let w : length o ≡ 64 = search rules in
    let q₃ = put_then _ _ _ _ _ _ _ _ c.put_line-c.ensures.put c.put_line.ensures.put in
    let q₂ = put_then _ _ _ _ _ _ _ _ c.put_line-b.ensures.put q₃ in
    let p : Put 0 (block c.from.result c.from-2.result c.from-3.result c.from-4.result) o c.put_line.new.room c.put_line.result =
    unfold block in put_then _ _ _ _ _ _ _ _ c.put_line-a.ensures.put q₂ in
    let l = block-fits c.from.result c.from-2.result c.from-3.result c.from-4.result (omega arith) (omega arith) (omega arith) (omega arith) in
    let e = p.next in
    rw (← c.from.ensures, ← c.from-2.ensures, ← c.from-3.ensures, ← c.from-4.ensures) (record { put = p; fits = omega arith })
