use Rattle.std.proofs.Common.{arith, sym, ◌∙◌, ◌≡◌, ◌-◌, drop, take, length}
use lib.ListN.{length-drop}
use lib.Seq.{take_all}
use Rattle.text.proofs.Places.Ends.{none_eight, first_from}
use Rattle.text.proofs.lines.line_end.Goals as goal

pub loop-at-preserved : goal.loop-at-preserved
loop-at-preserved c = (omega arith, (omega arith, none_eight _ _ _ 8 c.loop-at.invariant.1.1 (omega arith) (sym c.none_ends.ensures ∙ c.if-none_ends.true)))

pub returns : goal.returns
returns c =
    let s = c.args.text.now in
    let i = c.loop-at.at in
    let l = length-drop i s in
    let w : take (length s - i) (drop i s) ≡ drop i s = take_all (length s - i) (drop i s) (omega arith) in
    rw (c.unwrap_or.ensures, w) (first_from s c.args.from i c.first_end.result (omega arith) (omega arith) c.loop-at.invariant.1.1 (rw w at c.first_end.ensures))
