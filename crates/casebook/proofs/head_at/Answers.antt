use Rattle.std.proofs.Common.{◌+◌, ◌<◌, ◌^◌, length, sym, ◌∙◌, arith}
use Rattle.casebook.proofs.Words.{word-within}
use Rattle.casebook.proofs.head_at.Goals as goal

pub returns : goal.returns
returns c h =
    let l : length c.args.s.now < 2 ^ 63 = omega arith in
    let a = sym (c.number_after.ensures (omega arith)) ∙ c.in_ok-first.was in
    let i = word-within c.args.s.now (c.colon_from-name.result + 1) c.in_ok-first.first c.in_ok-first.middle a in
    let b = sym (c.number_after-2.ensures (omega arith)) ∙ c.in_ok-second.was in
    let j = word-within c.args.s.now (c.in_ok-first.middle + 1) c.in_ok-second.second c.in_ok-second.last b in
    record { middle = c.in_ok-first.middle; last = c.in_ok-second.last; first = a; second = b; ends = c.sum.ensures (omega arith) }
