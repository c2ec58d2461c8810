use Rattle.sfc.proofs.Answers.{place_at, place_past}
use Rattle.naming.specs.Names.{list_of}
use Rattle.tokens.specs.declared.Token.{Token}
use lib.ListN.{length-take}
use lib.Seq.{get_or-take}
use mathlib.Core.Path.{sym, ap, ◌∙◌}
use native.Mathlib.Omega.{arith}
use Rattle.sfc.proofs.place_in.Goals as goal

pub returns-then-i-counted : goal.returns-then-i-counted
returns-then-i-counted c =
    let e = c.counted.ensures.value in
    let h = c.if-i-counted.true in
    let l = length-take c.args.n.count c.args.n.words in
    sym (place_at (list_of c.args.n) _ _ (omega arith) ∙ ap (λ (t : Token). record { start = t.place; length = t.size }) (get_or-take c.args.n.count c.args.n.words _ _ (omega arith)))

pub returns : goal.returns
returns c = let e = c.counted.ensures.value in let h = c.if-i-counted.false in sym (place_past (list_of c.args.n) _ (omega arith))
