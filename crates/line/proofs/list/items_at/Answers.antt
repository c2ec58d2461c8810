use mathlib.Core.Path.{◌∙◌, sym}
use native.Mathlib.Omega.{arith}
use Rattle.line.specs.Write.{comma}
use Rattle.line.proofs.Lists.{went}
use Rattle.line.proofs.Parts.{inside}
use Rattle.line.proofs.Tallies.{listing-bad, listing_end, listing-next}
use Rattle.line.proofs.list.items_at.Goals as goal

pub returns-in_err-v : goal.returns-in_err-v
returns-in_err-v c = rw c.from_residual.ensures (listing-bad c.args.w.now c.args.n _ _ _ c.loop-v.invariant ((sym c.number_at.ensures ∙ c.in_err-v.was)))

pub add_item-t-requires : goal.add_item-t-requires
add_item-t-requires c = (went c.args.w.now _ _ _ ((sym c.number_at.ensures ∙ c.in_ok-v.was))).low

pub returns-then-byte_at-ne44 : goal.returns-then-byte_at-ne44
returns-then-byte_at-ne44 c =
    let a = c.args in
    let r = (sym c.number_at.ensures ∙ c.in_ok-v.was) in
    rw c.add_item-t.ensures (listing_end a.w.now a.n _ _ _ c.loop-v.invariant _ _ r (λ e. c.if-byte_at-ne44.true (c.byte_at.ensures ∙ e)))

pub loop-v-smaller : goal.loop-v-smaller
loop-v-smaller c =
    let z = (went c.args.w.now _ _ _ ((sym c.number_at.ensures ∙ c.in_ok-v.was))).past in
    let i = inside c.args.w.now _ comma (sym c.byte_at.ensures ∙ c.if-byte_at-ne44.false) (omega arith) in
    omega arith

pub loop-v-preserved : goal.loop-v-preserved
loop-v-preserved c =
    let a = c.args in
    let r = (sym c.number_at.ensures ∙ c.in_ok-v.was) in
    rw c.add_item-t.ensures (listing-next a.w.now a.n _ _ _ c.loop-v.invariant _ _ r (sym c.byte_at.ensures ∙ c.if-byte_at-ne44.false))
