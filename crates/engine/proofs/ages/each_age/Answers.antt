use Rattle.std.proofs.Common.{rules, get_or, set}
use Rattle.std.proofs.lemmas.List.Edits.{fill_by_more}
use Rattle.engine.proofs.Calls.Filling.{by_each}
use native.Mathlib.Omega.{arith}
use lib.ListN.{length, length-set}
use mathlib.Core.Path.{sym, subst, ◌≡◌, ◌∙◌}
use Prim.Native.Nat.{ℕ}
use Rattle.engine.proofs.ages.each_age.Goals as goal

pub loop-j-preserved : goal.loop-j-preserved
loop-j-preserved g c =
    let (callable, long, filled) = c.loop-j.invariant in
    let at = c.loop-j in
    let gave = c.f.ensures in (
      callable,
      length-set at.next at.j _ ∙ long,
      λ h of k l.
          subst (λ (r : ℕ). get_or (set at.next at.j r) k 0 ≡ h k (get_or c.args.ages k 0)) (sym (of _ _ _ gave))
          (fill_by_more (λ i. h i (get_or c.args.ages i 0)) at.next at.j 0 (omega arith) (filled h of) k l),
    )

pub returns : goal.returns
returns g c =
    let (callable, long, filled) = c.loop-j.invariant in
    let ages : length c.args.ages ≡ 30 = search rules in
    λ h of. by_each h _ _ (long ∙ sym ages) (λ k l. filled h of k (omega arith))
