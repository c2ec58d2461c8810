use native.Mathlib.Nat.{sub_self}
use mathlib.Core.Path.{◌≡◌, refl, ap, ap₂, ◌∙◌}
use Rattle.std.proofs.Common.{rules, ◌-◌}
use native.Mathlib.Omega.{arith}
use Rattle.evolve.specs.Table.{count_in}
use Rattle.evolve.specs.Parts.{walked}
use Rattle.evolve.proofs.Looks.Looking.{walked_down}
use Rattle.evolve.proofs.Chart.walk.Goals as goal

pub loop-i-init : goal.loop-i-init
unfolding walked
loop-i-init g c = (search rules, λ J h. rw (sub_self c.count-i.result) refl)

pub loop-i-preserved : goal.loop-i-preserved
loop-i-preserved g c =
    let (callable, found) = c.loop-i.invariant in
    let more = c.more-found.ensures in
    (callable, λ J h. h _ _ _ more ∙ ap (J (c.loop-i.i - 1)) (found J h) ∙ walked_down J _ c.loop-i-test.true c.loop-i.auto.i)

pub returns : goal.returns
returns g c =
    let (callable, found) = c.loop-i.invariant in
    let first : c.loop-i.i ≡ 0 = omega arith in
    let all : c.count-i.result - c.loop-i.i ≡ count_in c.args.self.now.table.now c.args.kind = omega arith in
    λ J h. found J h ∙ ap₂ (walked J _) first all
