use Rattle.cond.proofs.Words.Copy.{copying_start, copying_on, copying_end}
use mathlib.Core.Path.{refl, ap}
use denote.Bor.{Bor}
use Rattle.cond.specs.declared.View.{View}
use native.Mathlib.Omega.{arith}
use Rattle.cond.proofs.sight.Sight.of.Goals as goal

pub loop-i-init : goal.loop-i-init
loop-i-init c = record { copying = copying_start _; view = refl; declared = refl }

pub loop-i-preserved : goal.loop-i-preserved
loop-i-preserved c =
    let i = c.loop-i.invariant in
    record { copying = copying_on _ _ _ i.copying (omega arith) c.requires; view = i.view; declared = i.declared }

pub returns : goal.returns
returns c =
    let i = c.loop-i.invariant in
    record { bytes = copying_end _ _ _ i.copying (omega arith); view = ap (λ (x : Bor View). x.now) i.view; declared = i.declared }
