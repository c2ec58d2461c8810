use mathlib.Core.Path.{ap, ◌∙◌}
use native.Mathlib.Omega.{arith}
use lib.ListN.{length}
use Rattle.sfc.specs.declared.Imported.{Imported}
use Rattle.sfc.proofs.Promises.{import_low}
use Rattle.host.proofs.grafcet_import.Goals as goal

pub overflow_cast-brought : goal.overflow_cast-brought
overflow_cast-brought c =
    let l = import_low c.args.text.now (length c.args.room.now) in
    let e = ap (λ (x : Imported). x.length) (c.from-brought.ensures ∙ c.import.ensures.value) in
    omega arith
