use Rattle.sfc.proofs.Answers.{shown_as, not-brought, map-none, map_read}
use Rattle.sfc.specs.declared.Imported.{Imported}
use Rattle.sfc.specs.Import.{map_by}
use Rattle.outline.specs.declared.Reading.{Reading}
use mathlib.Core.Path.{sym, ap, ◌∙◌}
use Rattle.sfc.proofs.names.Goals.{in-Ok, in-Err}
use Rattle.sfc.proofs.names.Goals as goal

pub returns : goal.returns
returns c =
    let text = c.args.text.now in
    let tables = λ (r : Reading). map_by r.known.steps r.known.inputs r.known.outputs in
    elim c.match-judge.branch [
      | in-Ok w ↦
          let judged = rw w.in-Ok.is at c.judge.ensures in
          ap tables (w.reading-is ∙ judged.0) ∙ map_read text (ap (λ (x : Imported). x.number) (shown_as text _ judged.1))
      | in-Err w ↦
          let refused = rw w.in-Err.is at c.judge.ensures in
          ap tables (w.reading-is ∙ w.nothing-reading.ensures) ∙ sym (map-none text (not-brought text _ (shown_as text _ refused)))
    ]
