use Rattle.sfc.proofs.Answers.{shown_as, success, not-brought, short_untouched, shown_returned, returned_short, returned_judged, import_untouched, import_written}
use Rattle.sfc.specs.Import.{shown}
use Rattle.sfc.specs.declared.Imported.{Imported}
use Rattle.std.proofs.lemmas.Result.{err_from_is_err_and}
use lib.Seq.{sets}
use lib.ListN.{length}
use mathlib.Core.List.{List}
use mathlib.Core.Path.{sym, ap, ◌∙◌}
use Prim.Native.Nat.{ℕ}
use Rattle.sfc.proofs.import.Goals as goal

pub returns-then-room-lt-ROOM-clause-exactly : goal.returns-then-room-lt-ROOM-clause-exactly
returns-then-room-lt-ROOM-clause-exactly c = sym (returned_short c.args.text.now (length c.args.room.now) c.if-room-lt-ROOM.true)

pub returns-then-room-lt-ROOM-clause-value : goal.returns-then-room-lt-ROOM-clause-value
returns-then-room-lt-ROOM-clause-value c = ap shown (returns-then-room-lt-ROOM-clause-exactly c) ∙ shown_returned c.args.text.now (length c.args.room.now)

pub returns-then-room-lt-ROOM-clause-room_after : goal.returns-then-room-lt-ROOM-clause-room_after
returns-then-room-lt-ROOM-clause-room_after c = sym (ap (λ (x : List ℕ). sets c.args.room.now 0 x) (short_untouched c.args.text.now (length c.args.room.now) c.if-room-lt-ROOM.true))

pub returns-in_err-judged-clause-exactly : goal.returns-in_err-judged-clause-exactly
returns-in_err-judged-clause-exactly c =
    let p = err_from_is_err_and c.from_residual.result c.from_residual.ensures.1 in
    rw (p.1, p.2) (sym (returned_judged c.args.text.now (length c.args.room.now) c.if-room-lt-ROOM.false ∙ c.in_err-judged.ensures))

pub returns-in_err-judged-clause-value : goal.returns-in_err-judged-clause-value
returns-in_err-judged-clause-value c = ap shown (returns-in_err-judged-clause-exactly c) ∙ shown_returned c.args.text.now (length c.args.room.now)

pub returns-in_err-judged-clause-room_after : goal.returns-in_err-judged-clause-room_after
returns-in_err-judged-clause-room_after c =
    let text = c.args.text.now in
    let refused = not-brought text _ (shown_as text _ c.in_err-judged.ensures) in
    sym (ap (λ (x : List ℕ). sets c.args.room.now 0 x) (import_untouched text (length c.args.room.now) c.if-room-lt-ROOM.false refused))

pub write_chart-requires : goal.write_chart-requires
write_chart-requires c =
    let text = c.args.text.now in
    ((success text (ap (λ (x : Imported). x.number) (shown_as text _ c.in_ok-judged.ensures.1))).short, c.in_ok-judged.ensures.0)

pub returns-clause-exactly : goal.returns-clause-exactly
returns-clause-exactly c = sym (returned_judged c.args.text.now (length c.args.room.now) c.if-room-lt-ROOM.false ∙ c.in_ok-judged.ensures.1)

pub returns-clause-value : goal.returns-clause-value
returns-clause-value c = ap shown (returns-clause-exactly c) ∙ shown_returned c.args.text.now (length c.args.room.now)

pub returns-clause-room_after : goal.returns-clause-room_after
returns-clause-room_after c =
    let text = c.args.text.now in
    let z = ap (λ (x : Imported). x.number) (shown_as text _ c.in_ok-judged.ensures.1) in
    c.write_chart.ensures.stands ∙ sym (ap (λ (x : List ℕ). sets c.args.room.now 0 x) (import_written text (length c.args.room.now) c.if-room-lt-ROOM.false z))
