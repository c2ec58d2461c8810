use Rattle.line.specs.declared.Kind.TheVariants.{Hold, Latch}
use Rattle.line.specs.Write.{hold', latch'}
use Rattle.writer.specs.Lines.{hold_made, latch_made}
use Rattle.writer.proofs.Made.{line_asked, line_other}
use mathlib.Core.Path.{refl}
use native.Mathlib.Omega.{arith}
use Rattle.writer.proofs.write_action.Goals as goal

pub returns-in-Hold-clause-lines_put : goal.returns-in-Hold-clause-lines_put
returns-in-Hold-clause-lines_put c = rw (← c.is_hold.ensures, c.if-is_hold.true) (line_asked _ Hold (hold' (hold_made c.args.r.now)) refl _ _ _ c.in-Hold.is _ _ c.write_hold.ensures.put c.and_to.ensures)

pub returns-in_default : goal.returns-in_default
returns-in_default c = record { lines_put = rw (← c.is_hold.ensures, c.if-is_hold.true) (line_other _ Hold (hold' (hold_made c.args.r.now)) refl _ _ c.args.room.now c.in_default.not-Hold); at_bound = (omega arith, omega arith) }

pub returns-in-Latch-clause-lines_put : goal.returns-in-Latch-clause-lines_put
returns-in-Latch-clause-lines_put c = rw (← c.is_hold.ensures, c.if-is_hold.false) (line_asked _ Latch (latch' (latch_made c.args.r.now)) refl _ _ _ c.in-Latch.is _ _ c.write_latch.ensures.put c.and_to-in-Latch.ensures)

pub returns-in_default-kind : goal.returns-in_default-kind
returns-in_default-kind c = record { lines_put = rw (← c.is_hold.ensures, c.if-is_hold.false) (line_other _ Latch (latch' (latch_made c.args.r.now)) refl _ _ c.args.room.now c.in_default-kind.not-Latch); at_bound = (omega arith, omega arith) }
