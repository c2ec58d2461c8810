use denote.Enum.Bare.{false_same}
use Rattle.grammar.specs.contracts.Phase.{the_type}
use Rattle.grammar.specs.declared.Phase.TheVariants.{EndDue, SemicolonDue}
use Rattle.line.specs.declared.Kind.TheVariants.{Move}
use Rattle.line.specs.Write.{move'}
use Rattle.writer.specs.Lines.{made, move_made}
use Rattle.writer.proofs.Made.{line_asked, line_other, no_line}
use mathlib.Core.Path.{refl}
use native.Mathlib.Omega.{arith}
use Rattle.writer.proofs.write_made.Goals as goal

pub returns-in-Move-clause-lines_put : goal.returns-in-Move-clause-lines_put
unfolding made
returns-in-Move-clause-lines_put c = rw c.in-EndDue.is (line_asked _ Move (move' (move_made c.args.r.now)) refl _ _ _ c.in-Move.is _ _ c.write_move.ensures.put c.and_to.ensures)

pub returns-in_default-kind : goal.returns-in_default-kind
unfolding made
returns-in_default-kind c = record { lines_put = rw c.in-EndDue.is (line_other _ Move (move' (move_made c.args.r.now)) refl _ _ c.args.room.now c.in_default-kind.not-Move); at_bound = (omega arith, omega arith) }

pub returns-in-SemicolonDue-clause-lines_put : goal.returns-in-SemicolonDue-clause-lines_put
unfolding made
returns-in-SemicolonDue-clause-lines_put c = rw c.in-SemicolonDue.is c.write_action.ensures.lines_put

pub returns-in_default : goal.returns-in_default
unfolding made
returns-in_default c =
    record {
      lines_put = rw (false_same the_type tt c.args.r.now.due.phase EndDue c.in_default.not-EndDue, false_same the_type tt c.args.r.now.due.phase SemicolonDue c.in_default.not-SemicolonDue) (no_line _ _ _);
      at_bound = (omega arith, omega arith);
    }
