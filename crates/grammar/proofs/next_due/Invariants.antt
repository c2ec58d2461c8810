use Rattle.std.proofs.Common.{◌≡◌, drop}
use Rattle.grammar.specs.Rows.{rows, next_in}
use Rattle.grammar.proofs.next_due.Given as goal

abbrev pub invariant-loop-due : goal.invariant-loop-due
invariant-loop-due l = next_in rows l.phase l.kind ≡ next_in (drop l.due-index l.due-items) l.phase l.kind
