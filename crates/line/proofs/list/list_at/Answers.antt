use Rattle.line.specs.Shape.{list_at}
use Rattle.line.specs.Steps.{tally}
use Rattle.line.proofs.list.list_at.Goals as goal

pub returns-then-is_digit : goal.returns-then-is_digit
unfolding list_at
returns-then-is_digit c = rw (← c.byte_at.ensures, ← c.is_digit.ensures, c.if-is_digit.true) c.items_at.ensures

pub returns-else-is_digit : goal.returns-else-is_digit
unfolding list_at tally
returns-else-is_digit c = rw (← c.byte_at.ensures, ← c.is_digit.ensures, c.if-is_digit.false, c.no_items.ensures)
