use native.Mathlib.Omega.{arith}
use Rattle.text.proofs.Places.{taken_end, taken-line, taken_open}
use Rattle.text.proofs.lines.line_at.Goals as goal

pub returns-then-text-at : goal.returns-then-text-at
returns-then-text-at c = taken_end _ _ c.if-text-at.true

pub returns-then-e-text : goal.returns-then-e-text
returns-then-e-text c = taken_open c.args.text.now _ _ c.line_end-e.ensures c.if-text-at.false c.if-e-text.true

pub returns : goal.returns
returns c = let z = c.line_end-e.ensures.within in taken-line c.args.text.now _ _ c.line_end-e.ensures (omega arith)
