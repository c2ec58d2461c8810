use Rattle.text.proofs.Laws.{inside}
use native.Mathlib.Omega.{arith}
use borrow.Author.Tests.{eq-eqb, ne_eqb}
use Rattle.tokens.proofs.gaps.pair_at.Goals as goal

pub returns-then-byte_at-a : goal.returns-then-byte_at-a
returns-then-byte_at-a c = rw (← c.byte_at.ensures, ne_eqb _ _ c.if-byte_at-a.true)

pub overflow_add-at : goal.overflow_add-at
overflow_add-at c = let e = c.byte_at.ensures in let f = c.if-byte_at-a.false in let p = c.requires in let i = inside c.args.text.now c.args.at (omega arith) in omega arith

pub returns : goal.returns
returns c = rw (← c.byte_at.ensures, eq-eqb _ _ c.if-byte_at-a.false, ← c.byte_at-2.ensures)
