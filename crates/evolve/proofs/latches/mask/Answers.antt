use borrow.Author.Tests.{eq-eqb, ne_eqb}
use mathlib.Core.Bool.{true, false}
use mathlib.Core.Path.{refl}
use Rattle.evolve.proofs.Looks.Also.{bit_of, switched_by}
use Rattle.line.specs.Words.{latch_of_word}
use Rattle.evolve.proofs.latches.mask.Goals as goal

pub returns-then-not-acts : goal.returns-then-not-acts
returns-then-not-acts c =
    let z = c.args in
    let idle = c.if-not-acts.true in
    switched_by z.to z.from (latch_of_word z.row) z.m _ _ false _ refl c.acts.ensures idle refl

pub returns-then-row-eq1 : goal.returns-then-row-eq1
returns-then-row-eq1 c =
    let z = c.args in
    let a = c.acts.ensures in
    let acts = c.if-not-acts.false in
    let on = eq-eqb _ _ c.if-row-eq1.true in
    switched_by z.to z.from (latch_of_word z.row) z.m _ _ true true (bit_of _ c.bit_at-output.ensures) a acts on

pub returns-else-row-eq1 : goal.returns-else-row-eq1
returns-else-row-eq1 c =
    let z = c.args in
    let a = c.acts.ensures in
    let acts = c.if-not-acts.false in
    let off = ne_eqb _ _ c.if-row-eq1.false in
    switched_by z.to z.from (latch_of_word z.row) z.m _ _ true false (bit_of _ c.bit_at-output.ensures) a acts off
