use Rattle.sfc.proofs.Answers.{concluded_fault, concluded_none, concluded_over, concluded_good}
use mathlib.Core.Path.{sym}
use Rattle.sfc.proofs.concluded.Goals as goal

pub returns-in-Some : goal.returns-in-Some
returns-in-Some c = sym (concluded_fault c.args.text.now c.requires.0 _ c.requires.1 _ c.in-Some.is)

pub returns-then-r-eq0 : goal.returns-then-r-eq0
returns-then-r-eq0 c = sym (concluded_none c.args.text.now c.requires.0 _ c.requires.1 c.in_default.is c.if-r-eq0.true)

pub returns-then-size-gt-TEXT : goal.returns-then-size-gt-TEXT
returns-then-size-gt-TEXT c = sym (concluded_over c.args.text.now c.requires.0 _ c.requires.1 c.in_default.is c.if-r-eq0.false _ c.write_chart-size.ensures.next c.if-size-gt-TEXT.true)

pub returns : goal.returns
returns c = sym (concluded_good c.args.text.now c.requires.0 _ c.requires.1 c.in_default.is c.if-r-eq0.false _ c.write_chart-size.ensures.next c.if-size-gt-TEXT.false)
