use Rattle.std.proofs.Common.{◌≡◌, ◌+◌, drop}
use Rattle.tokens.specs.Spelling.{span}
use Rattle.tokens.proofs.words.span.Given as goal

abbrev pub invariant-loop-i : goal.invariant-loop-i
invariant-loop-i l = span l.text ≡ l.i + span (drop l.i l.text)
