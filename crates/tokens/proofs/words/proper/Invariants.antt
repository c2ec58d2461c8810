use Rattle.std.proofs.Common.{◌≡◌, drop}
use Rattle.tokens.specs.Spelling.{proper_after}
use Rattle.tokens.proofs.words.proper.Given as goal

abbrev pub invariant-loop-b : goal.invariant-loop-b
invariant-loop-b l = proper_after 0 l.w ≡ proper_after l.last (drop l.b-index l.w)
