use Rattle.std.proofs.Common.{◌≡◌, ◌-◌, length}
use Rattle.text.specs.Bytes.{byte_at}
use Rattle.tokens.specs.Tokens.{close_at}
use Rattle.tokens.proofs.gaps.close_at.Given as goal

abbrev pub invariant-loop-at : goal.invariant-loop-at
invariant-loop-at l = close_at (length l.text - l.from) (byte_at l.text) l.from l.line ≡ close_at (length l.text - l.at) (byte_at l.text) l.at l.l
