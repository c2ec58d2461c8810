use Rattle.std.proofs.Common.{◌≡◌, drop}
use Rattle.outline.specs.Reading.{put_bytes}
use Rattle.outline.proofs.Condition.put_all.Given as goal

abbrev pub invariant-loop-byte : goal.invariant-loop-byte
invariant-loop-byte l = put_bytes l.self (drop l.byte-index l.bytes) ≡ put_bytes l.fn.self l.bytes
