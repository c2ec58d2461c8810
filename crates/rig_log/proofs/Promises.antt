-- What the rig's log promises. The statements are in specs/Promised.antt, the laws behind them beside this file.
use mathlib.Core.List.{List}
use mathlib.Core.Path.{◌≡◌, ap, ◌∙◌}
use Prim.Native.Nat.{ℕ}
use Rattle.rig_log.specs.Promised.{LineRead, Chain}
use Rattle.rig_log.specs.Transcript.{transcript}
use Rattle.rig_log.proofs.Lines.Entries.{entry_written, entry_none, says-read, says-some}
use Rattle.rig_log.proofs.Runs.Whole.{said, run-transcript}
use Rattle.rig_log.proofs.Runs.Chains.{calls-said}

-- A line is read as the entry that it says, and as none exactly if it says none.
pub line_read : (w : List ℕ) → LineRead w
line_read w =
    record {
      read = λ e s. says-read s;
      written = entry_written w;
      none = λ q e s. says-some s q;
      wrong = entry_none w;
    }

-- Whatever results `Run::new`, `feed` for each byte of an input and `finish` have, within their contracts: what they say is the transcript.
pub chain_transcript : (chart input out : List ℕ) → Chain chart input out → out ≡ transcript chart input
chain_transcript chart input out c = calls-said chart c.calls ∙ ap (λ q. said chart q input) c.new ∙ run-transcript chart input
