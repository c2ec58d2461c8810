-- A way of the code: what the program's loop keeps between reading and writing.
use Rattle.std.specs.Prelude.{List, ◌≡◌, ℕ}
use Rattle.rig_log.specs.declared.Run.{Run}
use Rattle.rig_log.specs.Run.{Progress, over, fed_all, progress_of}
use Rattle.pipe.specs.Page.{gathered}

module _ (chart : List ℕ) where
  -- One read's bytes are fed one by one, each once: the run stands where they lead, and a page of n bytes holds what they say and is not yet written.
  pub record FedPage (n : ℕ) (q : Progress) (input before : List ℕ) (run : Run) (after : List ℕ) : Type 0 where
    pub next : progress_of run ≡ (fed_all chart q input).next
    pub page : after ≡ gathered n before (fed_all chart q input).says

  -- Where a run leads: it was fed some bytes, or its input has ended. Which bytes were read no contract can say.
  pub data Leads (q : Progress) : Progress → Type 0 where
    fed-on : (input : List ℕ) → Leads q (fed_all chart q input).next
    ended : Leads q over
