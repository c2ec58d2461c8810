-- What the theorems of proofs/Promises.antt say.
use Rattle.std.specs.Prelude.{List, [], ◌∷◌, ◌++◌, ◌≡◌, ℕ, take, Some, None}
use Rattle.text.specs.Writing.{Fitted}
use Rattle.rig_log.specs.declared.Entry.{Entry}
use Rattle.rig_log.specs.declared.Run.{Run}
use Rattle.rig_log.specs.Entries.{entry_of}
use Rattle.rig_log.specs.Forms.{Says}
use Rattle.rig_log.specs.Run.{waiting, fed, finished, progress_of, Stepped}

-- What is read of a line is the entry that it says, and none exactly if it says none.
pub record LineRead (w : List ℕ) : Type 0 where
  pub read : (e : Entry) → Says w e → entry_of w ≡ Some e
  pub written : (e : Entry) → entry_of w ≡ Some e → Says w e
  pub none : entry_of w ≡ None → (e : Entry) → Says w e → ⊥
  pub wrong : ((e : Entry) → Says w e → ⊥) → entry_of w ≡ None

module _ (chart : List ℕ) where
  -- The calls that a run still takes for the rest of its input, and what they say: `feed` for each byte, then `finish`. A result is any that the
  -- call's contract allows, in lent room that holds anything before; said is what then stands at the room's front.
  pub data Calls : Run → List ℕ → List ℕ → Type 0 where
    finish : {run : Run} (before after : List ℕ) (r : ℕ) → Fitted 0 (finished (progress_of run)) before after r → Calls run [] (take r after)
    feed : {run : Run} {t said : List ℕ} (b : ℕ) (before after : List ℕ) (next : Run) (r : ℕ) → Stepped (fed chart (progress_of run) b) before after next r
        → Calls next t said → Calls run (b ∷ t) (take r after ++ said)

  -- A whole run: from any result of `Run::new` on.
  pub record Chain (input said : List ℕ) : Type 0 where
    pub run : Run
    pub new : progress_of run ≡ waiting []
    pub calls : Calls run input said
