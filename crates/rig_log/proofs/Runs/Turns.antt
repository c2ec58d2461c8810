-- One byte of a run: the code's run against where the run stands.
use mathlib.Core.List.{List, [], ◌∷◌, ◌++◌}
use mathlib.Core.Path.{◌≡◌, refl, sym, ◌∙◌}
use Prim.Native.Nat.{ℕ, ◌+◌, ◌<◌, ◌≤◌}
use native.Mathlib.Omega.{arith}
use borrow.Author.Tests.{ne_eqb}
use lib.ListN.{length, take, set, length-take, length-append}
use lib.Seq.{take_all, take-append-le}
use Rattle.std.proofs.lemmas.List.{take_more_set}
use Rattle.text.specs.Writing.{Fitted}
use Rattle.text.proofs.Putting.{put-none}
use Rattle.text.specs.Lines.{line_end}
use Rattle.engine.specs.declared.State.{State}
use Rattle.rig_log.specs.declared.Phase.{Phase}
use Rattle.rig_log.specs.declared.Phase.TheVariants.{Waiting, Running, Over}
use Rattle.rig_log.specs.Forms.{bad_line}
use Rattle.rig_log.specs.Entries.{entry_of}
use Rattle.rig_log.specs.Run.{running, over, grown, silent, go_step, ev_step, fed, finished, progress}

-- a byte more of a line, where there is room, and where there is none
pub grown-room : (l : List ℕ) (n b : ℕ) → length l ≡ 32 → n < 32 → take (n + 1) (set l n b) ≡ grown (take n l) b
grown-room l n b h k =
    let m = length-append (take n l) (b ∷ []) in
    let t = length-take n l in
    take_more_set l n b (omega arith) ∙ sym (take_all 32 (take n l ++ (b ∷ [])) (omega arith))

pub grown_full : (l : List ℕ) (n b : ℕ) → length l ≡ 32 → 32 ≤ n → take n l ≡ grown (take n l) b
grown_full l n b h k = rw (take_all n l (omega arith)) (sym (take-append-le 32 l (b ∷ []) (omega arith) ∙ take_all 32 l (omega arith)))

-- nothing is said
pub said-nothing : (l : List ℕ) → Fitted 0 [] l l 0
said-nothing l = record { put = put-none 0 l; fits = omega arith }

-- a byte that ends no line
pub byte_step : (chart : List ℕ) (p : Phase) (l : List ℕ) (b : ℕ) → (b ≡ line_end → ⊥) → fed chart (progress p l) b ≡ silent (progress p (grown l b))
unfolding fed
byte_step chart Waiting l b h = rw (ne_eqb b line_end h)
byte_step chart (Running n s) l b h = rw (ne_eqb b line_end h)
byte_step chart Over l b h = refl

-- a byte of a run that is over
pub over_step : (chart l : List ℕ) (b : ℕ) → fed chart (progress Over l) b ≡ silent over
unfolding fed
over_step chart l b = refl

-- a line's end
module _ (chart l : List ℕ) (b : ℕ) where
  pub go_line_end : b ≡ line_end → fed chart (progress Waiting l) b ≡ go_step chart (entry_of l)
  unfolding fed
  go_line_end e = rw e

  pub ev_line_end : (n : ℕ) (s : State) → b ≡ line_end → fed chart (progress (Running n s) l) b ≡ ev_step chart n s (entry_of l)
  unfolding fed
  ev_line_end n s e = rw e

-- the input's end
pub finished-begun : (n : ℕ) (s : State) (p : List ℕ) → 0 < length p → finished (running n s p) ≡ bad_line n
unfolding finished
finished-begun n s [] h = absurd (omega arith)
finished-begun n s (b ∷ p) h = refl

pub finished-none : (n : ℕ) (s : State) (p : List ℕ) → length p ≡ 0 → finished (running n s p) ≡ []
unfolding finished
finished-none n s [] h = refl
finished-none n s (b ∷ p) h = absurd (omega arith)
