-- No line of more than 24 bytes is one of the log: of a longer line the first 32 bytes say as much as all.
use mathlib.Core.Bool.{Bool, true, false}
use mathlib.Core.List.{List, ◌++◌}
use mathlib.Core.Path.{◌≡◌, refl, sym, ◌∙◌}
use Prim.Native.Nat.{ℕ, ◌<◌, ◌≤◌}
use native.Mathlib.Omega.{arith}
use borrow.Author.Tests.{ltb-true, ltb-false}
use lib.Dec.{ltb}
use lib.ListN.{length, take, length-take, length-append}
use lib.Seq.{take_all}
use Rattle.text.specs.Decimal.{decimal}
use Rattle.text.specs.Keys.{bytes}
use Rattle.text.proofs.Putting.{decimal_length}
use Rattle.rig_log.specs.declared.Entry.{Entry}
use Rattle.std.specs.Prelude.{None}
use Rattle.rig_log.specs.Entries.{entry_of}
use Rattle.rig_log.specs.Forms.{Says, go, event}
use Rattle.rig_log.proofs.Lines.Entries.{entry_none}

-- a number of a line has at most ten digits
says-short : {w : List ℕ} {e : Entry} → Says w e → length w ≤ 24
says-short (go v l q) = let d = decimal_length 10 v (omega arith) (omega arith) in rw q (omega arith)
says-short (event e v h l q) =
    let d = decimal_length 10 e (omega arith) (omega arith) in
    let k = decimal_length 10 v (omega arith) (omega arith) in
    let n = length-append (decimal e) (bytes ":" ++ decimal v) in
    rw q (omega arith)

entry_long : (w : List ℕ) → 24 < length w → entry_of w ≡ None
entry_long w l = entry_none w (λ e s. let k = says-short s in omega arith)

pub entry_take : (w : List ℕ) → entry_of (take 32 w) ≡ entry_of w
entry_take w = go (ltb 32 (length w)) refl
  where
    go : (t : Bool) → ltb 32 (length w) ≡ t → entry_of (take 32 w) ≡ entry_of w
    go true q =
        let l = ltb-true 32 (length w) q in
        let m = length-take 32 w in
        entry_long (take 32 w) (omega arith) ∙ sym (entry_long w (omega arith))
    go false q = rw (take_all 32 w (ltb-false 32 (length w) q))
