-- How long what is written is: a block fits the room that is lent for it.
use mathlib.Core.List.{List, [], ◌∷◌, ◌++◌}
use Prim.Native.Nat.{ℕ, ◌+◌, ◌^◌, ◌<◌, ◌≤◌}
use native.Mathlib.Omega.{arith}
use lib.ListN.{length, length-append}
use Rattle.text.specs.Decimal.{decimal}
use Rattle.text.specs.Keys.{bytes}
use Rattle.text.specs.Writing.{keyed}
use Rattle.text.proofs.Putting.{decimal_length}
use Rattle.rig_log.specs.Forms.{block}

-- a line of a number of at most k digits
keyed-short : (k : ℕ) (key : List ℕ) (v : ℕ) → 0 < k → v < 10 ^ k → length (keyed key v) ≤ length key + k + 1
unfolding keyed
keyed-short k key v p h =
    let a = length-append key (decimal v ++ (10 ∷ [])) in
    let b = length-append (decimal v) (10 ∷ []) in
    let c = decimal_length k v p h in
    omega arith

pub block-fits : (n c s o : ℕ) → n < 2 ^ 32 → c < 2 ^ 32 → s < 2 ^ 32 → o < 2 ^ 32 → length (block n c s o) ≤ 64
unfolding block
block-fits n c s o p q t u =
    let answer = keyed (bytes "ans=") n in
    let count = keyed (bytes "n=") c in
    let situation = keyed (bytes "sit=") s in
    let outputs = keyed (bytes "out=") o in
    let l₁ = keyed-short 10 (bytes "ans=") n (omega arith) (omega arith) in
    let l₂ = keyed-short 10 (bytes "n=") c (omega arith) (omega arith) in
    let l₃ = keyed-short 10 (bytes "sit=") s (omega arith) (omega arith) in
    let l₄ = keyed-short 10 (bytes "out=") o (omega arith) (omega arith) in
    let a = length-append answer (count ++ (situation ++ outputs)) in
    let b = length-append count (situation ++ outputs) in
    let d = length-append situation outputs in
    omega arith
