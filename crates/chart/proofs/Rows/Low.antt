-- Words of lists of declared items are low; an element of a list that is so throughout.
use mathlib.Core.List.{List}
use Prim.Native.Nat.{ℕ, zero, suc, ◌^◌, ◌<◌}
use native.Mathlib.Omega.{arith}
use lib.Bits.{bit_or, or_lt}
use lib.ListN.{length, get_or}
use lib.Pow.{pow_pos}
use Rattle.text.specs.Words.{bit_at, word_from, word_of}
use Rattle.text.proofs.Words.{bit-low}
use Rattle.chart.specs.WellFormed.{Every, every_nil, every_cons, StepList}

word_low : (n w : ℕ) {l : List ℕ} → w < 2 ^ n → Every (λ v. v < n) l → word_from w l < 2 ^ n
unfolding word_from
word_low n w h every_nil = h
word_low n w h (every_cons {x} p e) = word_low n (bit_or w (bit_at x)) (or_lt n w (bit_at x) h (bit-low n x p)) e

pub list-low : (n : ℕ) {l : List ℕ} → StepList n l → word_of l < 2 ^ n
list-low n s = word_low n 0 (pow_pos n) s.declared

pub every_at : {A : Type 0} {P : A → Type 0} (d : A) {l : List A} → Every P l → (i : ℕ) → i < length l → P (get_or l i d)
every_at d every_nil i h = absurd (omega arith)
every_at d (every_cons p e) zero h = p
every_at d (every_cons p e) (suc i) h = every_at d e i (omega arith)
