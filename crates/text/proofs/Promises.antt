-- What the crate promises beside its functions' contracts: each theorem is stated here, and proved in the file that it cites.
use mathlib.Core.Bool.{false}
use mathlib.Core.Path.{◌≡◌}
use Prim.Native.Nat.{ℕ, ◌<◌}
use lib.ListN.{drop}
use Rattle.text.specs.Bytes.{Bytes, is_digit}
use Rattle.text.specs.Lines.{Lines, split}
use Rattle.text.specs.Numbers.{Number, Reads, number}
use Rattle.text.specs.Chains.{Asking}
use Rattle.text.specs.declared.lines.Reader.{Reader}
use Rattle.text.proofs.Numbers as numbers
use Rattle.text.proofs.Places as places
use Rattle.std.specs.Prelude.{Some}

-- Numbers: what is read is what the rule says, both ways

pub number_sound : (k : ℕ) (b : Bytes) (a e v : ℕ) → 0 < k → number k b a ≡ Some (v, e) → Reads k b a e v
number_sound = numbers.number_sound

pub number_complete : (k : ℕ) (b : Bytes) (a e v : ℕ) → Number k b a e v → is_digit (b e) ≡ false → number k b a ≡ Some (v, e)
number_complete = numbers.number_complete

-- Lines: asked from its text's start until its end, a reader has handed out the text's lines

pub handed_out : (r : Reader) (x : Lines) → r.at ≡ 0 → Asking r x → x ≡ split r.text.now
handed_out = places.handed_out

-- and from any place the asking comes to its end

pub asks_through : (r : Reader) → Asking r (split (drop r.at r.text.now))
asks_through = places.asks_through
