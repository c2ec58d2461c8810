-- The bytes of a condition so far.
use mathlib.Core.Bool.{false}
use mathlib.Core.List.{List, [], ◌∷◌, ◌++◌, append_assoc, append-nil}
use mathlib.Core.Path.{◌≡◌, ap, ◌∙◌}
use Prim.Native.Nat.{ℕ, suc, ◌+◌, ◌-◌, ◌<◌, ◌≤◌}
use native.Mathlib.Numerals.{add-one}
use native.Mathlib.Omega.{arith}
use borrow.Author.Tests.{lt-ltb, le-ltb, ltb-false}
use lib.Dec.{ltb}
use lib.ListN.{length, take, length-set, length-append, length-take}
use lib.Seq.{take-suc-set}
use Rattle.outline.specs.declared.Condition.{Condition}
use Rattle.outline.specs.Reading.{put_byte, put_bytes, over_by}

-- the bytes w were put, and are at most 64
pub record Spelt (c : Condition) (w : List ℕ) : Type 0 where
  pub wide : length c.bytes ≡ 64
  pub few : c.size ≤ 64
  pub is : take c.size c.bytes ≡ w

-- as many bytes as the size says
pub spelt_length : (c : Condition) (w : List ℕ) → Spelt c w → length w ≡ c.size
spelt_length c w g = let a = length-take c.size c.bytes in let b : length (take c.size c.bytes) ≡ length w = ap length g.is in let e = g.wide in let f = g.few in omega arith

-- one byte more
spelt_put : (c : Condition) (w : List ℕ) (b : ℕ) → Spelt c w → c.size < 64 → Spelt (put_byte c b) (w ++ b ∷ [])
spelt_put c w b g h =
    let e = g.wide in
    rw (lt-ltb c.size 64 h)
    (record {
      wide = length-set c.bytes c.size b ∙ e;
      few = omega arith;
      is = rw (add-one c.size) (take-suc-set c.bytes c.size b (omega arith) ∙ ap (λ (x : List ℕ). x ++ b ∷ []) g.is);
    })

-- bytes that find room are put behind the others
pub spelt_puts : (bs : List ℕ) (c : Condition) (w : List ℕ) → Spelt c w → over_by c (length bs) ≡ false → Spelt (put_bytes c bs) (w ++ bs)
unfolding put_bytes
spelt_puts [] c w g h = rw (append-nil w) g
spelt_puts (b ∷ bs) c w g h =
    let z = ltb-false (64 - c.size) (suc (length bs)) h in
    let f = g.few in
    let i = spelt_put c w b g (omega arith) in
    let x = spelt_length (put_byte c b) (w ++ b ∷ []) i in
    let y = spelt_length c w g in
    let l = length-append w (b ∷ []) in
    let j : over_by (put_byte c b) (length bs) ≡ false = room (put_byte c b).size (omega arith) in
    rw (append_assoc w (b ∷ []) bs) at (spelt_puts bs (put_byte c b) (w ++ b ∷ []) i j)
  where
    room : (n : ℕ) → n + length bs ≤ 64 → ltb (64 - n) (length bs) ≡ false
    room n h = le-ltb (64 - n) (length bs) (omega arith)
