-- Words with one item more, and counters that stop at 64.
use mathlib.Core.Bool.{Bool, true, false, cond, or_comm}
use mathlib.Core.List.{List, [], ◌∷◌}
use mathlib.Core.Path.{◌≡◌, refl, ◌∙◌}
use Prim.Native.Nat.{ℕ, ◌+◌, ◌<◌, ◌≤◌, min}
use native.Mathlib.Omega.{arith}
use borrow.Author.Tests.{eq-eqb, ne_eqb, eqb-true, eqb-false, ltb-true, ltb-false}
use lib.Bits.{bit_or}
use lib.Dec.{eqb, ltb}
use lib.ListN.{length, set}
use Rattle.text.specs.Members.{is_among}
use Rattle.text.specs.Words.{has, bit_at}
use Rattle.text.proofs.Words.{has_more}
use Rattle.outline.specs.declared.Condition.{Condition}
use Rattle.outline.specs.Reading.{up_to64, put_byte, put_bytes}

-- w has the items of l
abbrev pub Holds : ℕ → List ℕ → Type 0
Holds w l = (o : ℕ) → o < 32 → has w o ≡ is_among o l

-- the code numbers only up to 32
clipped : (v o : ℕ) → o < 32 → eqb (min 32 v) o ≡ eqb v o
clipped v o h = go (eqb v o) refl
  where
    go : (x : Bool) → eqb v o ≡ x → eqb (min 32 v) o ≡ x
    go true e = let p = eqb-true v o e in eq-eqb (min 32 v) o (omega arith)
    go false e = ne_eqb (min 32 v) o (λ z. eqb-false v o e (omega arith))

-- one item more, as the code numbers it: from 32 on none
pub holds_more : (w v o : ℕ) (l : List ℕ) → Holds w l → o ≡ min 32 v → Holds (bit_or w (bit_at o)) (v ∷ l)
unfolding is_among
holds_more w v o l h e i b = has_more w o i b ∙ rw (h i b, e, clipped v i b) (or_comm (is_among i l) (eqb v i))

-- Counters and bytes stop at 64.

-- a counter
pub more-is : (n k : ℕ) → n ≡ min 64 k → up_to64 n ≡ min 64 (k + 1)
more-is n k e = go (ltb n 64) refl
  where
    go : (x : Bool) → ltb n 64 ≡ x → cond x (n + 1) n ≡ min 64 (k + 1)
    go true p = let z = ltb-true n 64 p in omega arith
    go false p = let z = ltb-false n 64 p in omega arith

put_size : (c : Condition) (b : ℕ) → c.size ≤ 64 → (put_byte c b).size ≡ min 64 (c.size + 1)
put_size c b h = go (ltb c.size 64) refl
  where
    go : (x : Bool) → ltb c.size 64 ≡ x → (cond {A = Condition} x (record { bytes = set c.bytes c.size b; size = c.size + 1 }) c).size ≡ min 64 (c.size + 1)
    go true p = let z = ltb-true c.size 64 p in omega arith
    go false p = let z = ltb-false c.size 64 p in omega arith

-- and bytes
pub puts_size : (c : Condition) (bs : List ℕ) → c.size ≤ 64 → (put_bytes c bs).size ≡ min 64 (c.size + length bs)
unfolding put_bytes
puts_size c [] h = omega arith
puts_size c (b ∷ bs) h = let p = put_size c b h in let q = puts_size (put_byte c b) bs (omega arith) in omega arith
