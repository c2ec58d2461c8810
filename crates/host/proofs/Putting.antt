-- A state in lent words: three words, and its ages after them.
use Prim.Native.Nat.{ℕ, ◌≤◌}
use mathlib.Core.Path.{◌≡◌, refl}
use mathlib.Core.List.{List, [], ◌∷◌}
use native.Mathlib.Omega.{arith}
use lib.ListN.{length, get_or, set, take, drop}
use Rattle.host.specs.State.{state_in}

pub put_three : (l : List ℕ) (a b c : ℕ) → 3 ≤ length l → set (set (set l 0 a) 1 b) 2 c ≡ a ∷ b ∷ c ∷ drop 3 l
put_three [] a b c h = absurd (omega arith)
put_three (x ∷ []) a b c h = absurd (omega arith)
put_three (x ∷ y ∷ []) a b c h = absurd (omega arith)
put_three (x ∷ y ∷ z ∷ l) a b c h = refl

pub state-read : (w a : List ℕ) → a ≡ take 30 (drop 3 w)
    → record { situation = get_or w 0 0; inputs = get_or w 1 0; latched = get_or w 2 0; ages = a } ≡ state_in w
unfolding state_in
state-read w a e = λ t. record { situation = get_or w 0 0; inputs = get_or w 1 0; latched = get_or w 2 0; ages = e t }
