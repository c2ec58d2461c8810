-- A word that is 0 after a shift has bits of the first items only.
use Prim.Native.Nat.{ℕ, ◌/◌, ◌^◌, ◌<◌, ◌≤◌}
use mathlib.Core.Path.{◌≡◌, sym, ◌∙◌, subst}
use native.Mathlib.Omega.{arith}
use native.Mathlib.Decide.{dec_lt}
use native.Mathlib.Nat.{div-eq_of_lt, div-lt_iff_lt-mul, one-mul, not-le_of_lt, le_of_suc-le-suc, lt_of_not-le}
use lib.Dec.{eqb, ltb}
use lib.Pow.{pow_pos}
use borrow.Author.Tests.{eq-eqb, ne_eqb, lt-ltb, le-ltb}

pub shifted_fits : (w n : ℕ) → eqb (w / 2 ^ n) 0 ≡ ltb w (2 ^ n)
shifted_fits w n =
    elim (dec_lt w (2 ^ n)) [
      | yes h ↦ eq-eqb _ _ (div-eq_of_lt h) ∙ sym (lt-ltb _ _ h)
      | no h ↦
          let g : 2 ^ n ≤ w = le_of_suc-le-suc (lt_of_not-le h) in
          ne_eqb _ _ (λ (e : w / 2 ^ n ≡ 0). not-le_of_lt (subst (λ (x : ℕ). w < x) (one-mul (2 ^ n)) ((div-lt_iff_lt-mul (pow_pos n)).0 (omega arith))) g)
          ∙ sym (le-ltb _ _ g)
    ]
