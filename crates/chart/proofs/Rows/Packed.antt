-- Packed words taken apart: a step, an output and a place, or a latch.
use mathlib.Core.Bool.{Bool, true, false, not}
use mathlib.Core.Path.{◌≡◌, refl, ap, ◌∙◌}
use Prim.Native.Nat.{ℕ, ◌+◌, ◌*◌, ◌/◌, ◌%◌, ◌<◌}
use native.Mathlib.Omega.{arith}
use native.Mathlib.Nat.{mod-eq_of_lt}
use lib.Arith.{digits_div, digits_mod}
use lib.Dec.{eqb}
use Rattle.line.specs.Chart.{Latch}
use Rattle.line.specs.Words.{item_word, flag, latch_of_word}

-- s + 32 * o + 1024 * p
pub record ItemParts (s o p w : ℕ) : Type 0 where
  pub step : w % 32 ≡ s
  pub output : w / 32 % 32 ≡ o
  pub rest : w / 1024 ≡ p

pub item_parts : (s o p : ℕ) → s < 32 → o < 32 → ItemParts s o p (item_word s o + 1024 * p)
item_parts s o p a b =
    let e : s + 32 * o + 1024 * p ≡ (p * 32 + o) * 32 + s = omega arith in
    let f : s + 32 * o + 1024 * p ≡ p * 1024 + (s + 32 * o) = omega arith in
    let v = ap (λ (z : ℕ). z / 32 % 32) e ∙ ap (λ (z : ℕ). z % 32) (digits_div (p * 32 + o) {m = 32} {r = s} a) ∙ digits_mod p {m = 32} {r = o} b in
    rw (mod-eq_of_lt a, mod-eq_of_lt b)
    (record {
      step = ap (λ (z : ℕ). z % 32) e ∙ digits_mod (p * 32 + o) {m = 32} {r = s} a;
      output = v;
      rest = ap (λ (z : ℕ). z / 1024) f ∙ digits_div p {m = 1024} {r = s + 32 * o} (omega arith);
    })

-- A latch: s + 32 * o + 1024 * e + 2048 * v

abbrev packed : Latch → ℕ
packed x = item_word x.step x.output + 1024 * flag (not x.activation) + 2048 * flag x.on

pub latch-back : (x : Latch) → x.step < 32 → x.output < 32 → latch_of_word (packed x) ≡ x
latch-back x a b =
    let i = item_word x.step x.output in
    let e = flag (not x.activation) in
    let v = flag x.on in
    let l = flag-low (not x.activation) in
    let m = mod-eq_of_lt a in let n = mod-eq_of_lt b in
    let z : i + 1024 * e + 2048 * v ≡ i + 1024 * (v * 2 + e) = omega arith in
    let p = item_parts x.step x.output (v * 2 + e) a b in
    let y : i + 1024 * (v * 2 + e) ≡ v * 2048 + (i + 1024 * e) = omega arith in
    let on : (i + 1024 * (v * 2 + e)) / 2048 ≡ v = ap (λ (w : ℕ). w / 2048) y ∙ digits_div v {m = 2048} {r = i + 1024 * e} (omega arith) in
    rw (z, p.step, p.output, p.rest, digits_mod v {m = 2} {r = e} l, on, edge-back x.activation, value-back x.on)
  where
    flag-low : (t : Bool) → flag t < 2
    flag-low true = omega arith
    flag-low false = omega arith

    edge-back : (t : Bool) → eqb (flag (not t)) 0 ≡ t
    edge-back true = refl
    edge-back false = refl

    value-back : (t : Bool) → eqb (flag t) 1 ≡ t
    value-back true = refl
    value-back false = refl
