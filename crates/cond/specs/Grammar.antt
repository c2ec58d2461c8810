-- The grammar: which bytes, from a place up to another, are which atom, factor, term and condition.
use Rattle.std.specs.Prelude.{◌≡◌, ℕ, ◌+◌, ◌≤◌}
use Prim.Native.Char.{code}
use Rattle.text.specs.Bytes.{Bytes}
use Rattle.text.specs.Numbers.{Number}
use Rattle.cond.specs.Bounds.{slowest, most_digits}
use Rattle.cond.specs.Meaning.{step, input, step_up_kind, step_down_kind, input_up_kind, input_down_kind, delay, Cond, always, never, item, neg, both, either}

-- 01: "A number is 1 to 7 decimal digits without a leading zero, except 0 itself."
abbrev pub Numeral : Bytes → ℕ → ℕ → ℕ → Type 0
Numeral = Number most_digits

-- 01: "atom: `1` true, `0` false, `xS` step active, `iI` input on, `uxS` `dxS` `uiI` `diI` rising and falling edges,
-- `T/xS` on-delay with T 1 to 3,600,000 ms"
pub data Atom (b : Bytes) (a : ℕ) : ℕ → Cond → Type 0 where
  true' : b a ≡ code "1" → Atom b a (a + 1) always
  false' : b a ≡ code "0" → Atom b a (a + 1) never
  step' : (e k : ℕ) → b a ≡ code "x" → Numeral b (a + 1) e k → Atom b a e (item step k)
  input' : (e k : ℕ) → b a ≡ code "i" → Numeral b (a + 1) e k → Atom b a e (item input k)
  step-up : (e k : ℕ) → b a ≡ code "u" → b (a + 1) ≡ code "x" → Numeral b (a + 1 + 1) e k → Atom b a e (item step_up_kind k)
  step_down : (e k : ℕ) → b a ≡ code "d" → b (a + 1) ≡ code "x" → Numeral b (a + 1 + 1) e k → Atom b a e (item step_down_kind k)
  input-up : (e k : ℕ) → b a ≡ code "u" → b (a + 1) ≡ code "i" → Numeral b (a + 1 + 1) e k → Atom b a e (item input_up_kind k)
  input_down : (e k : ℕ) → b a ≡ code "d" → b (a + 1) ≡ code "i" → Numeral b (a + 1 + 1) e k → Atom b a e (item input_down_kind k)
  on-delay : (m t e k : ℕ) → Numeral b a m t → 1 ≤ t → t ≤ slowest → b m ≡ code "/" → b (m + 1) ≡ code "x"
      → Numeral b (m + 1 + 1) e k → Atom b a e (item (delay t) k)

pub data Part : Type 0 where
  factor term condition : Part

pub data Spans (b : Bytes) : Part → ℕ → ℕ → Cond → Type 0 where
  -- "factor: `!` factor, or `(` cond `)`, or an atom"
  negation : (a e : ℕ) (c : Cond) → b a ≡ code "!" → Spans b factor (a + 1) e c → Spans b factor a e (neg c)
  bracketed : (a e : ℕ) (c : Cond) → b a ≡ code "(" → Spans b condition (a + 1) e c → b e ≡ code ")" → Spans b factor a (e + 1) c
  atom : (a e : ℕ) (c : Cond) → Atom b a e c → Spans b factor a e c
  -- "term: factors joined by `.` (and)"
  one-factor : (a e : ℕ) (c : Cond) → Spans b factor a e c → Spans b term a e c
  more_factors : (a m e : ℕ) (c d : Cond) → Spans b factor a m c → b m ≡ code "." → Spans b term (m + 1) e d → Spans b term a e (both c d)
  -- "cond: terms joined by `+` (or)"
  one-term : (a e : ℕ) (c : Cond) → Spans b term a e c → Spans b condition a e c
  more_terms : (a m e : ℕ) (c d : Cond) → Spans b term a m c → b m ≡ code "+" → Spans b condition (m + 1) e d → Spans b condition a e (either c d)
