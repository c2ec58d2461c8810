-- The outputs that hold lines show, output by output.
use Prim.Native.Nat.{ℕ, suc, ◌+◌, ◌-◌, ◌*◌, ◌/◌, ◌%◌, ◌^◌}
use mathlib.Core.Path.{◌≡◌, sym, ◌∙◌, ap, ap₂}
use mathlib.Core.Bool.{Bool, true, false, cond, ◌&&◌, ◌||◌}
use mathlib.Core.List.{List, [], ◌∷◌}
use native.Mathlib.Decide.{dec_lt}
use native.Mathlib.Nat.{div-eq_of_lt, one-mul, pow-suc, add-zero}
use native.Mathlib.Omega.{arith}
use lib.Arith.{digits_mod}
use lib.Dec.{eqb}
use lib.Pow.{pow-lt, pow-add, shl-shr}
use borrow.Author.Tests.{eq-eqb, ne_eqb}
use Rattle.text.specs.Words.{has}
use Rattle.text.proofs.Items.{has_or, has_zero}
use Rattle.cond.specs.declared.View.{View}
use Rattle.evolve.specs.Net.{NetHold}
use Rattle.evolve.specs.Words.{bit, gather, some}
use Rattle.evolve.specs.Evolution.{showing, held_outputs, shows}

-- the word of an item has none below it
bit_above : (k o : ℕ) → 2 ^ (suc k + o) / 2 ^ o % 2 ≡ 0
bit_above k o =
    ap (λ (x : ℕ). x / 2 ^ o % 2) (pow-add 2 (suc k) o) ∙ ap (λ (x : ℕ). x % 2) (shl-shr (2 ^ suc k) o)
    ∙ ap (λ (x : ℕ). x % 2) (pow-suc 2 k ∙ sym (add-zero (2 ^ k * 2))) ∙ digits_mod (2 ^ k) (omega arith)

-- the word of one item has that item alone
has-bit : (j o : ℕ) → has (bit j) o ≡ eqb j o
has-bit j o =
    elim (dec_lt j o) [
      | yes h ↦ ap (λ (x : ℕ). eqb (x % 2) 1) (div-eq_of_lt (pow-lt h)) ∙ sym (ne_eqb j o (λ e. omega arith))
      | no h ↦
          elim (dec_lt o j) [
            | yes k ↦
                let e : suc (j - suc o) + o ≡ j = omega arith in
                ap (λ (x : ℕ). eqb (2 ^ x / 2 ^ o % 2) 1) (sym e) ∙ ap (λ (x : ℕ). eqb x 1) (bit_above (j - suc o) o) ∙ sym (ne_eqb j o (λ q. omega arith))
            | no k ↦
                let e : j ≡ o = omega arith in
                ap (λ (x : ℕ). eqb (2 ^ x / 2 ^ o % 2) 1) e ∙ ap (λ (x : ℕ). eqb (x / 2 ^ o % 2) 1) (sym (one-mul (2 ^ o)))
                ∙ ap (λ (x : ℕ). eqb (x % 2) 1) (shl-shr 1 o) ∙ sym (eq-eqb j o e)
          ]
    ]

-- an output is held exactly if some line shows it
pub held_shows : (hs : List NetHold) (v : View) (o : ℕ) → has (held_outputs hs v) o ≡ some (shows v o) hs
unfolding held_outputs gather some shows
held_shows [] v o = has_zero o
held_shows (h ∷ hs) v o =
    has_or (cond (showing v h) (bit h.output) 0) (held_outputs hs v) o ∙ ap₂ (λ (a b : Bool). a || b) (one (showing v h)) (held_shows hs v o)
  where
    one : (b : Bool) → has (cond b (bit h.output) 0) o ≡ b && eqb h.output o
    one true = has-bit h.output o
    one false = has_zero o
