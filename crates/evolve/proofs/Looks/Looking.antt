-- What a walk over the rows of a kind, the last first, finds of all of them: a row in front of the rows looked at so far.
use Prim.Native.Nat.{ℕ, zero, suc, ◌-◌, ◌≤◌, ◌<◌}
use mathlib.Core.Path.{◌≡◌, refl, sym, ap, ◌∙◌}
use mathlib.Core.Bool.{Bool, true, false, cond, ◌||◌, true≢false}
use mathlib.Core.List.{List, [], ◌∷◌}
use native.Mathlib.Omega.{arith}
use lib.Bits.{bit_or, or_zero_r}
use Rattle.std.specs.Prelude.{Option, Some, None}
use Rattle.cond.specs.declared.View.{View}
use Rattle.line.specs.Chart.{Latch}
use Rattle.evolve.specs.Net.{NetMove, NetHold}
use Rattle.evolve.specs.Table.{rows_from}
use Rattle.evolve.specs.Words.{gather, some}
use Rattle.evolve.specs.Evolution.{cleared, held_outputs, latchable, switched_on, switched_off}
use Rattle.evolve.specs.Parts.{walked, fired_with, fired_of, fired_also, masks_of, switched_also, held_also, named_also}
use Rattle.evolve.specs.declared.Fired.{Fired}

-- where no line passes, no words are gathered
none_gathered : {A : Type 0} (p : A → Bool) (w : A → ℕ) (l : List A) → some p l ≡ false → gather p w l ≡ 0
unfolding some gather
none_gathered p w [] e = refl
none_gathered p w (a ∷ l) e = go (p a) e (none_gathered p w l)
  where
    go : (b : Bool) → b || some p l ≡ false → (some p l ≡ false → gather p w l ≡ 0) → bit_or (cond b (w a) 0) (gather p w l) ≡ 0
    go true e r = absurd (true≢false e)
    go false e r = r e

-- a walk goes on from row i to the row before it
pub walked_down : {T : Type 0} (J : ℕ → T → T) (z : T) {i n : ℕ} → 0 < i → i ≤ n → J (i - 1) (walked J z i (n - i)) ≡ walked J z (i - 1) (n - (i - 1))
unfolding walked
walked_down J z {i} {n} h l =
    let s : i ≡ suc (i - 1) = omega arith in
    let m : suc (n - i) ≡ n - (i - 1) = omega arith in
    ap (λ (j : ℕ). J (i - 1) (walked J z j (n - i))) s ∙ ap (walked J z (i - 1)) m

-- a walk finds what a function of the rows finds, if both go from a row to the one before it in the same way
module _ {A T : Type 0} (row : ℕ → A) (more : A → T → T) (all : List A → T) (step : (a : A) (l : List A) → more a (all l) ≡ all (a ∷ l)) where
  pub walked_all : {z : T} → z ≡ all [] → (i n : ℕ) → walked (λ j found. more (row j) found) z i n ≡ all (rows_from row i n)
  unfolding walked rows_from
  walked_all e i zero = e
  walked_all e i (suc n) = ap (more (row i)) (walked_all e (suc i) n) ∙ step (row i) (rows_from row (suc i) n)

-- one move more
pub look_step : (v : View) (m : NetMove) (ms : List NetMove) → fired_also v m (fired_of ms v) ≡ fired_of (m ∷ ms) v
unfolding fired_of some gather fired_also
look_step v m ms = go (cleared v m) (some (cleared v) ms) refl
  where
    befores : ℕ
    befores = gather (cleared v) (λ m. m.before) ms

    afters : ℕ
    afters = gather (cleared v) (λ m. m.after) ms

    of : Bool → Option Fired
    of s = cond s (Some (record { removed = befores; added = afters })) None

    go : (b s : Bool) → some (cleared v) ms ≡ s
        → cond b (Some (fired_with m (of s))) (of s)
        ≡ cond (b || s) (Some (record { removed = bit_or (cond b m.before 0) befores; added = bit_or (cond b m.after 0) afters })) None
    go true true e = refl
    go true false e =
        let none = sym (or_zero_r m.before) ∙ ap (bit_or m.before) (sym (none_gathered (cleared v) (λ m. m.before) ms e)) in
        let none' = sym (or_zero_r m.after) ∙ ap (bit_or m.after) (sym (none_gathered (cleared v) (λ m. m.after) ms e)) in
        λ t. Some (record { removed = none t; added = none' t })
    go false s e = refl

-- one hold more
pub held_step : (v : View) (h : NetHold) (hs : List NetHold) → held_also v h (held_outputs hs v) ≡ held_outputs (h ∷ hs) v
unfolding held_outputs gather held_also
held_step v h hs = refl

-- one latch more, of one firing
pub mask_step : (to from : ℕ) (l : Latch) (ls : List Latch) → switched_also to from l (masks_of ls to from) ≡ masks_of (l ∷ ls) to from
unfolding masks_of gather switched_also switched_on switched_off
mask_step to from l ls = refl

-- one latch more, for the outputs that latch lines name
pub name-step : (l : Latch) (ls : List Latch) → named_also l (latchable ls) ≡ latchable (l ∷ ls)
unfolding latchable gather
name-step l ls = refl
