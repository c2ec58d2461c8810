-- States of a sequence coded by numbers below a bound (specs/Orbit.antt): codings of parts make one of the whole, and their bounds multiply.
use Prim.Native.Nat.{ℕ, suc, ◌+◌, ◌*◌, ◌/◌, ◌%◌, ◌≤◌, ◌<◌}
use mathlib.Core.Path.{◌≡◌, sym, ◌∙◌, ap, subst}
use mathlib.Core.Bool.{Bool, true, false}
use native.Mathlib.Omega.{arith}
use lib.Arith.{digits_lt, digits_div, digits_mod}
use Rattle.evolve.specs.Orbit.{Coded}
use Rattle.evolve.proofs.Ending.Pigeon.{pigeon}
use Rattle.evolve.proofs.Ending.Says.{never_both}

-- a number of each state
pub number : (f : ℕ → ℕ) (n : ℕ) → ((i : ℕ) → f i < n) → Coded (λ i j. f i ≡ f j) n
number f n h = record { code = f; below = h; tells = λ i j p. p }

-- two parts
pub both : {P Q : ℕ → ℕ → Type 0} {m n : ℕ} → Coded P m → Coded Q n → Coded (λ i j. P i j × Q i j) (m * n)
both {P} {Q} {m} {n} x y =
    record {
      code = λ i. x.code i * n + y.code i;
      below = λ i. digits_lt (x.below i) (y.below i);
      tells = λ i j p. (
        x.tells i j (sym (digits_div (x.code i) (y.below i)) ∙ ap (λ (z : ℕ). z / n) p ∙ digits_div (x.code j) (y.below j)),
        y.tells i j (sym (digits_mod (x.code i) (y.below i)) ∙ ap (λ (z : ℕ). z % n) p ∙ digits_mod (x.code j) (y.below j)),
      );
    }

-- states that are so related are related otherwise too
pub so : {P Q : ℕ → ℕ → Type 0} {m : ℕ} → ((i j : ℕ) → P i j → Q i j) → Coded P m → Coded Q m
so h x = record { code = x.code; below = x.below; tells = λ i j p. h i j (x.tells i j p) }

-- the bound in another form
pub to : {P : ℕ → ℕ → Type 0} {m n : ℕ} → m ≡ n → Coded P m → Coded P n
to {P} p x = subst (Coded P) p x

-- states s_1 .. s_k that are all different are at most as many as the bound
pub few : (e : ℕ → ℕ → Bool) (bound : ℕ) → Coded (λ i j. e (suc i) (suc j) ≡ true) bound
    → (k : ℕ) → ((i j : ℕ) → 0 < i → i < j → j < suc k → e i j ≡ false) → k ≤ bound
few e bound x k apart =
    pigeon bound k x.code (λ i h. x.below i)
    (λ i j h l p. never_both (x.tells i j p) (apart (suc i) (suc j) (omega arith) (omega arith) (omega arith)))
