-- What is compared of a state decides what follows: the latched outputs, which are left out, have no part in it.
use Prim.Native.Nat.{ℕ, suc}
use mathlib.Core.Path.{◌≡◌, sym, ap, ◌∙◌, fun_ext}
use mathlib.Core.Bool.{Bool, true, not, ◌&&◌, and-true, and-eq-true_iff}
use lib.Bits.{bit_or}
use lib.Dec.{eqb}
use borrow.Author.Tests.{eqb-true, eq-eqb}
use Rattle.text.specs.Words.{without}
use Rattle.cond.specs.declared.Moment.{Moment}
use Rattle.cond.specs.declared.View.{View}
use Rattle.cond.specs.Laws.{relatched}
use Rattle.cond.proofs.Promises.{unlatched}
use Rattle.evolve.specs.Net.{NetMove, Net}
use Rattle.evolve.specs.Words.{all_in, gather, some}
use Rattle.evolve.specs.Evolution.{cleared, stable, fired, moment_after, next_view, at, compared, alike, same}
use Rattle.evolve.specs.Demand.{rests_at, repeats}
use Rattle.evolve.specs.Orbit.{Orbit}
use Rattle.evolve.proofs.Sequence.Onward.{calm, calm_old}

-- Moments are equal exactly if all their parts are

alike_is : (a b : Moment) → alike a b ≡ true → a ≡ b
unfolding alike
alike_is a b p =
    let r = (and-eq-true_iff _ _).0 p in
    let s = (and-eq-true_iff _ _).0 r.0 in
    let x = eqb-true _ _ s.0 in
    let y = eqb-true _ _ s.1 in
    let z = eqb-true _ _ r.1 in
    λ t. record { situation = x t; previous = y t; latched = z t }

pub is-alike : (a b : Moment) → a ≡ b → alike a b ≡ true
unfolding alike
is-alike a b p =
    (and-eq-true_iff _ _).1 (
      (and-eq-true_iff _ _).1 (eq-eqb _ _ (ap (λ (x : Moment). x.situation) p), eq-eqb _ _ (ap (λ (x : Moment). x.previous) p)),
      eq-eqb _ _ (ap (λ (x : Moment). x.latched) p),
    )

-- Two moments are equal where situation and predecessor are
pub same-is : (c : Net) (a b : Moment) → eqb a.situation b.situation && eqb a.previous b.previous ≡ same c a b
unfolding same alike compared
same-is c a b = sym (and-true _)

-- Other latched outputs: the same moves are cleared, and they lead to the same situation

cleared_unlatched : (v : View) (w : ℕ) → cleared (relatched v w) ≡ cleared v
unfolding cleared
cleared_unlatched v w = fun_ext (λ m. ap (λ (b : Bool). all_in m.before v.moment.situation && b) (unlatched v w m.condition))

module _ (c : Net) where
  stable_unlatched : (v : View) (w : ℕ) → stable c (relatched v w) ≡ stable c v
  unfolding stable
  stable_unlatched v w = ap (λ (p : NetMove → Bool). not (some p c.moves)) (cleared_unlatched v w)

  fired_unlatched : (v : View) (w : ℕ) → fired c (relatched v w) ≡ fired c v
  unfolding fired
  fired_unlatched v w =
      ap (λ (p : NetMove → Bool). bit_or (without v.moment.situation (gather p (λ m. m.before) c.moves)) (gather p (λ m. m.after) c.moves))
      (cleared_unlatched v w)

  next_unlatched : (v : View) (w : ℕ) → compared c (next_view c (relatched v w)).moment ≡ compared c (next_view c v).moment
  unfolding compared next_view moment_after
  next_unlatched v w = ap (λ (s : ℕ). record { situation = s; previous = v.moment.situation; latched = 0 }) (fired_unlatched v w)

  module _ (v : View) where
    -- what is compared of s_(i+1)
    abbrev g : ℕ → Moment
    g i = compared c (at c v (suc i)).moment

    -- what holds of the views: inputs, old inputs and ages do not change after s1: what is compared is all but the latched outputs
    bare_is : (i j : ℕ) → g i ≡ g j → relatched (at c v (suc i)) 0 ≡ relatched (at c v (suc j)) 0
    unfolding compared
    bare_is i j p =
        λ t. record {
          moment = p t;
          inputs = ((calm c v (suc i)).inputs ∙ sym (calm c v (suc j)).inputs) t;
          old = (calm_old c v i ∙ sym (calm_old c v j)) t;
          ages = ((calm c v (suc i)).ages ∙ sym (calm c v (suc j)).ages) t;
        }

    equal : (i j : ℕ) → repeats c v (suc i) (suc j) ≡ true → g i ≡ g j
    unfolding same
    equal i j p = alike_is (g i) (g j) p

    equal_if : (i j : ℕ) → g i ≡ g j → repeats c v (suc i) (suc j) ≡ true
    unfolding same
    equal_if i j p = is-alike (g i) (g j) p

    decides : (i j : ℕ) → g i ≡ g j → g (suc i) ≡ g (suc j)
    unfolding at
    decides i j p =
        sym (next_unlatched (at c v (suc i)) 0) ∙ ap (λ (u : View). compared c (next_view c u).moment) (bare_is i j p) ∙ next_unlatched (at c v (suc j)) 0

    rests : (i j : ℕ) → g i ≡ g j → rests_at c v (suc i) ≡ rests_at c v (suc j)
    rests i j p = sym (stable_unlatched (at c v (suc i)) 0) ∙ ap (stable c) (bare_is i j p) ∙ stable_unlatched (at c v (suc j)) 0

    -- the evolution from a view is a sequence in which what is compared decides what follows
    pub compared_orbit : Orbit (rests_at c v) (repeats c v) (λ i. compared c (at c v (suc i)).moment)
    compared_orbit = record { equal = equal; alike = equal_if; decides = decides; rests = rests }
