-- The loop that looks for the place where a period d begins, from x = s1 on: one view goes d firings ahead of a moment.
use Prim.Native.Nat.{ℕ, suc, ◌+◌, ◌-◌, ◌≤◌, ◌<◌}
use mathlib.Core.Path.{◌≡◌, refl, sym, ap, ap₂, ◌∙◌, subst}
use mathlib.Core.Bool.{Bool, true, false}
use native.Mathlib.Omega.{arith}
use native.Mathlib.Nat.{zero-add}
use borrow.Author.Count.{below_none, below_more}
use Rattle.cond.specs.declared.View.{View}
use Rattle.cond.specs.declared.Moment.{Moment}
use Rattle.evolve.specs.Net.{Net}
use Rattle.evolve.specs.Evolution.{stable, moment_after, next_view, at, same}
use Rattle.evolve.specs.Demand.{rests_at}
use Rattle.evolve.specs.Parts.{put, Kin, Busy, Compares, Fires, Entered}
use Rattle.evolve.proofs.Sequence.Onward.{at_from, at-start, go_on_lem, calm}
use Rattle.evolve.proofs.Stages.Kin.{kin_of, kin_trans, by_moment}
use Rattle.evolve.proofs.Stages.Firing.{fires_all, fires_once}

module _ (c : Net) (x : View) (d : ℕ) where
  -- at place u the moment is that of s_(1+u), the view d firings ahead; no place before has the period
  pub record Entering (w : View) (b : Moment) (u : ℕ) : Type 0 where
    pub quiet : x.old ≡ x.inputs
    pub busy : Busy c x c.limit
    pub within : u ≤ c.limit - d
    pub view : w ≡ at c x (u + d)
    pub behind : b ≡ (at c x u).moment
    pub before : (t : ℕ) → t < u → same c (at c x t).moment (at c x (t + d)).moment ≡ false

  module _ {w : View} {b : Moment} {u : ℕ} (g : Entering w b u) where
    -- the view has the inputs and ages of x
    enter_kin : Kin w x
    enter_kin = kin_trans (kin_of g.view) (calm c x (u + d))

    -- no place below the limit has the period
    pub enter_end : c.limit - d ≤ u → Entered c x d u
    enter_end h = record { within = g.within; before = g.before; here = λ l. absurd (omega arith) }

    -- whether this place has it
    both : {r : Bool} → Compares b w.moment r → (t : Bool) → r ≡ t → same c (at c x u).moment (at c x (u + d)).moment ≡ t
    both q t e = ap₂ (λ (y : Moment) (z : View). same c y z.moment) (sym g.behind) (sym g.view) ∙ sym (q c) ∙ e

    -- it has
    pub enter_found : {r : Bool} → Compares b w.moment r → r ≡ true → Entered c x d u
    enter_found q e = record { within = g.within; before = g.before; here = λ h. both q true e }

    -- it has not, and the view goes on, and then the moment
    module _ (h : u < c.limit - d) {w' : View} {n : ℕ} (s : Fires c w 1 n w') where
      -- the view after one firing more
      ahead : w' ≡ at c x (u + d + 1)
      ahead = go_on_lem c x w w' (u + d) g.view (fires_once s (ap (stable c) g.view ∙ g.busy (u + d) (omega arith)))

      -- the state behind, by its moment
      state : put w' b w'.inputs ≡ at c x u
      state = ap₂ (λ (y : View) (m : Moment). put y m y.inputs) ahead g.behind ∙ by_moment c x g.quiet u (u + d + 1)

      -- what the firing from there asks
      pub enter_asks : stable c (put w' b w'.inputs) ≡ false
      enter_asks = ap (stable c) state ∙ g.busy u (omega arith)

      -- the next place
      pub enter_turn : {w'' : View} {b' : Moment} {r : Bool} → Compares b w.moment r → r ≡ false
          → b' ≡ moment_after c (put w' b w'.inputs) → w'' ≡ w' → Entering w'' b' (u + 1)
      unfolding next_view
      enter_turn {w''} {b'} q e m k =
          let f : u + d + 1 ≡ u + 1 + d = omega arith in
          record {
            quiet = g.quiet;
            busy = g.busy;
            within = omega arith;
            view = k ∙ ahead ∙ ap (at c x) f;
            behind = m ∙ ap (λ (y : View). y.moment) (go_on_lem c x (put w' b w'.inputs) (next_view c (put w' b w'.inputs)) u state refl);
            before = below_more (λ t. same c (at c x t).moment (at c x (t + d)).moment ≡ false) u g.before (both q false e);
          }

-- Before the loop: v is s0, y the view in s1, w the view d firings later

module _ (c : Net) (v : View) (d : ℕ) (asks : (d ≤ c.limit) × Busy c v (suc c.limit)) {y w : View} {i j : ℕ}
    (s : Fires c v 1 i y) (t : Fires c y d j w) where
  -- s1
  abbrev x : View
  x = next_view c v

  -- no state from there on up to the limit's is stable
  busy_x : Busy c x c.limit
  busy_x n h = ap (stable c) (at_from c v n) ∙ asks.1 (suc n) (omega arith)

  -- the view after the first firing, and after d firings more
  first : y ≡ x
  unfolding at
  first = fires_once s (asks.1 0 (omega arith))

  second : w ≡ at c x d
  second = fires_all t (λ n h. ap (λ (z : View). rests_at c z n) first ∙ busy_x n (omega (arith, asks.0))) ∙ ap (λ (z : View). at c z d) first

  -- s1 by its moment, in the view
  enter_first : put w y.moment w.inputs ≡ x
  unfolding at next_view
  enter_first =
      ap₂ (λ (z : View) (m : Moment). put z m z.inputs) second (ap (λ (z : View). z.moment) first) ∙ by_moment c x refl 0 d

  -- the first place
  pub enter_start : Entering c (put w y.moment w.inputs) d w y.moment 0
  unfolding next_view
  enter_start =
      subst (λ (z : View). Entering c z d w y.moment 0) (sym enter_first)
      (record {
        quiet = refl;
        busy = busy_x;
        within = omega arith;
        view = second ∙ ap (at c x) (sym (zero-add d));
        behind = ap (λ (z : View). z.moment) (first ∙ at-start c x);
        before = below_none (λ n. same c (at c x n).moment (at c x (n + d)).moment ≡ false);
      })

  -- what is found of s1 by its moment, is found of s1, with the inputs and ages of s0
  pub enter_of : {z : View} {m : Moment} {u : ℕ} → Entering c (put w y.moment w.inputs) d z m u → Entered c (put w y.moment w.inputs) d u → Entered c x d u × Kin z v
  unfolding at
  enter_of {u = u} g e =
      (subst (λ (o : View). Entered c o d u) enter_first e, kin_trans (enter_kin c _ d g) (kin_trans (kin_of enter_first) (calm c v 1)))
