-- The loop that fires as long as a move is cleared, and what its callers take from it.
use Prim.Native.Nat.{ℕ, zero, suc, ◌+◌, ◌≤◌, ◌<◌}
use mathlib.Core.Path.{◌≡◌, sym, ap, ◌∙◌, subst}
use mathlib.Core.Bool.{true, false}
use native.Mathlib.Numerals.{add-one}
use native.Mathlib.Omega.{arith}
use borrow.Author.Count.{below_none, below_more}
use Rattle.std.specs.Prelude.{Some, None}
use Rattle.cond.specs.declared.View.{View}
use Rattle.evolve.specs.Net.{Net}
use Rattle.evolve.specs.Evolution.{stable, next_view, at}
use Rattle.evolve.specs.Demand.{rests_at}
use Rattle.evolve.specs.Parts.{fired_of, led, put, Kin, Busy, Fires}
use Rattle.evolve.specs.declared.Fired.{Fired}
use Rattle.evolve.proofs.Ending.Says.{never_both, by_order}
use Rattle.evolve.proofs.Sequence.Onward.{at-start, go_on_lem, calm}
use Rattle.evolve.proofs.Stages.Kin.{kin_of, kin_trans}
use Rattle.evolve.proofs.Looks.Views.{rests, busy, leads}

module _ (c : Net) (v : View) (most : ℕ) where
  -- after k firings the view is s_k, and no state before it is stable
  pub record Firing (u : View) (k : ℕ) : Type 0 where
    pub within : k ≤ most
    pub busy : Busy c v k
    pub view : u ≡ at c v k

  -- before the first firing
  pub fire_start : Firing v 0
  fire_start = record { within = omega arith; busy = below_none (λ i. rests_at c v i ≡ false); view = at-start c v }

  module _ {u : View} {k : ℕ} (g : Firing u k) where
    -- as often as it may be
    pub fire_end : most ≤ k → Fires c v most k u
    fire_end h = record { within = g.within; busy = g.busy; view = g.view; stops = λ l. absurd (omega arith) }

    -- no move is cleared
    pub fire_stop : None ≡ fired_of c.moves u → Fires c v most k u
    fire_stop e = record { within = g.within; busy = g.busy; view = g.view; stops = λ l. ap (stable c) (sym g.view) ∙ rests c u e }

    -- one more firing
    pub fire_turn : {f : Fired} {w : View} → k < most → Some f ≡ fired_of c.moves u → w ≡ put u (led c.latches f u.moment) u.inputs → Firing w (k + 1)
    fire_turn {f} {w} h e q =
        record {
          within = omega arith;
          busy = below_more (λ i. rests_at c v i ≡ false) k g.busy (ap (stable c) (sym g.view) ∙ busy c u e);
          view = go_on_lem c v u w k g.view (leads c u e w q);
        }

-- one firing can be made where the view is not stable
one-busy : (c : Net) (v : View) → stable c v ≡ false → Busy c v 1
unfolding at
one-busy c v p zero h = p
one-busy c v p (suc i) h = absurd (omega arith)

module _ {c : Net} {v : View} where
  module _ {most r : ℕ} {u : View} (s : Fires c v most r u) where
    -- no firing changes inputs and ages
    pub fires_kin : Kin u v
    fires_kin = kin_trans (kin_of s.view) (calm c v r)

    -- where no state before is stable, all firings are made
    pub fires_all : Busy c v most → u ≡ at c v most
    fires_all b =
        let l = s.within in
        s.view ∙ ap (at c v) (by_order r most (λ h. never_both (s.stops h) (b r h)) (λ h. omega arith))

  -- at most one firing more than the limit, which was read as l
  pub fires_past : {l r : ℕ} {u : View} → Fires c v (l + 1) r u → l ≡ c.limit → Fires c v (suc c.limit) r u
  fires_past {l} {r} {u} s e = subst (λ (x : ℕ). Fires c v x r u) (add-one l ∙ ap suc e) s

  -- At most one firing

  module _ {r : ℕ} {u : View} (s : Fires c v 1 r u) where
    -- from a view that is not stable
    pub fires_once : stable c v ≡ false → u ≡ next_view c v
    unfolding at
    fires_once p = fires_all s (one-busy c v p)

    -- it was made
    pub fires_some : (r ≡ 0 → ⊥) → u ≡ next_view c v
    unfolding at
    fires_some p =
        let l = s.within in
        let e : r ≡ 1 = omega (arith, p) in
        s.view ∙ ap (at c v) e

    -- it was not: the view is stable
    pub fires_none : r ≡ 0 → stable c v ≡ true
    unfolding at
    fires_none p = ap (rests_at c v) (sym p) ∙ s.stops (omega arith)
