-- What the three parts of the search find together is what the definition's search finds.
use Prim.Native.Nat.{ℕ, suc, ◌+◌, ◌≤◌, ◌<◌}
use mathlib.Core.Path.{◌≡◌, sym, ap, ap₂, ◌∙◌, subst}
use mathlib.Core.Bool.{true, false}
use mathlib.Core.Logic.{⊎_elim}
use native.Mathlib.Omega.{arith}
use native.Mathlib.Nat.{suc-add}
use Rattle.std.specs.Prelude.{None}
use Rattle.cond.specs.declared.View.{View}
use Rattle.evolve.specs.Net.{Net}
use Rattle.evolve.specs.Evolution.{stable, next_view, at, same, end_count}
use Rattle.evolve.specs.Search.{evolve}
use Rattle.evolve.specs.Demand.{rests_at, repeats}
use Rattle.evolve.specs.Parts.{Busy, Fires, Back, Period, Entered}
use Rattle.evolve.specs.declared.End.{End}
use Rattle.evolve.specs.declared.End.TheVariants.{Rest, Loops, Cut}
use Rattle.evolve.proofs.Ending.Says.{Says, whole, only}
use Rattle.evolve.proofs.Ending.Orbit.{rest-says, later-says, cut_says, loop_says, late_says}
use Rattle.evolve.proofs.Ending.Compared.{compared_orbit}
use Rattle.evolve.proofs.Sequence.Onward.{at_add, at_from}

module _ (c : Net) (v : View) where
  -- what the end says
  says : Says (rests_at c v) (repeats c v) c.limit (evolve c v)
  unfolding evolve
  says = whole (rests_at c v) (repeats c v) c.limit

  -- what an end says, it alone says
  is : (x : End) → Says (rests_at c v) (repeats c v) c.limit x → x ≡ evolve c v
  is x s = only (rests_at c v) (repeats c v) c.limit x (evolve c v) s says

  -- no state before the one that the count tells is stable
  ends-busy : Busy c v (end_count (evolve c v))
  ends-busy = go (evolve c v) says
    where
      go : (x : End) → Says (rests_at c v) (repeats c v) c.limit x → Busy c v (end_count x)
      go (Rest k) s i h = s.2.busy i h
      go (Loops j) s i h = s.1.busy i h
      go (Cut l) s i h = s.1.busy i (omega (arith, s.0))

  -- so it may be fired as often again, from the view in which the evolution began
  pub again_asks : {x : End} {k : ℕ} {u : View} → x ≡ evolve c v → k ≡ end_count x → u ≡ v → Busy c u k
  again_asks p q r = rw (r, q, p) ends-busy

  -- the firings ended in a stable state within the limit
  pub rest-is : {k : ℕ} {u : View} → Fires c v (suc c.limit) k u → k ≤ c.limit → Rest k ≡ evolve c v
  rest-is {k} s h = is (Rest k) (rest-says (compared_orbit c v) c.limit k h (s.stops (omega arith)) s.busy)

  -- they did not, and the view is left in the state after the limit's
  module _ {k : ℕ} {u : View} (s : Fires c v (suc c.limit) k u) (t : c.limit < k) where
    -- so many firings there were
    all : k ≡ suc c.limit
    all = let h = s.within in omega arith

    -- no state up to the limit's is stable
    busy : Busy c v (suc c.limit)
    busy = subst (Busy c v) all s.busy

    -- and the view is the one after it
    left_in : u ≡ at c v (suc c.limit)
    left_in = s.view ∙ ap (at c v) all

    -- so many firings more
    later : (n : ℕ) → at c u n ≡ at c v (suc (c.limit + n))
    later n = ap (λ (x : View). at c x n) left_in ∙ at_add c v (suc c.limit) n ∙ ap (at c v) (suc-add c.limit n)

    -- whether the view is back after so many
    again : (n : ℕ) → repeats c v (suc c.limit) (suc (c.limit + n)) ≡ same c u.moment (at c u n).moment
    again n = ap₂ (λ (x y : View). same c x.moment y.moment) (sym left_in) (sym (later n))

    -- no period, or a stable state comes first
    pub cut_is : Period c u None → Cut c.limit ≡ evolve c v
    cut_is w =
        is (Cut c.limit)
        (⊎_elim (λ f. later-says (compared_orbit c v) c.limit busy (suc (c.limit + f.0)) (ap (stable c) (sym (later f.0)) ∙ f.1))
        (λ f. cut_says (compared_orbit c v) c.limit busy c.limit (omega arith) (λ n l m. again n ∙ f n l m)) w)

    -- a period is within the limit: what is asked where its beginning is looked for
    pub entry_asks : {d : ℕ} → Back c u d → (d ≤ c.limit) × Busy c v (suc c.limit)
    entry_asks {d} w = let l = w.within in (omega arith, busy)

    -- a period d, which begins n firings after s1
    module _ {d n : ℕ} (w : Back c u d) (y : Entered c (next_view c v) d n) where
      -- the period, at the state after the limit's
      is-back : repeats c v (suc c.limit) (suc (c.limit + d)) ≡ true
      is-back = again d ∙ w.back

      least : (i : ℕ) → 0 < i → i < d → repeats c v (suc c.limit) (suc (c.limit + i)) ≡ false
      least i l m = again i ∙ w.least i l m

      -- a state and the one d firings later, from s1 on
      ahead : (i : ℕ) → repeats c v (suc i) (suc (i + d)) ≡ same c (at c (next_view c v) i).moment (at c (next_view c v) (i + d)).moment
      ahead i = ap₂ (λ (x y : View). same c x.moment y.moment) (sym (at_from c v i)) (sym (at_from c v (i + d)))

      before : (i : ℕ) → i < n → repeats c v (suc i) (suc (i + d)) ≡ false
      before i l = ahead i ∙ y.before i l

      -- the repeat shows within the limit
      pub loop_is : n + d < c.limit → Loops (n + d + 1) ≡ evolve c v
      loop_is h =
          is (Loops (n + d + 1))
          (loop_says (compared_orbit c v) c.limit busy c.limit d n w.some is-back least before h (ahead n ∙ y.here h))

      -- or it does not
      pub late_is : c.limit ≤ n + d → Cut c.limit ≡ evolve c v
      late_is h = is (Cut c.limit) (late_says (compared_orbit c v) c.limit busy c.limit d n w.some is-back least before h)
