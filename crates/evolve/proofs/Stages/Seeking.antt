-- The loop that looks for a period: p is the view whose moment is to come back.
use Prim.Native.Nat.{ℕ, ◌+◌, ◌-◌, ◌≤◌, ◌<◌}
use mathlib.Core.Path.{◌≡◌, sym, ap, ◌∙◌}
use mathlib.Core.Bool.{Bool, true, false}
use mathlib.Core.Logic.{inl, inr}
use native.Mathlib.Omega.{arith}
use borrow.Author.Count.{below_more}
use Rattle.std.specs.Prelude.{Some, None}
use Rattle.cond.specs.declared.View.{View}
use Rattle.evolve.specs.Net.{Net}
use Rattle.evolve.specs.Evolution.{stable, at, same}
use Rattle.evolve.specs.Parts.{Kin, Compares, Fires, Period}
use Rattle.evolve.proofs.Sequence.Onward.{at-start, go_on_lem, calm}
use Rattle.evolve.proofs.Stages.Kin.{kin_of, kin_trans}
use Rattle.evolve.proofs.Stages.Firing.{fires_some, fires_none}

module _ (c : Net) (p : View) where
  -- before the d-th firing, after none of which the moment was back
  pub record Seeking (u : View) (d : ℕ) : Type 0 where
    pub some : 0 < d
    pub view : u ≡ at c p (d - 1)
    pub none : (t : ℕ) → t < d → 0 < t → same c p.moment (at c p t).moment ≡ false

  -- before the first firing
  pub seek_start : Seeking p 1
  seek_start = record { some = omega arith; view = at-start c p; none = λ t h l. absurd (omega arith) }

  module _ {u : View} {d : ℕ} (g : Seeking u d) where
    -- no period below the limit
    pub seek_end : c.limit ≤ d → Period c p None
    seek_end h = inr (λ t l m. g.none t (omega arith) l)

    -- the view has the inputs and ages with which the loop began
    pub seek_kin : Kin u p
    seek_kin = kin_trans (kin_of g.view) (calm c p (d - 1))

    module _ {w : View} {r : ℕ} (s : Fires c u 1 r w) where
      -- a stable state comes first
      pub seek_rests : r ≡ 0 → Period c p None
      seek_rests z = inl (d - 1, ap (stable c) (sym g.view) ∙ fires_none s z)

      -- the d-th firing was made
      module _ (z : r ≡ 0 → ⊥) where
        -- the view is in the state after it
        seek_view : w ≡ at c p d
        seek_view =
            let l = g.some in
            let e : d - 1 + 1 ≡ d = omega arith in
            go_on_lem c p u w (d - 1) g.view (fires_some s z) ∙ ap (at c p) e

        module _ {b : Bool} (q : Compares p.moment w.moment b) where
          -- what the comparison says of that state
          here : (t : Bool) → b ≡ t → same c p.moment (at c p d).moment ≡ t
          here t e = ap (λ (y : View). same c p.moment y.moment) (sym seek_view) ∙ sym (q c) ∙ e

          -- the moment is back
          pub seek_found : d < c.limit → b ≡ true → Period c p (Some d)
          seek_found h e = record { some = g.some; within = h; back = here true e; least = λ t l m. g.none t m l }

          -- it is not
          pub seek_turn : b ≡ false → Seeking w (d + 1)
          seek_turn e =
              let f : d ≡ d + 1 - 1 = omega arith in
              record {
                some = omega arith;
                view = seek_view ∙ ap (at c p) f;
                none = below_more (λ t. 0 < t → same c p.moment (at c p t).moment ≡ false) d g.none (λ l. here false e);
              }
