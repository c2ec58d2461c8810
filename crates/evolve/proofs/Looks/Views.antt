-- What a look at the moves makes of a view.
use mathlib.Core.Path.{◌≡◌, refl, sym, ◌∙◌, ap}
use mathlib.Core.Bool.{Bool, true, false, not, cond}
use Rattle.std.specs.Prelude.{Option, Some, None, unwrap_or}
use Rattle.std.proofs.lemmas.Option.{none-some}
use Rattle.cond.specs.declared.View.{View}
use Rattle.evolve.specs.Net.{Net}
use Rattle.evolve.specs.Words.{some}
use Rattle.evolve.specs.Evolution.{cleared, stable, fired, moment_after, next_view}
use Rattle.evolve.specs.Parts.{fired_of, put, led}
use Rattle.evolve.specs.declared.Fired.{Fired}

-- what a look found, by whether a move is cleared
found_by : {f g : Fired} (s : Bool) → Some f ≡ cond s (Some g) None → (s ≡ true) × (f ≡ g)
found_by {f} {g} true e = (refl, ap (λ (o : Option Fired). unwrap_or o g) e)
found_by false e = absurd (none-some _ (sym e))

none_by : (g : Fired) (s : Bool) → None ≡ cond s (Some g) None → s ≡ false
none_by g true e = absurd (none-some g e)
none_by g false e = refl

module _ (c : Net) (v : View) where
  -- a look finds nothing: the view is stable
  pub rests : None ≡ fired_of c.moves v → stable c v ≡ true
  unfolding fired_of stable
  rests e = ap not (none_by _ (some (cleared v) c.moves) e)

  module _ {f : Fired} (looked : Some f ≡ fired_of c.moves v) where
    -- it finds a move that is cleared: the view is not stable
    pub busy : stable c v ≡ false
    unfolding fired_of stable
    busy = ap not (found_by (some (cleared v) c.moves) looked).0

    -- and what was found leads to the next view
    pub leads : (w : View) → w ≡ put v (led c.latches f v.moment) v.inputs → w ≡ next_view c v
    unfolding led fired_of next_view moment_after fired
    leads w q = q ∙ ap (λ (x : Fired). put v (led c.latches x v.moment) v.inputs) (found_by (some (cleared v) c.moves) looked).1
