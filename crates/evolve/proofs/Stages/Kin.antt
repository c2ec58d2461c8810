-- Views that no firing tells apart but by moment and old inputs: one is put in the other's moment, and comes back.
use Prim.Native.Nat.{ℕ, zero, suc}
use mathlib.Core.Path.{◌≡◌, refl, sym, ap, ◌∙◌}
use Rattle.cond.specs.declared.View.{View}
use Rattle.cond.specs.declared.Moment.{Moment}
use Rattle.evolve.specs.Net.{Net}
use Rattle.evolve.specs.Evolution.{at}
use Rattle.evolve.specs.Search.{left_off}
use Rattle.evolve.specs.Parts.{put, Kin}
use Rattle.evolve.specs.declared.End.{End}
use Rattle.evolve.specs.declared.End.TheVariants.{Rest, Loops, Cut}
use Rattle.evolve.proofs.Sequence.Onward.{calm, calm_old}

-- inputs and ages of one view are those of a third, if both are those of a second
pub kin_trans : {u v w : View} → Kin u v → Kin v w → Kin u w
kin_trans k l = record { inputs = k.inputs ∙ l.inputs; ages = k.ages ∙ l.ages }

-- and the other way round
pub kin_sym : {u v : View} → Kin u v → Kin v u
kin_sym k = record { inputs = sym k.inputs; ages = sym k.ages }

-- equal views have equal inputs and ages
pub kin_of : {u v : View} → u ≡ v → Kin u v
kin_of e = record { inputs = ap (λ (x : View). x.inputs) e; ages = ap (λ (x : View). x.ages) e }

-- another moment and other old inputs leave them as they were
pub kin_put : (v : View) (m : Moment) (o : ℕ) → Kin (put v m o) v
kin_put v m o = record { inputs = refl; ages = refl }

-- a view with the inputs and ages of another, in its moment and with its old inputs, is that one
pub put_back : {u v w : View} {m : Moment} {o : ℕ} → Kin u v → w ≡ put u m o → m ≡ v.moment → o ≡ v.old → w ≡ v
put_back {u} {v} {w} {m} {o} k p q r =
    p ∙ λ t. record { moment = q t; inputs = k.inputs t; old = r t; ages = k.ages t }

-- A view in which no input edge lives, and the states that follow

module _ (c : Net) (x : View) (quiet : x.old ≡ x.inputs) where
  -- in none of them an input edge lives
  old-is : (i : ℕ) → (at c x i).old ≡ x.inputs
  unfolding at
  old-is zero = quiet
  old-is (suc i) = calm_old c x i

  -- each is given by its moment, in whichever of them that is put
  pub by_moment : (i k : ℕ) → put (at c x k) (at c x i).moment (at c x k).inputs ≡ at c x i
  by_moment i k =
      λ t. record {
        moment = (at c x i).moment;
        inputs = ((calm c x k).inputs ∙ sym (calm c x i).inputs) t;
        old = ((calm c x k).inputs ∙ sym (old-is i)) t;
        ages = ((calm c x k).ages ∙ sym (calm c x i).ages) t;
      }

-- the view in which an evolution leaves off has the inputs and ages with which it began
pub settled_kin : (c : Net) (v : View) (x : End) → Kin (left_off c v x) v
unfolding left_off
settled_kin c v (Rest k) = calm c v k
settled_kin c v (Loops j) = record { inputs = refl; ages = refl }
settled_kin c v (Cut l) = record { inputs = refl; ages = refl }
