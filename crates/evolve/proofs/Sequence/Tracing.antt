-- The loop that fires again: what is still to be written into the trace gives, on what is written so far, the whole.
use Prim.Native.Nat.{ℕ, suc, ◌+◌, ◌-◌, ◌≤◌, ◌<◌, min}
use mathlib.Core.Path.{◌≡◌, refl, sym, ap, ap₂, ◌∙◌, subst}
use mathlib.Core.List.{List, [], ◌∷◌}
use native.Mathlib.Decide.{dec_le}
use native.Mathlib.Omega.{arith}
use native.Mathlib.Nat.{sub-zero, add-zero}
use native.Mathlib.Numerals.{add-one}
use lib.ListN.{length, set, length-set}
use lib.Seq.{sets, set_out}
use Rattle.cond.specs.declared.View.{View}
use Rattle.evolve.specs.Net.{Net}
use Rattle.evolve.specs.Evolution.{at, next_view, situations, traced}
use Rattle.evolve.specs.Parts.{Kin}
use Rattle.evolve.proofs.Sequence.Onward.{at-start, go_on_lem, calm}

-- past the end nothing is written
sets_past : (vs l : List ℕ) (p : ℕ) → length l ≤ p → sets l p vs ≡ l
sets_past [] l p h = refl
sets_past (a ∷ vs) l p h = ap (λ (x : List ℕ). sets x (suc p) vs) (set_out l p a h) ∙ sets_past vs l (suc p) (omega arith)

-- a trace, where its view and its count are equal to others
pub traced_as : (c : Net) (p : ℕ) (t₀ : List ℕ) {u v : View} {j k : ℕ} {t : List ℕ} → t ≡ traced c u j p t₀ → u ≡ v → j ≡ k → t ≡ traced c v k p t₀
traced_as c p t₀ h a b = h ∙ ap₂ (λ (x : View) (i : ℕ). traced c x i p t₀) a b

module _ (c : Net) (v : View) (k place : ℕ) (t₀ : List ℕ) where
  -- after i firings the view is s_i, and the rest of the situations is still to be written
  pub record Tracing (t : List ℕ) (u : View) (i : ℕ) : Type 0 where
    pub within : i ≤ k
    pub long : length t ≡ length t₀
    pub view : u ≡ at c v i
    pub rest : sets t (place + i) (situations c v i (k - i)) ≡ traced c v k place t₀

  -- before the first firing nothing is written
  pub trace-start : Tracing t₀ v 0
  unfolding traced
  trace-start = record { within = omega arith; long = refl; view = at-start c v; rest = rw (sub-zero k, add-zero place) }

  -- the next situation, and then the others
  unfold_one : (t : List ℕ) (p i m : ℕ)
      → sets t p (situations c v i (suc m)) ≡ sets (set t p (at c v (suc i)).moment.situation) (suc p) (situations c v (suc i) m)
  unfolding situations
  unfold_one t p i m = refl

  -- one more firing, whose situation goes into the trace
  pub trace_turn : {t t' : List ℕ} {u u' : View} {i : ℕ} → Tracing t u i → i < k → u' ≡ next_view c u
      → t' ≡ set t (place + i) u'.moment.situation → Tracing t' u' (i + 1)
  trace_turn {t} {t'} {u} {u'} {i} g h n s =
      let a : u' ≡ at c v (i + 1) = go_on_lem c v u u' i g.view n in
      let b : u' ≡ at c v (suc i) = a ∙ ap (at c v) (add-one i) in
      let m : k - i ≡ suc (k - (i + 1)) = omega arith in
      let q : place + (i + 1) ≡ suc (place + i) = omega arith in
      let y : t' ≡ set t (place + i) (at c v (suc i)).moment.situation = s ∙ ap (λ (z : View). set t (place + i) z.moment.situation) b in
      record {
        within = omega arith;
        long = ap length s ∙ length-set t (place + i) u'.moment.situation ∙ g.long;
        view = a;
        rest =
            ap₂ (λ (l : List ℕ) (j : ℕ). sets l (place + (i + 1)) (situations c v j (k - (i + 1)))) y (add-one i)
            ∙ ap (λ (p : ℕ). sets (set t (place + i) (at c v (suc i)).moment.situation) p (situations c v (suc i) (k - (i + 1)))) q
            ∙ sym (unfold_one t (place + i) i (k - (i + 1))) ∙ ap (λ (j : ℕ). sets t (place + i) (situations c v i j)) (sym m) ∙ g.rest;
      }

  module _ {t : List ℕ} {u : View} {i : ℕ} (g : Tracing t u i) where
    -- all firings are written, or the trace is full
    pub trace_end : (n : ℕ) → n ≡ min k (length t₀ - place) → n ≤ i → t ≡ traced c v k place t₀
    unfolding situations
    trace_end n e h =
        elim (dec_le k i) [
          | yes p ↦ let z : k - i ≡ 0 = omega arith in ap (λ (j : ℕ). sets t (place + i) (situations c v i j)) (sym z) ∙ g.rest
          | no p ↦
              let l = g.long in
              let f : length t ≤ place + i = omega arith in
              sym (sets_past (situations c v i (k - i)) t (place + i) f) ∙ g.rest
        ]

    -- inputs and ages are as before
    pub trace_kin : Kin u v
    trace_kin = subst (λ (x : View). Kin x v) (sym g.view) (calm c v i)
