-- What is computed about a condition's bytes is what the promised tables say.
use mathlib.Core.Bool.{Bool, true, false, ◌&&◌, false≢true}
use mathlib.Core.List.{List}
use mathlib.Core.Logic.{◌⊎◌, inl, inr}
use mathlib.Core.Path.{◌≡◌, refl, sym, ap, ◌∙◌}
use Prim.Native.Nat.{ℕ, ◌<◌}
use native.Mathlib.Omega.{arith}
use borrow.Author.Tests.{ltb-true, ltb-false}
use lib.Dec.{ltb}
use lib.ListN.{length}
use Rattle.cond.specs.declared.Declared.{Declared}
use Rattle.cond.specs.Bounds.{longest}
use Rattle.cond.specs.Lowest.{given, lower}
use Rattle.cond.specs.declared.View.{View}
use Rattle.cond.specs.Meaning.{Cond, never, true_in, undeclared, edged}
use Rattle.cond.specs.Promised.{SpansAll, StandsFor, Judgement, too_long, no_condition, not_declared, edge_in_hold, faultless, Holding}
use Rattle.cond.specs.Reading.{Reading, got, none, read_cond}
use Rattle.cond.specs.Judging.{judged_as, judged, meant_as, meaning, held_by}
use Rattle.cond.proofs.Grammar.Wholes.{read-stands, stands_read, none-stands, stands-none}
use Rattle.cond.proofs.Judging.Lowest.{six-lower}

module _ (d : Declared) (hold : Bool) (s : List ℕ) where
  pub judgement : (o : Reading) → read_cond s ≡ o → Judgement d hold s (judged_as d hold o)
  unfolding judged_as
  judgement (got c e) q = go (undeclared d c) refl hold refl (edged c) refl (read-stands s c e q).0
    where
      go : (u : Bool) → undeclared d c ≡ u → (h : Bool) → hold ≡ h → (w : Bool) → edged c ≡ w → StandsFor s c → Judgement d hold s (lower (given 6 u) (given 7 (h && w)))
      go true p true r true t x = not_declared c x p
      go true p true r false t x = not_declared c x p
      go true p false r w t x = not_declared c x p
      go false p true r true t x = edge_in_hold c x p r t
      go false p true r false t x = faultless c x p (λ _. t)
      go false p false r w t x = faultless c x p (λ z. absurd (false≢true (sym r ∙ z)))
  judgement none q = go (ltb longest (length s)) refl
    where
      go : (t : Bool) → ltb longest (length s) ≡ t → Judgement d hold s 4
      go true h = too_long (ltb-true longest (length s) h)
      go false h = no_condition (λ c x. none-stands s c q (record { short = ltb-false longest (length s) h; spans = x }))

  no_seven : (t w : Bool) → (t ≡ true → w ≡ false) → given 7 (t && w) ≡ 0
  no_seven true w f = rw (f refl)
  no_seven false w f = refl

  pub judgement_given : {n : ℕ} → Judgement d hold s n → judged d hold s ≡ n
  unfolding judged judged_as
  judgement_given (too_long h) = rw (stands-none s (λ c x. let l = x.short in omega arith))
  judgement_given (no_condition f) = rw (stands-none s (λ c x. f c x.spans))
  judgement_given (not_declared c x u) = rw (stands_read s c x, u) (six-lower (hold && edged c))
  judgement_given (edge_in_hold c x u h w) = rw (stands_read s c x, u, h, w)
  judgement_given (faultless c x u f) = rw (stands_read s c x, u) (no_seven hold (edged c) f)

  pub fours : {n : ℕ} → Judgement d hold s n → n ≡ 4 → (longest < length s) ⊎ ((c : Cond) → SpansAll s c → ⊥)
  fours (too_long h) e = inl h
  fours (no_condition f) e = inr f
  fours (not_declared c x u) e = absurd (omega arith)
  fours (edge_in_hold c x u h w) e = absurd (omega arith)
  fours (faultless c x u f) e = absurd (omega arith)

module _ (s : List ℕ) where
  pub stands_means : (c : Cond) → StandsFor s c → meaning s ≡ c
  unfolding meaning meant_as
  stands_means c x = rw (stands_read s c x)

  pub none_means : ((c : Cond) → StandsFor s c → ⊥) → meaning s ≡ never
  unfolding meaning meant_as
  none_means f = rw (stands-none s f)

module _ (v : View) (s : List ℕ) where
  pub holding : (o : Reading) → read_cond s ≡ o → true_in v (meant_as o) ≡ true → Holding v s
  unfolding meant_as true_in
  holding (got c e) q t = record { says = c; stands = (read-stands s c e q).0; is_true = t }
  holding none q t = absurd (false≢true t)

  pub stands_held : (c : Cond) → StandsFor s c → held_by v s ≡ true_in v c
  stands_held c x = ap (true_in v) (stands_means s c x)
