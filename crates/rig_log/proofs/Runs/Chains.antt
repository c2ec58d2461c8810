-- Bytes fed one after another, by results of the calls.
use mathlib.Core.List.{List, [], ◌∷◌, ◌++◌, append-nil, append_assoc}
use mathlib.Core.Path.{◌≡◌, refl, ◌∙◌}
use Prim.Native.Nat.{ℕ, ◌+◌, ◌<◌, ◌≤◌}
use native.Mathlib.Numerals.{add-one}
use lib.ListN.{length, get_or, take}
use lib.Seq.{take-suc, take_all}
use Rattle.text.proofs.Putting.{fitted_front}
use Rattle.rig_log.specs.declared.Run.{Run}
use Rattle.rig_log.specs.Promised.{Calls, finish, feed}
use Rattle.rig_log.specs.Run.{Progress, over, fed, fed_all, progress_of}
use Rattle.rig_log.proofs.Runs.Whole.{said}

module _ (chart : List ℕ) where
  -- the calls of a run say what is said from where it stands
  pub calls-said : {run : Run} {input out : List ℕ} → Calls chart run input out → out ≡ said chart (progress_of run) input
  unfolding said
  calls-said (finish before after r p) = fitted_front r _ before after p
  calls-said (feed b before after next r s c) = rw (fitted_front _ _ before after s.says, calls-said c, s.next)

  -- bytes fed after bytes

  pub fed-next : (q : Progress) (s t : List ℕ) → (fed_all chart q (s ++ t)).next ≡ (fed_all chart (fed_all chart q s).next t).next
  unfolding fed_all
  fed-next q [] t = refl
  fed-next q (b ∷ s) t = fed-next (fed chart q b).next s t

  pub fed-says : (q : Progress) (s t : List ℕ) → (fed_all chart q (s ++ t)).says ≡ (fed_all chart q s).says ++ (fed_all chart (fed_all chart q s).next t).says
  unfolding fed_all
  fed-says q [] t = refl
  fed-says q (b ∷ s) t = rw (fed-says (fed chart q b).next s t, append_assoc)

  pub fed-over : (t : List ℕ) → (fed_all chart over t).next ≡ over
  unfolding fed_all fed
  fed-over [] = refl
  fed-over (b ∷ t) = fed-over t

  -- one byte more of an input
  module _ (q : Progress) (input : List ℕ) (i : ℕ) (h : i < length input) where
    fed-one-next : (fed_all chart q (take (i + 1) input)).next ≡ (fed chart (fed_all chart q (take i input)).next (get_or input i 0)).next
    fed-one-next = rw (add-one, take-suc input i 0 h, fed-next q (take i input) (get_or input i 0 ∷ [])) (unfold fed_all in refl)

    pub fed-one-says : (fed_all chart q (take (i + 1) input)).says ≡ (fed_all chart q (take i input)).says ++ (fed chart (fed_all chart q (take i input)).next (get_or input i 0)).says
    fed-one-says = rw (add-one, take-suc input i 0 h, fed-says q (take i input) (get_or input i 0 ∷ [])) (unfold fed_all in rw append-nil)

    pub fed_further : {x y : Progress} → x ≡ (fed_all chart q (take i input)).next → y ≡ (fed chart x (get_or input i 0)).next → y ≡ (fed_all chart q (take (i + 1) input)).next
    fed_further e f = f ∙ rw (e, fed-one-next)

  pub fed-whole : (q : Progress) (input : List ℕ) (i : ℕ) {x : Progress} → length input ≤ i → x ≡ (fed_all chart q (take i input)).next → x ≡ (fed_all chart q input).next
  fed-whole q input i h e = e ∙ rw (take_all i input h)
