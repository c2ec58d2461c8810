-- The promises of the crate: a text has one reading by the grammar, the answers are those of the tables, and brackets are never deep.
use mathlib.Core.Bool.{Bool, true}
use mathlib.Core.List.{List}
use mathlib.Core.Logic.{◌↔◌, ◌⊎◌, ⊎_elim}
use mathlib.Core.Path.{◌≡◌, refl, subst, ◌∙◌}
use Prim.Native.Nat.{ℕ, ◌+◌, ◌*◌, ◌<◌, ◌≤◌}
use native.Mathlib.Omega.{arith}
use lib.ListN.{length}
use Rattle.text.specs.Bytes.{Bytes}
use Rattle.cond.specs.declared.Declared.{Declared}
use Rattle.cond.specs.declared.faults.Fault.{Fault}
use Rattle.cond.specs.Faults.{answer}
use Rattle.std.specs.Prelude.{Result}
use Rattle.cond.specs.Bounds.{longest}
use Rattle.cond.specs.declared.View.{View}
use Rattle.cond.specs.Laws.{relatched}
use Rattle.cond.specs.Meaning.{Cond, never, true_in}
use Rattle.cond.specs.Grammar.{Part, Spans}
use Rattle.cond.specs.Promised.{SpansAll, StandsFor, Judgement, too_long, no_condition, Holding}
use Rattle.cond.specs.Nesting.{depth}
use Rattle.cond.specs.Reading.{read_cond}
use Rattle.cond.specs.Judging.{judged, meaning, held_by}
use Rattle.cond.proofs.Grammar.Ends.{brackets_need}
use Rattle.cond.proofs.Grammar.Wholes.{spans-one}
use Rattle.cond.proofs.Judging.Unseen.{latched_unseen}
use Rattle.cond.proofs.Judging.Lowest.{answer-is}
use Rattle.cond.proofs.Judging.Table.{judgement, judgement_given, fours, stands_means, none_means, holding, stands_held}

-- each text has at most one reading, whatever its length
pub one-reading : (s : List ℕ) (c d : Cond) → SpansAll s c → SpansAll s d → c ≡ d
one-reading = spans-one

-- Answers

module _ (d : Declared) (hold : Bool) (s : List ℕ) where
  -- each number exactly when its row of the table is so
  pub judged_exactly : (n : ℕ) → (judged d hold s ≡ n) ↔ Judgement d hold s n
  unfolding judged
  judged_exactly n = (λ e. subst (Judgement d hold s) e (judgement d hold s (read_cond s) refl), λ j. judgement_given d hold s j)

  -- 4 exactly if longer than 64 bytes or not of the grammar
  pub four_exactly : (judged d hold s ≡ 4) ↔ ((longest < length s) ⊎ ((c : Cond) → SpansAll s c → ⊥))
  four_exactly =
      let j = judged_exactly 4 in
      (λ e. fours d hold s (j.0 e) refl, ⊎_elim (λ l. j.1 (too_long l)) (λ f. j.1 (no_condition f)))

-- an answer's number is that of no other answer
pub number_exactly : (r s : Result Unit Fault) → answer r ≡ answer s → r ≡ s
number_exactly = answer-is

-- bytes mean the condition that they stand for; bytes that stand for none never hold
pub meaning_exactly : (s : List ℕ) → ((c : Cond) → StandsFor s c → meaning s ≡ c) × (((c : Cond) → StandsFor s c → ⊥) → meaning s ≡ never)
meaning_exactly s = (stands_means s, none_means s)

module _ (v : View) (s : List ℕ) where
  -- bytes hold exactly if they stand for a condition that is true
  pub held_exactly : (held_by v s ≡ true) ↔ Holding v s
  unfolding meaning
  held_exactly = (holding v s (read_cond s) refl, λ h. stands_held v s h.says h.stands ∙ h.is_true)

  pub held_as : (c : Cond) → StandsFor s c → held_by v s ≡ true_in v c
  held_as = stands_held v s

-- no condition looks at what is latched
pub unlatched : (v : View) (w : ℕ) (c : Cond) → true_in (relatched v w) c ≡ true_in v c
unlatched = latched_unseen

-- Brackets. 02, P5: "a grammatical condition of at most 64 bytes never nests 33 deep (33 pairs and an atom need 67)". Said of the grammar alone.

-- so many pairs and an atom need so many bytes
pub pairs_need : {b : Bytes} {p : Part} {a e : ℕ} {c : Cond} (x : Spans b p a e c) → a + (2 * depth x + 1) ≤ e
pairs_need = brackets_need

module _ (s : List ℕ) (c : Cond) (x : SpansAll s c) where
  -- "33 pairs and an atom need 67"
  pub need_67 : 33 ≤ depth x → 67 ≤ length s
  need_67 q = let n = pairs_need x in omega arith

  -- "of at most 64 bytes never nests 33 deep"
  pub shallow : length s ≤ longest → depth x < 33
  shallow l = let n = pairs_need x in omega arith

  -- nor 32 deep
  pub at_most_31 : length s ≤ longest → depth x ≤ 31
  at_most_31 l = let n = pairs_need x in omega arith
