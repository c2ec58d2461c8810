-- From the word of a whole text to the answers about it.
use mathlib.Core.Bool.{Bool, true, false, ◌&&◌}
use mathlib.Core.Path.{◌≡◌, refl, sym}
use Prim.Native.Nat.{ℕ, ◌/◌, ◌%◌}
use native.Mathlib.Omega.{arith}
use lib.Dec.{eqb}
use Rattle.cond.specs.declared.Declared.{Declared}
use Rattle.cond.specs.Lowest.{given, lower}
use Rattle.cond.specs.declared.View.{View}
use Rattle.cond.specs.Meaning.{true_in, undeclared, edged}
use Rattle.cond.specs.Reading.{Reading, got, none}
use Rattle.cond.specs.Judging.{judged_as, meant_as}
use Rattle.cond.specs.Packed.{noted, marks, mark, pack}
use Rattle.cond.proofs.Judging.Lowest.{six-lower}
use Rattle.cond.proofs.Words.Marks.{mark_le, mark_word_lt}

mark_eqb : (b : Bool) (n : ℕ) → n ≡ mark b → eqb n 1 ≡ b
mark_eqb true n h = rw h
mark_eqb false n h = rw h

module _ (v : View) (d : Declared) (r : ℕ) where
  pub value-bit : (x : Reading) → r ≡ pack (noted v d x) → eqb (r % 2) 1 ≡ true_in v (meant_as x)
  unfolding meant_as true_in
  value-bit (got c e) h = let a = mark_le (true_in v c) in mark_eqb (true_in v c) (r % 2) (omega arith)
  value-bit none h = rw h

  module _ (hold : Bool) where
    pub answer_4 : (x : Reading) → r ≡ pack (noted v d x) → r ≡ 8 → 4 ≡ judged_as d hold x
    unfolding judged_as
    answer_4 (got c e) h q = let f = mark_word_lt (marks v d c) in absurd (omega arith)
    answer_4 none h q = refl

    -- the lowest of the faults that are there, by their bits
    answer_by : (x : Reading) → r ≡ pack (noted v d x) → (r ≡ 8 → ⊥) → (n : ℕ) → n ≡ lower (given 6 (eqb (r / 2 % 2) 1)) (given 7 (hold && eqb (r / 4 % 2) 1)) → n ≡ judged_as d hold x
    unfolding judged_as
    answer_by (got c e) h q n p =
        let a = mark_le (true_in v c) in
        let b = mark_le (undeclared d c) in
        let f = mark_le (edged c) in
        let u = mark_eqb (undeclared d c) (r / 2 % 2) (omega arith) in
        let w = mark_eqb (edged c) (r / 4 % 2) (omega arith) in
        rw (← u, ← w) p
    answer_by none h q n p = absurd (q h)

    module _ (x : Reading) (h : r ≡ pack (noted v d x)) (q : r ≡ 8 → ⊥) where
      pub answer_6 : eqb (r / 2 % 2) 1 ≡ true → 6 ≡ judged_as d hold x
      answer_6 u = answer_by x h q 6 (rw u (sym (six-lower (hold && eqb (r / 4 % 2) 1))))

      module _ (u : eqb (r / 2 % 2) 1 ≡ false) where
        pub answer_7 : (hold && eqb (r / 4 % 2) 1) ≡ true → 7 ≡ judged_as d hold x
        answer_7 e = answer_by x h q 7 (rw (u, e))

        pub answer_0 : (hold && eqb (r / 4 % 2) 1) ≡ false → 0 ≡ judged_as d hold x
        answer_0 e = answer_by x h q 0 (rw (u, e))
