-- The words that stand for what was read, and the steps on them.
use mathlib.Core.Bool.{Bool, true, false, not, ◌&&◌, not-not, and_assoc, or_assoc}
use mathlib.Core.Path.{◌≡◌, refl, sym, ap, ◌∙◌}
use Prim.Native.Char.{code}
use Prim.Native.Nat.{ℕ, ◌+◌, ◌/◌, ◌%◌, ◌<◌, ◌≤◌}
use native.Mathlib.Omega.{arith}
use borrow.Author.Tests.{eq-eqb, ne_eqb, eqb-true, eqb-false}
use lib.Bits.{bit_or, bit_xor}
use lib.Dec.{T, eqb, eqb→eq}
use Rattle.text.specs.Bytes.{Bytes}
use Rattle.cond.specs.Packed.{Marks, Noted, good, unnoted, mark, mark_word, pack, not_m, and_m, or_m, signed_m, signed, closed_s, join_m, acc_word, no_term, no_factor}

pub mark_le : (b : Bool) → mark b ≤ 1
mark_le true = omega arith
mark_le false = omega arith

pub mark_not : (b : Bool) → mark (not b) + mark b ≡ 1
mark_not true = refl
mark_not false = refl

pub mark_word_lt : (m : Marks) → mark_word m < 8
mark_word_lt m = let a = mark_le m.edge in let b = mark_le m.undeclared in let c = mark_le m.value in omega arith

pub is-bad : (x : Noted) → pack x ≡ 8 → x ≡ unnoted
is-bad (good e m) h = let f = mark_word_lt m in absurd (omega arith)
is-bad unnoted h = refl

-- what a test for no part says
module _ (r : ℕ) (t : Bool) (h : t ≡ eqb r 8) where
  pub none_yes : t ≡ true → r ≡ 8
  none_yes q = eqb-true r 8 (sym h ∙ q)

  pub none_no : t ≡ false → r ≡ 8 → ⊥
  none_no q = eqb-false r 8 (sym h ∙ q)

-- the place in a word, and the marks
pub place_of_lem : (r e : ℕ) (m : Marks) → r ≡ pack (good e m) → r / 16 ≡ e
place_of_lem r e m h = let f = mark_word_lt m in omega arith

pub marks_of : (r e : ℕ) (m : Marks) → r ≡ pack (good e m) → r % 16 ≡ mark_word m
marks_of r e m h = let f = mark_word_lt m in omega arith

-- the two parts of what was read before
module _ (o t : Marks) (acc : ℕ) (h : acc ≡ acc_word o t) where
  pub terms_of : acc % 16 ≡ mark_word o
  terms_of = let a = mark_word_lt o in let b = mark_word_lt (not_m t) in omega arith

  pub factors_of : acc / 16 ≡ mark_word (not_m t)
  factors_of = let a = mark_word_lt o in let b = mark_word_lt (not_m t) in omega arith

-- `!`

not_m_twice : (m : Marks) → not_m (not_m m) ≡ m
not_m_twice m = λ t. record { value = not-not m.value t; undeclared = m.undeclared; edge = m.edge }

pub signed_not : (b : Bool) (x : Noted) → signed (not b) x ≡ signed b (signed true x)
signed_not true (good e m) = ap (good e) (sym (not_m_twice m))
signed_not false (good e m) = refl
signed_not b unnoted = refl

pub signed_false : (x : Noted) → signed false x ≡ x
signed_false (good e m) = refl
signed_false unnoted = refl

-- `)`

module _ (b : Bytes) (r : ℕ) where
  pub closed_none : (x : Noted) → r ≡ pack x → r ≡ 8 → 8 ≡ pack (closed_s b x)
  closed_none (good e m) h q = let f = mark_word_lt m in absurd (omega arith)
  closed_none unnoted h q = refl

  pub closed_yes : (x : Noted) → r ≡ pack x → (r ≡ 8 → ⊥) → b (r / 16) ≡ code ")" → r + 16 ≡ pack (closed_s b x)
  closed_yes (good e m) h k q = let z = place_of_lem r e m h in rw (eq-eqb (b e) (code ")") (ap b (sym z) ∙ q)) (omega arith)
  closed_yes unnoted h k q = absurd (k h)

  pub closed_no : (x : Noted) → r ≡ pack x → (b (r / 16) ≡ code ")" → ⊥) → 8 ≡ pack (closed_s b x)
  closed_no (good e m) h q = let z = place_of_lem r e m h in rw (ne_eqb (b e) (code ")") (λ p. q (ap b z ∙ p))) refl
  closed_no unnoted h q = refl

-- `.` and `+` on the words: one computed test over all marks

every : (Bool → Bool) → Bool
every p = p true && p false

every_at : (p : Bool → Bool) → T (every p) → (b : Bool) → T (p b)
unfolding every
every_at p h b = go (p true) (p false) refl refl h b
  where
    go : (x y : Bool) → p true ≡ x → p false ≡ y → T (x && y) → (b : Bool) → T (p b)
    go true true e f h true = rw e tt
    go true true e f h false = rw f tt
    go true false e f h b = absurd h
    go false y e f h b = absurd h

every_marks : (Marks → Bool) → Bool
every_marks p = every (λ a. every (λ b. every (λ c. p (record { value = a; undeclared = b; edge = c }))))

every_marks-at : (p : Marks → Bool) → T (every_marks p) → (m : Marks) → T (p m)
unfolding every_marks
every_marks-at p h m =
    every_at (λ c. p (record { value = m.value; undeclared = m.undeclared; edge = c }))
    (every_at (λ b. every (λ c. p (record { value = m.value; undeclared = b; edge = c })))
    (every_at (λ a. every (λ b. every (λ c. p (record { value = a; undeclared = b; edge = c })))) h m.value) m.undeclared) m.edge

module _ (f g : Marks → Marks → ℕ) where
  same_test : Bool
  same_test = every_marks (λ m. every_marks (λ n. eqb (f m n) (g m n)))

  by_test : T same_test → (m n : Marks) → f m n ≡ g m n
  unfolding same_test
  by_test h m n =
      eqb→eq (f m n) (g m n)
      (every_marks-at (λ n. eqb (f m n) (g m n)) (every_marks-at (λ m. every_marks (λ n. eqb (f m n) (g m n))) h m) n)

-- one factor more
pub factor_bits : (negate : Bool) (t m : Marks) → bit_or (mark_word (not_m t)) (bit_xor (mark_word m) (mark (not negate))) ≡ mark_word (not_m (and_m t (signed_m negate m)))
unfolding same_test every_marks every
factor_bits true = by_test (λ t m. bit_or (mark_word (not_m t)) (bit_xor (mark_word m) 0)) (λ t m. mark_word (not_m (and_m t (not_m m)))) tt
factor_bits false = by_test (λ t m. bit_or (mark_word (not_m t)) (bit_xor (mark_word m) 1)) (λ t m. mark_word (not_m (and_m t m))) tt

-- one term more
pub term_bits : (o t : Marks) → bit_or (mark_word o) (bit_xor (mark_word (not_m t)) 1) ≡ mark_word (or_m o t)
unfolding same_test every_marks every
term_bits = by_test (λ o t. bit_or (mark_word o) (bit_xor (mark_word (not_m t)) 1)) (λ o t. mark_word (or_m o t)) tt

-- Joining is associative, so that what is left can be joined to what was read.

pub or_m_assoc : (a b c : Marks) → or_m (or_m a b) c ≡ or_m a (or_m b c)
or_m_assoc a b c = λ t. record {
  value = or_assoc a.value b.value c.value t;
  undeclared = or_assoc a.undeclared b.undeclared c.undeclared t;
  edge = or_assoc a.edge b.edge c.edge t;
}

pub and_m_assoc : (a b c : Marks) → and_m (and_m a b) c ≡ and_m a (and_m b c)
and_m_assoc a b c = λ t. record {
  value = and_assoc a.value b.value c.value t;
  undeclared = or_assoc a.undeclared b.undeclared c.undeclared t;
  edge = or_assoc a.edge b.edge c.edge t;
}

pub join_join : (j : Marks → Marks → Marks) → ((a b c : Marks) → j (j a b) c ≡ j a (j b c)) → (a b : Marks) (x : Noted) → join_m j a (join_m j b x) ≡ join_m j (j a b) x
join_join j assoc a b (good e c) = ap (good e) (sym (assoc a b c))
join_join j assoc a b unnoted = refl

pub join_no_term : (x : Noted) → join_m or_m no_term x ≡ x
join_no_term (good e m) = refl
join_no_term unnoted = refl

pub join_no_factor : (x : Noted) → join_m and_m no_factor x ≡ x
join_no_factor (good e m) = refl
join_no_factor unnoted = refl
