-- Words and lists of numbers: the items of a word are a list's numbers, each once and rising.
use mathlib.Core.Bool.{Bool, false, cond, ◌||◌, or-true, or-false, or_assoc, false≢true}
use mathlib.Core.List.{List, [], ◌∷◌, ◌++◌}
use mathlib.Core.Path.{◌≡◌, refl, sym, ap, ◌∙◌}
use Prim.Native.Nat.{ℕ, zero, suc, ◌+◌, ◌<◌, ◌≤◌}
use native.Mathlib.Omega.{arith}
use borrow.Author.Tests.{eq-eqb, ne_eqb}
use lib.Bits.{bit_or}
use lib.Dec.{eqb}
use Rattle.text.specs.Members.{is_among}
use Rattle.text.specs.Words.{has, bit_at}
use Rattle.text.proofs.Items.{has_zero}
use Rattle.text.proofs.Words.{has_more}
use Rattle.writer.specs.Lines.{items_from, word_items}
use Rattle.sfc.specs.Chart.{ascending_from, ascending}

-- all numbers of a list are below n
abbrev Below : ℕ → List ℕ → Type 0
Below n l = (j : ℕ) → n ≤ j → is_among j l ≡ false

-- a word has the numbers of a list as its items, and all of them are below n
pub record Marks (n w : ℕ) (l : List ℕ) : Type 0 where
  pub is : (j : ℕ) → j < 32 → has w j ≡ is_among j l
  pub low : (j : ℕ) → 32 ≤ j → is_among j l ≡ false
  pub lower : (j : ℕ) → n ≤ j → is_among j l ≡ false

-- no number is in a list from j on
none-rising : (n j : ℕ) (l : List ℕ) → Below j l → ascending_from n j l ≡ []
unfolding ascending_from
none-rising zero j l b = refl
none-rising (suc n) j l b = rw (b j (omega arith)) (none-rising n (j + 1) l (λ i h. b i (omega arith)))

-- items that are looked at from j on, and numbers of a list from j on
items_rise : (k n j w : ℕ) (l : List ℕ) → ((i : ℕ) → j ≤ i → i < j + k → has w i ≡ is_among i l) → Below (j + k) l → Below (j + n) l → items_from k j w ≡ ascending_from n j l
unfolding items_from ascending_from
items_rise zero zero j w l e a b = refl
items_rise zero (suc n) j w l e a b = sym (none-rising (suc n) j l (λ i h. a i (omega arith)))
items_rise (suc k) zero j w l e a b =
    let z : has w j ≡ false = e j (omega arith) (omega arith) ∙ b j (omega arith) in
    rw z (items_rise k zero (j + 1) w l (λ i h o. e i (omega arith) (omega arith)) (λ i h. a i (omega arith)) (λ i h. b i (omega arith)))
items_rise (suc k) (suc n) j w l e a b =
    go (has w j) (is_among j l) (e j (omega arith) (omega arith))
    (items_rise k n (j + 1) w l (λ i h o. e i (omega arith) (omega arith)) (λ i h. a i (omega arith)) (λ i h. b i (omega arith)))
  where
    go : (x y : Bool) → x ≡ y → items_from k (j + 1) w ≡ ascending_from n (j + 1) l
        → cond x (j ∷ items_from k (j + 1) w) (items_from k (j + 1) w) ≡ cond y (j ∷ ascending_from n (j + 1) l) (ascending_from n (j + 1) l)
    go x y p q = rw (p, q)

-- the items of a word, as the code lists them, are the list that rises
pub marked : (n w : ℕ) (l : List ℕ) → Marks n w l → word_items w ≡ ascending n l
marked n w l g = items_rise 32 n 0 w l (λ i h o. g.is i (omega arith)) (λ i h. g.low i (omega arith)) (λ i h. g.lower i (omega arith))

-- no item
pub marks-none : (n : ℕ) → Marks n 0 []
unfolding is_among
marks-none n = record { is = λ j h. has_zero j; low = λ j h. refl; lower = λ j h. refl }

-- a number more at the end of a list
among-last : (j v : ℕ) (l : List ℕ) → is_among j (l ++ v ∷ []) ≡ (is_among j l || eqb v j)
unfolding is_among
among-last j v [] = or-false (eqb v j)
among-last j v (u ∷ l) = rw (among-last j v l) (sym (or_assoc (eqb u j) (is_among j l) (eqb v j)))

-- one number more
pub marks-more : (n w v : ℕ) (l : List ℕ) → v < n → v < 32 → Marks n w l → Marks n (bit_or w (bit_at v)) (l ++ v ∷ [])
marks-more n w v l h k g =
    record {
      is = λ j o. has_more w v j o ∙ rw (g.is j o) (sym (among-last j v l));
      low = λ j o. among-last j v l ∙ rw (g.low j o, ne_eqb v j (λ e. omega arith));
      lower = λ j o. among-last j v l ∙ rw (g.lower j o, ne_eqb v j (λ e. omega arith));
    }

-- a word with an item is not 0
pub word_some : (w v : ℕ) → v < 32 → eqb (bit_or w (bit_at v)) 0 ≡ false
word_some w v h =
    ne_eqb (bit_or w (bit_at v)) 0 (λ e.
    false≢true (sym (has_zero v) ∙ ap (λ (x : ℕ). has x v) (sym e) ∙ has_more w v v h ∙ rw (eq-eqb v v refl) (or-true (has w v))))
