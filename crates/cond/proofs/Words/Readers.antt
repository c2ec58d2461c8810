-- The readers' private contracts, step by step: what the grammar's step makes of a part, the code's step makes of its word.
use mathlib.Core.Bool.{Bool, true, false, not}
use mathlib.Core.List.{List}
use mathlib.Core.Path.{◌≡◌, refl, sym, ap, ◌∙◌}
use Prim.Native.Char.{code}
use Prim.Native.Nat.{ℕ, zero, suc, ◌+◌, ◌-◌, ◌*◌, ◌/◌, ◌%◌, ◌<◌, ◌≤◌}
use native.Mathlib.Omega.{arith}
use borrow.Author.Tests.{eq-eqb, ne_eqb, le-leb, lt-leb}
use lib.Bits.{bit_or, bit_xor, or_lt, xor_lt}
use lib.Dec.{eqb}
use lib.ListN.{length}
use Rattle.text.specs.Bytes.{Bytes, byte_at}
use Rattle.cond.specs.declared.Declared.{Declared}
use Rattle.cond.specs.Bounds.{longest}
use Rattle.cond.specs.declared.View.{View}
use Rattle.cond.specs.Meaning.{Cond, both, either, true_in, undeclared, edged}
use Rattle.cond.specs.Grammar.{factor}
use Rattle.cond.specs.Reading.{Reading, got, none, only, atom_at, negated, closed, joined, more_if, more, begins_factor, factor_by, factor_at, term_at, cond_at, whole, read_cond}
use Rattle.cond.specs.Packed.{Marks, Noted, good, unnoted, marks, noted, mark, mark_word, pack, not_m, signed_m, signed, closed_s, only_s, join_m, more_if_s, more_s, and_m, or_m, no_term, no_factor, AndMore, OrMore, After, ClosedOf, CondOf, AfterOf}
use Rattle.cond.proofs.Grammar.Ends.{spans_past, spans-inside}
use Rattle.cond.proofs.Grammar.Sound.{Sound, spanned, nothing, sound_factor_at}
use Rattle.cond.proofs.Words.Marks.{mark_not, is-bad, place_of_lem, marks_of, terms_of, factors_of, signed_not, signed_false, factor_bits, term_bits, or_m_assoc, and_m_assoc, join_join, join_no_term, join_no_factor}

-- `noted` takes each step of a reading to the same step on what was noted
module _ (v : View) (d : Declared) where
  noted-negated : (o : Reading) → noted v d (negated o) ≡ signed true (noted v d o)
  unfolding negated true_in undeclared edged
  noted-negated (got c e) = refl
  noted-negated none = refl

  pub noted-only : (t : Bool) (o : Reading) → noted v d (only t o) ≡ only_s t (noted v d o)
  unfolding only
  noted-only true o = refl
  noted-only false o = refl

  noted-closed : (b : Bytes) (o : Reading) → noted v d (closed b o) ≡ closed_s b (noted v d o)
  unfolding closed
  noted-closed b (got c e) = noted-only (eqb (b e) (code ")")) (got c (e + 1))
  noted-closed b none = refl

  module _ (j : Cond → Cond → Cond) (k : Marks → Marks → Marks) (hom : (c e : Cond) → marks v d (j c e) ≡ k (marks v d c) (marks v d e)) where
    noted-joined : (c : Cond) (o : Reading) → noted v d (joined j c o) ≡ join_m k (marks v d c) (noted v d o)
    unfolding joined
    noted-joined c (got x e) = ap (good e) (hom c x)
    noted-joined c none = refl

    noted-more_if : (t : Bool) (f : ℕ → Reading) (c : Cond) (e : ℕ) → noted v d (more_if t j f c e) ≡ more_if_s t k (marks v d c) e (noted v d (f (e + 1)))
    unfolding more_if
    noted-more_if true f c e = noted-joined c (f (e + 1))
    noted-more_if false f c e = refl

    noted_more : (s : ℕ) (f : ℕ → Reading) (b : Bytes) (o : Reading) → noted v d (more s j f b o) ≡ more_s s k b (λ n. noted v d (f n)) (noted v d o)
    unfolding more
    noted_more s f b (got c e) = noted-more_if (eqb (b e) s) f c e
    noted_more s f b none = refl

-- one step of the readers
module _ (v : View) (d : Declared) (b : Bytes) (n a : ℕ) where
  cond_step : noted v d (cond_at (suc n) b a) ≡ OrMore v d b n (noted v d (term_at n b a))
  unfolding factor_at true_in undeclared edged
  cond_step = noted_more v d either or_m (λ c e. refl) (code "+") (λ k. cond_at n b k) b (term_at n b a)

  term-step : noted v d (term_at (suc n) b a) ≡ AndMore v d b n (noted v d (factor_at n b a))
  unfolding factor_at true_in undeclared edged
  term-step = noted_more v d both and_m (λ c e. refl) (code ".") (λ k. term_at n b k) b (factor_at n b a)

-- a condition, from its first factor
module _ (v : View) (d : Declared) (b : Bytes) (n a : ℕ) where
  cond_from : noted v d (cond_at (suc (suc n)) b a) ≡ After v d b no_term no_factor false n (suc n) (noted v d (factor_at n b a))
  cond_from =
      let f = noted v d (factor_at n b a) in
      cond_step v d b (suc n) a
      ∙ ap (OrMore v d b (suc n)) (term-step v d b n a ∙ ap (AndMore v d b n) (sym (signed_false f)) ∙ sym (join_no_factor (AndMore v d b n (signed false f))))
      ∙ sym (join_no_term (OrMore v d b (suc n) (join_m and_m no_factor (AndMore v d b n (signed false f)))))

-- what stands after a factor
module _ (v : View) (d : Declared) (b : Bytes) (o t : Marks) (negate : Bool) (e : ℕ) (m : Marks) where
  after_dot : (n k : ℕ) → b e ≡ code "."
      → After v d b o t negate (suc n) k (good e m) ≡ After v d b o (and_m t (signed_m negate m)) false n k (noted v d (factor_at n b (e + 1)))
  after_dot n k h =
      let u = signed_m negate m in
      rw (eq-eqb (b e) (code ".") h)
      (ap (λ y. join_m or_m o (OrMore v d b k y))
      (join_join and_m and_m_assoc t u (noted v d (term_at (suc n) b (e + 1)))
      ∙ ap (join_m and_m (and_m t u)) (term-step v d b n (e + 1) ∙ ap (AndMore v d b n) (sym (signed_false (noted v d (factor_at n b (e + 1))))))))

  after_plus : (n k : ℕ) → b e ≡ code "+"
      → After v d b o t negate n (suc (suc k)) (good e m) ≡ After v d b (or_m o (and_m t (signed_m negate m))) no_factor false k (suc k) (noted v d (factor_at k b (e + 1)))
  after_plus n k h =
      let u = and_m t (signed_m negate m) in
      let x = OrMore v d b (suc k) (join_m and_m no_factor (AndMore v d b k (signed false (noted v d (factor_at k b (e + 1)))))) in
      rw (ne_eqb (b e) (code ".") (λ p. omega arith), eq-eqb (b e) (code "+") h)
      (join_join or_m or_m_assoc o u (noted v d (cond_at (suc (suc k)) b (e + 1))) ∙ ap (join_m or_m (or_m o u)) (cond_from v d b k (e + 1) ∙ join_no_term x))

  after_end : (n k : ℕ) → (b e ≡ code "." → ⊥) → (b e ≡ code "+" → ⊥) → After v d b o t negate n k (good e m) ≡ good e (or_m o (and_m t (signed_m negate m)))
  after_end n k p q = rw (ne_eqb (b e) (code ".") p, ne_eqb (b e) (code "+") q)

-- A factor's word q, and the words of what was read with it

abbrev pub factors_word : ℕ → ℕ → ℕ → ℕ
factors_word acc q taken = bit_or (acc / 16) (bit_xor (q % 16) taken)

abbrev pub terms_word : ℕ → ℕ → ℕ → ℕ
terms_word acc q taken = bit_or (acc % 16) (bit_xor (factors_word acc q taken) 1)

module _ (acc q taken : ℕ) (l : acc < 256) (i : taken ≤ 1) where
  pub factors_low : factors_word acc q taken < 16
  factors_low = or_lt 4 (acc / 16) (bit_xor (q % 16) taken) (omega arith) (xor_lt 4 (q % 16) taken (omega arith) (omega arith))

  pub terms_low : terms_word acc q taken < 16
  terms_low = let f = factors_low in or_lt 4 (acc % 16) (bit_xor (factors_word acc q taken) 1) (omega arith) (xor_lt 4 (factors_word acc q taken) 1 f (omega arith))

module _ (o t : Marks) (negate : Bool) (acc taken q e : ℕ) (m : Marks) (h : acc ≡ mark_word o + 16 * mark_word (not_m t)) (w : taken ≡ mark (not negate)) (z : q ≡ pack (good e m)) where
  factors_word_lem : factors_word acc q taken ≡ mark_word (not_m (and_m t (signed_m negate m)))
  factors_word_lem = rw (factors_of o t acc h, marks_of q e m z, w) (factor_bits negate t m)

  terms_word_lem : terms_word acc q taken ≡ mark_word (or_m o (and_m t (signed_m negate m)))
  terms_word_lem = rw (factors_word_lem, terms_of o t acc h) (term_bits o (and_m t (signed_m negate m)))

-- p is the place after the factor
module _ (v : View) (d : Declared) (b : Bytes) (q acc taken r p : ℕ) (at_p : p ≡ q / 16) where
  pub after-factor : b p ≡ code "." → p < longest → CondOf v d b (p + 1) (acc % 16 + 16 * factors_word acc q taken) 1 r → AfterOf v d b q acc taken r
  after-factor s i g o t negate h w (good e m) z y zero k n' k' = absurd (omega arith)
  after-factor s i g o t negate h w (good e m) z y (suc n) k n' k' =
      let x = at_p ∙ place_of_lem q e m z in
      let u = and_m t (signed_m negate m) in
      g o u false (rw (factors_word_lem o t negate acc taken q e m h w z, terms_of o t acc h)) refl n n k (omega arith) (omega arith) (omega arith)
      ∙ rw x (sym (ap pack (after_dot v d b o t negate e m n k (ap b (sym x) ∙ s))))
  after-factor s i g o t negate h w unnoted z y n k n' k' = absurd (y refl)

  pub after-term : b p ≡ code "+" → p < longest → CondOf v d b (p + 1) (terms_word acc q taken) 1 r → AfterOf v d b q acc taken r
  after-term s i g o t negate h w (good e m) z y n zero n' k' = absurd (omega arith)
  after-term s i g o t negate h w (good e m) z y n (suc zero) n' k' = absurd (omega arith)
  after-term s i g o t negate h w (good e m) z y n (suc (suc k)) n' k' =
      let x = at_p ∙ place_of_lem q e m z in
      let u = or_m o (and_m t (signed_m negate m)) in
      g u no_factor false (rw (terms_word_lem o t negate acc taken q e m h w z) (omega arith)) refl k k (suc k) (omega arith) (omega arith) (omega arith)
      ∙ rw x (sym (ap pack (after_plus v d b o t negate e m n k (ap b (sym x) ∙ s))))
  after-term s i g o t negate h w unnoted z y n k n' k' = absurd (y refl)

  pub after_last : (b p ≡ code "." → ⊥) → (b p ≡ code "+" → ⊥) → AfterOf v d b q acc taken (q - q % 16 + terms_word acc q taken)
  after_last s f o t negate h w (good e m) z y n k n' k' =
      let x = at_p ∙ place_of_lem q e m z in
      let u = marks_of q e m z in
      rw (terms_word_lem o t negate acc taken q e m h w z, after_end v d b o t negate e m n k (λ c. s (ap b x ∙ c)) (λ c. f (ap b x ∙ c))) (omega arith)
  after_last s f o t negate h w unnoted z y n k n' k' = absurd (y refl)

-- The factor at a place: q is its word

abbrev pub FactorOf : View → Declared → Bytes → ℕ → ℕ → Type 0
FactorOf v d b a q = (m : ℕ) → 3 * (longest - a) < m → q ≡ pack (noted v d (factor_at m b a))

module _ (v : View) (d : Declared) (b : Bytes) (a q : ℕ) where
  pub factor_open : (r : ℕ) → b a ≡ code "(" → a < longest → CondOf v d b (a + 1) 0 1 r → ClosedOf b r q → FactorOf v d b a q
  unfolding factor_at begins_factor factor_by
  factor_open r e i h c zero p = absurd (omega arith)
  factor_open r e i h c (suc zero) p = absurd (omega arith)
  factor_open r e i h c (suc (suc zero)) p = absurd (omega arith)
  factor_open r e i h c (suc (suc (suc m))) p =
      let x = noted v d (cond_at (suc (suc m)) b (a + 1)) in
      let g : r ≡ pack x = h no_term no_factor false refl refl m m (suc m) (omega arith) (omega arith) (omega arith) ∙ sym (ap pack (cond_from v d b m (a + 1))) in
      rw e (c x g ∙ ap pack (sym (noted-closed v d b (cond_at (suc (suc m)) b (a + 1)))))

  pub factor-atom : (b a ≡ code "!" → ⊥) → (b a ≡ code "(" → ⊥) → q ≡ pack (noted v d (atom_at b a)) → FactorOf v d b a q
  unfolding factor_at begins_factor factor_by
  factor-atom f g h zero p = absurd (omega arith)
  factor-atom f g h (suc m) p = rw (ne_eqb (b a) (code "!") f, ne_eqb (b a) (code "(") g) h

-- a factor ends after its start and within the text
went_of : (v : View) (d : Declared) (s : List ℕ) (a q : ℕ) {o : Reading} → Sound (byte_at s) factor a o → q ≡ pack (noted v d o) → (q ≡ 8 → ⊥) → (a < q / 16) × (q / 16 ≤ length s)
went_of v d s a q (spanned c e x) h k = let z = place_of_lem q e (marks v d c) h in let i = spans_past x in let j = spans-inside s x in (omega arith, omega arith)
went_of v d s a q nothing h k = absurd (k h)

pub went_factor : (v : View) (d : Declared) (s : List ℕ) (a q : ℕ) → FactorOf v d (byte_at s) a q → (q ≡ 8 → ⊥) → (a < q / 16) × (q / 16 ≤ length s)
went_factor v d s a q h k =
    let m = suc (3 * (longest - a)) in
    went_of v d s a q (sound_factor_at m (byte_at s) a) (h m (omega arith)) k

-- The three ways of a condition's next factor

module _ (v : View) (d : Declared) (b : Bytes) (a acc taken q r : ℕ) where
  pub cond_bang : b a ≡ code "!" → a < longest → taken ≤ 1 → CondOf v d b (a + 1) acc (1 - taken) r → CondOf v d b a acc taken r
  unfolding factor_at begins_factor factor_by
  cond_bang e i l h o t negate p w zero n k m' n' k' = absurd (omega arith)
  cond_bang e i l h o t negate p w (suc m) n k m' n' k' =
      let y = noted v d (factor_at m b (a + 1)) in
      let x = mark_not (not negate) in
      rw e
      (h o t (not negate) p (omega arith) m n k (omega arith) (omega arith) (omega arith)
      ∙ ap (λ z. pack (join_m or_m o (OrMore v d b k (join_m and_m t (AndMore v d b n z)))))
      (signed_not negate y ∙ ap (signed negate) (sym (noted-negated v d (factor_at m b (a + 1))))))

  pub cond_bad : FactorOf v d b a q → q ≡ 8 → CondOf v d b a acc taken 8
  cond_bad f z o t negate p w m n k m' n' k' = rw (is-bad (noted v d (factor_at m b a)) (sym (f m m') ∙ z))

  pub cond_on : FactorOf v d b a q → (q ≡ 8 → ⊥) → a < q / 16 → AfterOf v d b q acc taken r → CondOf v d b a acc taken r
  cond_on f z l g o t negate p w m n k m' n' k' =
      let h = f m m' in g o t negate p w (noted v d (factor_at m b a)) h (λ u. z (h ∙ ap pack u)) n k (omega arith) (omega arith)

-- The whole text, read from its copy

abbrev whole_s : ℕ → Noted → Noted
whole_s n (good e m) = only_s (eqb e n) (good e m)
whole_s n unnoted = unnoted

module _ (v : View) (d : Declared) where
  noted-whole : (n : ℕ) (o : Reading) → noted v d (whole n o) ≡ whole_s n (noted v d o)
  unfolding whole
  noted-whole n (got c e) = noted-only v d (eqb e n) (got c e)
  noted-whole n none = refl

  pub long-none : (s : List ℕ) → longest < length s → 8 ≡ pack (noted v d (read_cond s))
  unfolding read_cond only
  long-none s h = rw (lt-leb (length s) longest h)

  module _ (s c : List ℕ) (r : ℕ) (l : length s ≤ longest) (copied : (a : ℕ) → byte_at c a ≡ byte_at s a) (h : CondOf v d (byte_at c) 0 0 1 r) where
    -- a reader sees a text through its bytes alone
    copy_read : r ≡ pack (noted v d (cond_at 195 (byte_at s) 0))
    copy_read =
        h no_term no_factor false refl refl 193 193 194 (omega arith) (omega arith) (omega arith)
        ∙ sym (ap pack (cond_from v d (byte_at c) 193 0))
        ∙ ap (λ (b : Bytes). pack (noted v d (cond_at 195 b 0))) (λ t a. copied a t)

    whole-read : noted v d (read_cond s) ≡ whole_s (length s) (noted v d (cond_at 195 (byte_at s) 0))
    unfolding read_cond only
    whole-read = rw (le-leb (length s) longest l) (noted-whole (length s) (cond_at 195 (byte_at s) 0))

    pub to_the_end : r / 16 ≡ length s → r ≡ pack (noted v d (read_cond s))
    to_the_end e = rw whole-read (go (noted v d (cond_at 195 (byte_at s) 0)) copy_read)
      where
        go : (x : Noted) → r ≡ pack x → r ≡ pack (whole_s (length s) x)
        go (good k m) q = let z = place_of_lem r k m q in rw (eq-eqb k (length s) (sym z ∙ e)) q
        go unnoted q = q

    pub not_to_the_end : (r / 16 ≡ length s → ⊥) → 8 ≡ pack (noted v d (read_cond s))
    not_to_the_end f = rw whole-read (go (noted v d (cond_at 195 (byte_at s) 0)) copy_read)
      where
        go : (x : Noted) → r ≡ pack x → 8 ≡ pack (whole_s (length s) x)
        go (good k m) q = let z = place_of_lem r k m q in rw (ne_eqb k (length s) (λ e. f (z ∙ e))) refl
        go unnoted q = refl
