-- What is read spans what the grammar says: for every part, every text and every fuel.
use mathlib.Core.Bool.{Bool, true, false, cond}
use mathlib.Core.Path.{◌≡◌, refl}
use Prim.Native.Char.{code}
use Prim.Native.Nat.{ℕ, zero, suc, ◌+◌, ◌<◌}
use native.Mathlib.Omega.{arith}
use borrow.Author.Tests.{eqb-true, leb-true}
use lib.Dec.{eqb, leb}
use Rattle.text.specs.Bytes.{Bytes}
use Rattle.text.specs.Numbers.{Found, Digits, first, next, number}
use Rattle.std.specs.Prelude.{Some, None}
use Rattle.text.proofs.Laws.{digit-is}
use Rattle.text.proofs.Numbers.{digits_past, number_sound}
use Rattle.cond.specs.Bounds.{slowest, most_digits}
use Rattle.cond.specs.Meaning.{AtomKind, step, input, delay, Cond, always, never, item, neg, both, either}
use Rattle.cond.specs.Grammar.{Numeral, Atom, true', false', step', input', step-up, step_down, input-up, input_down, on-delay, Part, factor, term, condition, Spans, negation, bracketed, atom, one-factor, more_factors, one-term, more_terms}
use Rattle.cond.specs.Reading.{Reading, got, none, only, numbered, indexed, step_edge, input_edge, edge_at, plain, delay_at, timed, atom_at, negated, closed, joined, more_if, more, a_bang, a_bracket, an_atom, begins_factor, factor_by, factor_at, term_at, cond_at}

-- what is read as a part spans it
pub data Sound (b : Bytes) (p : Part) (a : ℕ) : Reading → Type 0 where
  spanned : (c : Cond) (e : ℕ) → Spans b p a e c → Sound b p a (got c e)
  nothing : Sound b p a none

-- digits that make 0 begin with a 0
zero_lead : (b : Bytes) (a e v : ℕ) → Digits b a e v → v ≡ 0 → b a ≡ code "0"
zero_lead b a e v (first h) z = let i = digit-is (b a) h in omega arith
zero_lead b a e v (next e' v' d h) z = zero_lead b a e' v' d (omega arith)

-- a number below 2 is the one digit
one-digit : (b : Bytes) (a e v : ℕ) → v < 2 → (b a ≡ code "0" → e ≡ a + 1) → Digits b a e v → (e ≡ a + 1) × (b a ≡ code "0" + v)
one-digit b a e v l z (first h) = let i = digit-is (b a) h in (refl, omega arith)
one-digit b a e v l z (next e' v' d h) =
    let q = zero_lead b a e' v' d (omega arith) in
    let w = z q in
    let i = digits_past b a e' v' d in
    absurd (omega arith)

module _ (b : Bytes) (a : ℕ) where
  sound_only : (p : Part) (t : Bool) {o : Reading} → (t ≡ true → Sound b p a o) → Sound b p a (only t o)
  unfolding only
  sound_only p true h = h refl
  sound_only p false h = nothing

  sound_cond : (p : Part) (t : Bool) {o q : Reading} → (t ≡ true → Sound b p a o) → (t ≡ false → Sound b p a q) → Sound b p a (cond t o q)
  sound_cond p true h k = h refl
  sound_cond p false h k = k refl

  sound_indexed : (m : ℕ) (k : AtomKind) → ((e v : ℕ) → Numeral b m e v → Atom b a e (item k v)) → Sound b factor a (indexed k b m)
  unfolding indexed numbered
  sound_indexed m k f = go (number most_digits b m) refl
    where
      go : (x : Found) → number most_digits b m ≡ x → Sound b factor a (numbered k x)
      go (Some (v, e)) q = spanned (item k v) e (atom a e (item k v) (f e v (number_sound most_digits b m e v (omega arith) q).is))
      go None q = nothing

  sound_edge : (rising : Bool) → (b (a + 1) ≡ code "x" → (e v : ℕ) → Numeral b (a + 1 + 1) e v → Atom b a e (item (step_edge rising) v))
      → (b (a + 1) ≡ code "i" → (e v : ℕ) → Numeral b (a + 1 + 1) e v → Atom b a e (item (input_edge rising) v)) → Sound b factor a (edge_at rising b (a + 1))
  unfolding edge_at
  sound_edge rising f g =
      sound_cond factor (eqb (b (a + 1)) (code "x")) (λ h. sound_indexed (a + 1 + 1) (step_edge rising) (f (eqb-true _ _ h)))
      (λ _. sound_only factor (eqb (b (a + 1)) (code "i")) (λ h. sound_indexed (a + 1 + 1) (input_edge rising) (g (eqb-true _ _ h))))

  sound_plain : (v e : ℕ) → Numeral b a e v → Sound b factor a (plain v e)
  unfolding plain
  sound_plain v e n =
      sound_cond factor (eqb v 0)
      (λ h. let z = eqb-true v 0 h in let w = one-digit b a e v (omega arith) n.lead n.digits in rw w.0 (spanned never (a + 1) (atom a (a + 1) never (false' (omega arith)))))
      (λ _. sound_only factor (eqb v 1)
      (λ h. let z = eqb-true v 1 h in let w = one-digit b a e v (omega arith) n.lead n.digits in rw w.0 (spanned always (a + 1) (atom a (a + 1) always (true' (omega arith))))))

  sound_delay : (v e : ℕ) → Numeral b a e v → b e ≡ code "/" → Sound b factor a (delay_at b (e + 1) v)
  unfolding delay_at
  sound_delay v e n s =
      sound_only factor (leb 1 v) (λ lo. sound_only factor (leb v slowest) (λ hi. sound_only factor (eqb (b (e + 1)) (code "x")) (λ x. sound_indexed (e + 1 + 1) (delay v)
      (λ f k m. on-delay e v f k n (leb-true 1 v lo) (leb-true v slowest hi) s (eqb-true _ _ x) m))))

  sound_timed : Sound b factor a (timed b (number most_digits b a))
  unfolding timed
  sound_timed = go (number most_digits b a) refl
    where
      go : (x : Found) → number most_digits b a ≡ x → Sound b factor a (timed b x)
      go (Some (v, e)) q =
          let n = (number_sound most_digits b a e v (omega arith) q).is in
          sound_cond factor (eqb (b e) (code "/")) (λ h. sound_delay v e n (eqb-true _ _ h)) (λ _. sound_plain v e n)
      go None q = nothing

  sound_atom : Sound b factor a (atom_at b a)
  unfolding atom_at
  sound_atom =
      sound_cond factor (eqb (b a) (code "x")) (λ h. sound_indexed (a + 1) step (λ e v n. step' e v (eqb-true _ _ h) n))
      (λ _. sound_cond factor (eqb (b a) (code "i")) (λ h. sound_indexed (a + 1) input (λ e v n. input' e v (eqb-true _ _ h) n))
      (λ _. sound_cond factor (eqb (b a) (code "u")) (λ h. sound_edge true (λ x e v n. step-up e v (eqb-true _ _ h) x n) (λ x e v n. input-up e v (eqb-true _ _ h) x n))
      (λ _. sound_cond factor (eqb (b a) (code "d")) (λ h. sound_edge false (λ x e v n. step_down e v (eqb-true _ _ h) x n) (λ x e v n. input_down e v (eqb-true _ _ h) x n))
      (λ _. sound_timed))))

  sound_negated : b a ≡ code "!" → {o : Reading} → Sound b factor (a + 1) o → Sound b factor a (negated o)
  unfolding negated
  sound_negated h (spanned c e p) = spanned (neg c) e (negation a e c h p)
  sound_negated h nothing = nothing

  sound_closed : b a ≡ code "(" → {o : Reading} → Sound b condition (a + 1) o → Sound b factor a (closed b o)
  unfolding closed
  sound_closed h (spanned c e p) = sound_only factor (eqb (b e) (code ")")) (λ q. spanned c (e + 1) (bracketed a e c h p (eqb-true _ _ q)))
  sound_closed h nothing = nothing

  sound_factor : (f g : ℕ → Reading) → Sound b factor (a + 1) (f (a + 1)) → Sound b condition (a + 1) (g (a + 1)) → Sound b factor a (factor_by (begins_factor (b a)) f g b a)
  unfolding begins_factor factor_by
  sound_factor f g p q = go (eqb (b a) (code "!")) refl (eqb (b a) (code "(")) refl
    where
      go : (x : Bool) → eqb (b a) (code "!") ≡ x → (y : Bool) → eqb (b a) (code "(") ≡ y → Sound b factor a (factor_by (cond x a_bang (cond y a_bracket an_atom)) f g b a)
      go true h y k = sound_negated (eqb-true _ _ h) p
      go false h true k = sound_closed (eqb-true _ _ k) q
      go false h false k = sound_atom

  sound_joined : (p : Part) (j : Cond → Cond → Cond) (c : Cond) (m : ℕ) → ((d : Cond) (e : ℕ) → Spans b p (m + 1) e d → Spans b p a e (j c d)) → {o : Reading} → Sound b p (m + 1) o → Sound b p a (joined j c o)
  unfolding joined
  sound_joined p j c m f (spanned d e q) = spanned (j c d) e (f d e q)
  sound_joined p j c m f nothing = nothing

  -- a part p, or several joined by the byte s, make a part q
  sound_more : (p q : Part) (s : ℕ) (j : Cond → Cond → Cond) (f : ℕ → Reading) → ((c : Cond) (e : ℕ) → Spans b p a e c → Spans b q a e c)
      → ((c d : Cond) (m e : ℕ) → Spans b p a m c → b m ≡ s → Spans b q (m + 1) e d → Spans b q a e (j c d))
      → ((k : ℕ) → Sound b q k (f k)) → {o : Reading} → Sound b p a o → Sound b q a (more s j f b o)
  unfolding more more_if
  sound_more p q s j f one two h (spanned c e x) = go (eqb (b e) s) refl
    where
      go : (t : Bool) → eqb (b e) s ≡ t → Sound b q a (more_if t j f c e)
      go true r = sound_joined q j c e (λ d e' y. two c d e e' x (eqb-true _ _ r) y) (h (e + 1))
      go false r = spanned c e (one c e x)
  sound_more p q s j f one two h nothing = nothing

mutual
  unfolding factor_at

  pub sound_factor_at : (n : ℕ) (b : Bytes) (a : ℕ) → Sound b factor a (factor_at n b a)
  sound_factor_at zero b a = nothing
  sound_factor_at (suc n) b a = sound_factor b a (λ k. factor_at n b k) (λ k. cond_at n b k) (sound_factor_at n b (a + 1)) (sound_cond_at n b (a + 1))

  sound_term_at : (n : ℕ) (b : Bytes) (a : ℕ) → Sound b term a (term_at n b a)
  sound_term_at zero b a = nothing
  sound_term_at (suc n) b a = sound_more b a factor term (code ".") both (λ k. term_at n b k) (λ c e x. one-factor a e c x) (λ c d m e x h y. more_factors a m e c d x h y) (λ k. sound_term_at n b k) (sound_factor_at n b a)

  pub sound_cond_at : (n : ℕ) (b : Bytes) (a : ℕ) → Sound b condition a (cond_at n b a)
  sound_cond_at zero b a = nothing
  sound_cond_at (suc n) b a = sound_more b a term condition (code "+") either (λ k. cond_at n b k) (λ c e x. one-term a e c x) (λ c d m e x h y. more_terms a m e c d x h y) (λ k. sound_cond_at n b k) (sound_term_at n b a)
