-- What the grammar says is read, where no byte follows that would go on.
use mathlib.Core.Bool.{true, false, cond}
use mathlib.Core.Path.{◌≡◌, refl, sym, ap, ◌∙◌}
use Prim.Native.Char.{code}
use Prim.Native.Nat.{ℕ, zero, suc, ◌+◌, ◌-◌, ◌*◌, ◌<◌}
use native.Mathlib.Omega.{arith}
use borrow.Author.Tests.{eq-eqb, ne_eqb, le-leb}
use lib.Dec.{eqb}
use Rattle.text.specs.Bytes.{Bytes}
use Rattle.text.specs.Numbers.{is_digit, first, number}
use Rattle.std.specs.Prelude.{Some}
use Rattle.text.proofs.Laws.{digit-is}
use Rattle.text.proofs.Numbers.{digits-first, number_complete}
use Rattle.cond.specs.Bounds.{slowest, most_digits}
use Rattle.cond.specs.Meaning.{AtomKind, step, input, step_up_kind, step_down_kind, input_up_kind, input_down_kind, delay, Cond, item, neg, both, either}
use Rattle.cond.specs.Grammar.{Numeral, Atom, true', false', step', input', step-up, step_down, input-up, input_down, on-delay, Part, factor, term, condition, Spans, negation, bracketed, atom, one-factor, more_factors, one-term, more_terms}
use Rattle.cond.specs.Reading.{Reading, got, only, numbered, indexed, edge_at, plain, delay_at, timed, atom_at, negated, closed, joined, more_if, more, an_atom, begins_factor, factor_by, factor_at, term_at, cond_at}
use Rattle.cond.proofs.Grammar.Ends.{spans_past}

-- a byte after which neither a number nor an on-delay goes on
pub record Stops (b : ℕ) : Type 0 where
  pub no_digit : is_digit b ≡ false
  pub no_slash : b ≡ code "/" → ⊥

stops_at : (b n : ℕ) → b ≡ n → is_digit n ≡ false → (n ≡ code "/" → ⊥) → Stops b
stops_at b n e d f = record { no_digit = ap is_digit e ∙ d; no_slash = λ h. f (sym e ∙ h) }

read-indexed : (b : Bytes) (a e v : ℕ) (k : AtomKind) → Numeral b a e v → is_digit (b e) ≡ false → indexed k b a ≡ got (item k v) e
unfolding indexed numbered
read-indexed b a e v k n f = rw (number_complete most_digits b a e v n f)

read-one-digit : (b : Bytes) (a : ℕ) → is_digit (b a) ≡ true → is_digit (b (a + 1)) ≡ false → number most_digits b a ≡ Some (b a - 48, a + 1)
read-one-digit b a h f = number_complete most_digits b a (a + 1) (b a - 48) (record { digits = first h; short = omega arith; lead = λ _. refl }) f

-- at a digit an atom is read by its number
module _ (b : Bytes) (a : ℕ) where
  atom-timed : (v m : ℕ) → is_digit (b a) ≡ true → number most_digits b a ≡ Some (v, m) → atom_at b a ≡ cond (eqb (b m) (code "/")) (delay_at b (m + 1) v) (plain v m)
  unfolding atom_at timed
  atom-timed v m h q =
      let i = digit-is (b a) h in
      rw (ne_eqb (b a) (code "x") (λ e. omega arith), ne_eqb (b a) (code "i") (λ e. omega arith), ne_eqb (b a) (code "u") (λ e. omega arith), ne_eqb (b a) (code "d") (λ e. omega arith), q)

  read-atom : (e : ℕ) (c : Cond) → Stops (b e) → Atom b a e c → atom_at b a ≡ got c e
  unfolding atom_at edge_at
  read-atom e c p (true' h) =
      let d : is_digit (b a) ≡ true = rw h in
      atom-timed _ _ d (read-one-digit b a d p.no_digit) ∙ unfold plain only in rw (h, ne_eqb _ _ p.no_slash)
  read-atom e c p (false' h) =
      let d : is_digit (b a) ≡ true = rw h in
      atom-timed _ _ d (read-one-digit b a d p.no_digit) ∙ unfold plain in rw (h, ne_eqb _ _ p.no_slash)
  read-atom e c p (step' i k h n) = rw h (read-indexed b (a + 1) i k step n p.no_digit)
  read-atom e c p (input' i k h n) = rw h (read-indexed b (a + 1) i k input n p.no_digit)
  read-atom e c p (step-up i k h x n) = rw (h, x) (read-indexed b (a + 1 + 1) i k step_up_kind n p.no_digit)
  read-atom e c p (step_down i k h x n) = rw (h, x) (read-indexed b (a + 1 + 1) i k step_down_kind n p.no_digit)
  read-atom e c p (input-up i k h x n) = unfold only in rw (h, x) (read-indexed b (a + 1 + 1) i k input_up_kind n p.no_digit)
  read-atom e c p (input_down i k h x n) = unfold only in rw (h, x) (read-indexed b (a + 1 + 1) i k input_down_kind n p.no_digit)
  read-atom e c p (on-delay m t i k n lo hi s x r) =
      atom-timed t m (digits-first b a m t n.digits) (number_complete most_digits b a m t n (rw s))
      ∙ unfold delay_at only in rw (s, le-leb 1 t lo, le-leb t slowest hi, x) (read-indexed b (m + 1 + 1) i k (delay t) r p.no_digit)

-- what may follow each part, the reader of each part, and the fuel that it wants
abbrev pub Follows : Part → ℕ → Type 0
Follows factor s = Stops s
Follows term s = Stops s × (s ≡ code "." → ⊥)
Follows condition s = Stops s × (s ≡ code "." → ⊥) × (s ≡ code "+" → ⊥)

abbrev pub reader : Part → ℕ → Bytes → ℕ → Reading
reader factor n b a = factor_at n b a
reader term n b a = term_at n b a
reader condition n b a = cond_at n b a

abbrev pub rank : Part → ℕ
rank factor = 0
rank term = 1
rank condition = 2

-- what is read up to a place ends there, or goes on
more-ends : (s : ℕ) (j : Cond → Cond → Cond) (f : ℕ → Reading) (b : Bytes) (o : Reading) (c : Cond) (e : ℕ) → o ≡ got c e → (b e ≡ s → ⊥) → more s j f b o ≡ got c e
unfolding more more_if
more-ends s j f b o c e q h = rw (q, ne_eqb _ _ h)

more_joins : (s : ℕ) (j : Cond → Cond → Cond) (f : ℕ → Reading) (b : Bytes) (o : Reading) (c d : Cond) (m e : ℕ) → o ≡ got c m → b m ≡ s → f (m + 1) ≡ got d e → more s j f b o ≡ got (j c d) e
unfolding more more_if joined
more_joins s j f b o c d m e q h r = rw (q, eq-eqb _ _ h, r)

begins-other : (s : ℕ) → (s ≡ code "!" → ⊥) → (s ≡ code "(" → ⊥) → begins_factor s ≡ an_atom
unfolding begins_factor
begins-other s p q = rw (ne_eqb s (code "!") p, ne_eqb s (code "(") q)

begins-atom : (b : Bytes) (a : ℕ) {e : ℕ} {c : Cond} → Atom b a e c → begins_factor (b a) ≡ an_atom
begins-atom b a (true' h) = begins-other (b a) (λ q. omega arith) (λ q. omega arith)
begins-atom b a (false' h) = begins-other (b a) (λ q. omega arith) (λ q. omega arith)
begins-atom b a (step' e k h n) = begins-other (b a) (λ q. omega arith) (λ q. omega arith)
begins-atom b a (input' e k h n) = begins-other (b a) (λ q. omega arith) (λ q. omega arith)
begins-atom b a (step-up e k h x n) = begins-other (b a) (λ q. omega arith) (λ q. omega arith)
begins-atom b a (step_down e k h x n) = begins-other (b a) (λ q. omega arith) (λ q. omega arith)
begins-atom b a (input-up e k h x n) = begins-other (b a) (λ q. omega arith) (λ q. omega arith)
begins-atom b a (input_down e k h x n) = begins-other (b a) (λ q. omega arith) (λ q. omega arith)
begins-atom b a (on-delay m t e k n lo hi s x r) =
    let i = digit-is (b a) (digits-first b a m t n.digits) in begins-other (b a) (λ q. omega arith) (λ q. omega arith)

module _ (b : Bytes) (a e : ℕ) (c : Cond) (f g : ℕ → Reading) where
  negation-reads : b a ≡ code "!" → f (a + 1) ≡ got c e → factor_by (begins_factor (b a)) f g b a ≡ got (neg c) e
  unfolding begins_factor factor_by negated
  negation-reads h q = rw (h, q)

  bracket_reads : b a ≡ code "(" → g (a + 1) ≡ got c e → b e ≡ code ")" → factor_by (begins_factor (b a)) f g b a ≡ got c (e + 1)
  unfolding begins_factor factor_by closed only
  bracket_reads h q k = rw (h, q, k)

  atom-reads : Stops (b e) → Atom b a e c → factor_by (begins_factor (b a)) f g b a ≡ got c e
  atom-reads p x = rw (begins-atom b a x) (unfold factor_by in read-atom b a e c p x)

-- a part of the grammar is read
pub complete : (b : Bytes) {p : Part} {a e : ℕ} {c : Cond} → Spans b p a e c → Follows p (b e) → (n : ℕ) → 3 * (e - a) + rank p < n → reader p n b a ≡ got c e
unfolding factor_at
complete b x f zero h = absurd (omega arith)
complete b (negation a e c s x) f (suc n) h = negation-reads b a e c (λ k. factor_at n b k) (λ k. cond_at n b k) s (complete b {p = factor} {a = a + 1} {e = e} {c = c} x f n (let i = spans_past x in omega arith))
complete b (bracketed a e c s x k) f (suc n) h =
    let z : Follows condition (b e) = (stops_at _ (code ")") k refl (λ q. omega arith), (λ q. omega arith), (λ q. omega arith)) in
    bracket_reads b a e c (λ k. factor_at n b k) (λ k. cond_at n b k) s (complete b {p = condition} {a = a + 1} {e = e} {c = c} x z n (let i = spans_past x in omega arith)) k
complete b (atom a e c x) f (suc n) h = atom-reads b a e c (λ k. factor_at n b k) (λ k. cond_at n b k) f x
complete b (one-factor a e c x) f (suc n) h = more-ends (code ".") both (λ k. term_at n b k) b _ c e (complete b {p = factor} {a = a} {e = e} {c = c} x f.0 n (omega arith)) f.1
complete b (more_factors a m e c d x s y) f (suc n) h =
    let i = spans_past x in let j = spans_past y in
    more_joins (code ".") both (λ k. term_at n b k) b _ c d m e (complete b {p = factor} {a = a} {e = m} {c = c} x (stops_at _ (code ".") s refl (λ q. omega arith)) n (omega arith)) s (complete b {p = term} {a = m + 1} {e = e} {c = d} y f n (omega arith))
complete b (one-term a e c x) f (suc n) h = more-ends (code "+") either (λ k. cond_at n b k) b _ c e (complete b {p = term} {a = a} {e = e} {c = c} x (f.0, f.1) n (omega arith)) f.2
complete b (more_terms a m e c d x s y) f (suc n) h =
    let i = spans_past x in let j = spans_past y in
    more_joins (code "+") either (λ k. cond_at n b k) b _ c d m e (complete b {p = term} {a = a} {e = m} {c = c} x (stops_at _ (code "+") s refl (λ q. omega arith), λ q. omega arith) n (omega arith)) s (complete b {p = condition} {a = m + 1} {e = e} {c = d} y f n (omega arith))

-- nothing follows a text
pub follows_end : (s : ℕ) → s ≡ 0 → Follows condition s
follows_end s z = (stops_at s 0 z refl (λ q. omega arith), (λ q. omega arith), (λ q. omega arith))
