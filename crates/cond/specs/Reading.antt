-- A way of the code: the reader that computes, by recursion on the grammar, a byte ahead.
-- `read-stands` and `stands_read` (proofs/Grammar/Wholes.antt) fix what it yields: what the grammar says.
use Rattle.std.specs.Prelude.{Bool, true, false, cond, Some, None, List, ℕ, zero, suc, ◌+◌, eqb, leb, length}
use Prim.Native.Char.{code}
use Rattle.text.specs.Bytes.{Bytes, byte_at}
use Rattle.text.specs.Numbers.{Found, number}
use Rattle.cond.specs.Bounds.{longest, slowest, most_digits}
use Rattle.cond.specs.Meaning.{AtomKind, step, input, step_up_kind, step_down_kind, input_up_kind, input_down_kind, delay, Cond, always, never, item, neg, both, either}

-- a part that was read, with the place after it, or none
pub data Reading : Type 0 where
  got : Cond → ℕ → Reading
  none : Reading

-- what is read where a test passes, and nothing where it fails
unfoldable pub only : Bool → Reading → Reading
only true o = o
only false o = none

-- Atoms

unfoldable pub numbered : AtomKind → Found → Reading
numbered k (Some (n, e)) = got (item k n) e
numbered k None = none

-- an item's number
unfoldable pub indexed : AtomKind → Bytes → ℕ → Reading
indexed k b a = numbered k (number most_digits b a)

-- after `u` or `d`: a rising or falling edge of a step or of an input
abbrev pub step_edge : Bool → AtomKind
step_edge true = step_up_kind
step_edge false = step_down_kind

abbrev pub input_edge : Bool → AtomKind
input_edge true = input_up_kind
input_edge false = input_down_kind

unfoldable pub edge_at : Bool → Bytes → ℕ → Reading
edge_at rising b a =
    cond (eqb (b a) (code "x")) (indexed (step_edge rising) b (a + 1))
    (only (eqb (b a) (code "i")) (indexed (input_edge rising) b (a + 1)))

-- `0` and `1`
unfoldable pub plain : ℕ → ℕ → Reading
plain t e = cond (eqb t 0) (got never e) (only (eqb t 1) (got always e))

-- the `xS` of an on-delay of t ms, "T 1 to 3,600,000 ms"
unfoldable pub delay_at : Bytes → ℕ → ℕ → Reading
delay_at b a t = only (leb 1 t) (only (leb t slowest) (only (eqb (b a) (code "x")) (indexed (delay t) b (a + 1))))

-- 01: "`1` followed by `/` begins an on-delay."
unfoldable pub timed : Bytes → Found → Reading
timed b (Some (t, e)) = cond (eqb (b e) (code "/")) (delay_at b (e + 1) t) (plain t e)
timed b None = none

unfoldable pub atom_at : Bytes → ℕ → Reading
atom_at b a =
    cond (eqb (b a) (code "x")) (indexed step b (a + 1))
    (cond (eqb (b a) (code "i")) (indexed input b (a + 1))
    (cond (eqb (b a) (code "u")) (edge_at true b (a + 1))
    (cond (eqb (b a) (code "d")) (edge_at false b (a + 1))
    (timed b (number most_digits b a)))))

-- Factors, terms and conditions. What is read further on is a function of its place, so that only the way that is taken is read.

unfoldable pub negated : Reading → Reading
negated (got c e) = got (neg c) e
negated none = none

-- a bracketed part wants a `)` after it
unfoldable pub closed : Bytes → Reading → Reading
closed b (got c e) = only (eqb (b e) (code ")")) (got c (e + 1))
closed b none = none

unfoldable pub joined : (Cond → Cond → Cond) → Cond → Reading → Reading
joined j c (got d e) = got (j c d) e
joined j c none = none

-- after a part: where the joining byte stands there, what f reads after it, joined to the part
unfoldable pub more_if : Bool → (Cond → Cond → Cond) → (ℕ → Reading) → Cond → ℕ → Reading
more_if true j f c e = joined j c (f (e + 1))
more_if false j f c e = got c e

unfoldable pub more : ℕ → (Cond → Cond → Cond) → (ℕ → Reading) → Bytes → Reading → Reading
more s j f b (got c e) = more_if (eqb (b e) s) j f c e
more s j f b none = none

-- what a factor begins with
pub data Begins : Type 0 where
  a_bang a_bracket an_atom : Begins

unfoldable pub begins_factor : ℕ → Begins
begins_factor s = cond (eqb s (code "!")) a_bang (cond (eqb s (code "(")) a_bracket an_atom)

unfoldable pub factor_by : Begins → (ℕ → Reading) → (ℕ → Reading) → Bytes → ℕ → Reading
factor_by a_bang f g b a = negated (f (a + 1))
factor_by a_bracket f g b a = closed b (g (a + 1))
factor_by an_atom f g b a = atom_at b a

-- the three readers of the grammar, with fuel
unfoldable mutual
  pub factor_at : ℕ → Bytes → ℕ → Reading
  factor_at zero b a = none
  factor_at (suc n) b a = factor_by (begins_factor (b a)) (λ k. factor_at n b k) (λ k. cond_at n b k) b a

  pub term_at : ℕ → Bytes → ℕ → Reading
  term_at zero b a = none
  term_at (suc n) b a = more (code ".") both (λ k. term_at n b k) b (factor_at n b a)

  pub cond_at : ℕ → Bytes → ℕ → Reading
  cond_at zero b a = none
  cond_at (suc n) b a = more (code "+") either (λ k. cond_at n b k) b (term_at n b a)

-- a part that goes to the end
unfoldable pub whole : ℕ → Reading → Reading
whole n (got c e) = only (eqb e n) (got c e)
whole n none = none

-- 01: "condition 1 to 64 bytes". A reader goes down at most three levels for each byte, so that 195 are fuel enough for 64.
unfoldable pub read_cond : List ℕ → Reading
read_cond s = only (leb (length s) longest) (whole (length s) (cond_at 195 (byte_at s) 0))
