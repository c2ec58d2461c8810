-- Where the parts of the grammar end: after their start, by as many bytes as their brackets need, and within the text.
use mathlib.Core.List.{List}
use Prim.Native.Nat.{ℕ, ◌+◌, ◌*◌, ◌<◌, ◌≤◌}
use native.Mathlib.Omega.{arith}
use lib.ListN.{length}
use Rattle.text.specs.Bytes.{Bytes, byte_at}
use Rattle.text.proofs.Laws.{inside}
use Rattle.text.proofs.Numbers.{digits_past, digits-inside}
use Rattle.cond.specs.Meaning.{Cond}
use Rattle.cond.specs.Grammar.{Numeral, Atom, true', false', step', input', step-up, step_down, input-up, input_down, on-delay, Part, Spans, negation, bracketed, atom, one-factor, more_factors, one-term, more_terms}
use Rattle.cond.specs.Nesting.{depth}

number_past : (b : Bytes) (a e v : ℕ) → Numeral b a e v → a < e
number_past b a e v n = digits_past b a e v n.digits

atom_past : (b : Bytes) (a : ℕ) {e : ℕ} {c : Cond} → Atom b a e c → a < e
atom_past b a (true' h) = omega arith
atom_past b a (false' h) = omega arith
atom_past b a (step' e k h n) = let i = number_past b (a + 1) e k n in omega arith
atom_past b a (input' e k h n) = let i = number_past b (a + 1) e k n in omega arith
atom_past b a (step-up e k h x n) = let i = number_past b (a + 1 + 1) e k n in omega arith
atom_past b a (step_down e k h x n) = let i = number_past b (a + 1 + 1) e k n in omega arith
atom_past b a (input-up e k h x n) = let i = number_past b (a + 1 + 1) e k n in omega arith
atom_past b a (input_down e k h x n) = let i = number_past b (a + 1 + 1) e k n in omega arith
atom_past b a (on-delay m t e k n lo hi s x r) = let i = number_past b a m t n in let j = number_past b (m + 1 + 1) e k r in omega arith

pub brackets_need : {b : Bytes} {p : Part} {a e : ℕ} {c : Cond} (x : Spans b p a e c) → a + (2 * depth x + 1) ≤ e
unfolding depth
brackets_need (negation a e c h x) = let i = brackets_need x in omega arith
brackets_need (bracketed a e c h x k) = let i = brackets_need x in omega arith
brackets_need {b} (atom a e c x) = let i = atom_past b a x in omega arith
brackets_need (one-factor a e c x) = brackets_need x
brackets_need (more_factors a m e c d x h y) = let i = brackets_need x in let j = brackets_need y in omega arith
brackets_need (one-term a e c x) = brackets_need x
brackets_need (more_terms a m e c d x h y) = let i = brackets_need x in let j = brackets_need y in omega arith

pub spans_past : {b : Bytes} {p : Part} {a e : ℕ} {c : Cond} → Spans b p a e c → a < e
spans_past x = let i = brackets_need x in omega arith

number-inside : (s : List ℕ) (a e v : ℕ) → Numeral (byte_at s) a e v → e ≤ length s
number-inside s a e v n = digits-inside s a e v n.digits

atom-inside : (s : List ℕ) (a : ℕ) {e : ℕ} {c : Cond} → Atom (byte_at s) a e c → e ≤ length s
atom-inside s a (true' h) = let i = inside s a (omega arith) in omega arith
atom-inside s a (false' h) = let i = inside s a (omega arith) in omega arith
atom-inside s a (step' e k h n) = number-inside s (a + 1) e k n
atom-inside s a (input' e k h n) = number-inside s (a + 1) e k n
atom-inside s a (step-up e k h x n) = number-inside s (a + 1 + 1) e k n
atom-inside s a (step_down e k h x n) = number-inside s (a + 1 + 1) e k n
atom-inside s a (input-up e k h x n) = number-inside s (a + 1 + 1) e k n
atom-inside s a (input_down e k h x n) = number-inside s (a + 1 + 1) e k n
atom-inside s a (on-delay m t e k n lo hi h x r) = number-inside s (m + 1 + 1) e k r

pub spans-inside : (s : List ℕ) {p : Part} {a e : ℕ} {c : Cond} → Spans (byte_at s) p a e c → e ≤ length s
spans-inside s (negation a e c h x) = spans-inside s x
spans-inside s (bracketed a e c h x k) = let i = inside s e (omega arith) in omega arith
spans-inside s (atom a e c x) = atom-inside s a x
spans-inside s (one-factor a e c x) = spans-inside s x
spans-inside s (more_factors a m e c d x h y) = spans-inside s y
spans-inside s (one-term a e c x) = spans-inside s x
spans-inside s (more_terms a m e c d x h y) = spans-inside s y
