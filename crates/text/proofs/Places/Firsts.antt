-- The first of a text's lines, by the place where it ends: what `split` says from a place on.
use mathlib.Core.Bool.{Bool, true, false}
use mathlib.Core.List.{List, [], ◌∷◌}
use mathlib.Core.Path.{◌≡◌, refl, sym, ap, ◌∙◌}
use Prim.Native.Nat.{ℕ, zero, suc, ◌+◌, ◌-◌, ◌<◌}
use native.Mathlib.Omega.{arith}
use borrow.Author.Tests.{eq-eqb, ne_eqb}
use lib.Dec.{eqb}
use lib.ListN.{length, get_or, take, drop, length-drop, length-take}
use lib.Seq.{drop-drop, get_or-drop}
use Rattle.text.specs.Lines.{Lines, nothing, unended, line, line_end, byte_before, split}
use Rattle.text.specs.Places.{EndsAt}

split-line : (s : List ℕ) (k : ℕ) → k < length s → get_or s k 0 ≡ line_end → ((i : ℕ) → i < k → get_or s i 0 ≡ line_end → ⊥) → split s ≡ line (take k s) (split (drop (suc k) s))
unfolding split byte_before
split-line [] k h e f = absurd (omega arith)
split-line (b ∷ s) zero h e f = rw (eq-eqb b line_end e)
split-line (b ∷ s) (suc k) h e f = rw (ne_eqb b line_end (f 0 (omega arith)), split-line s k (omega arith) e (λ i p. f (suc i) (omega arith)))

split_open : (s : List ℕ) → 0 < length s → ((i : ℕ) → i < length s → get_or s i 0 ≡ line_end → ⊥) → split s ≡ unended
unfolding split byte_before
split_open [] h f = absurd (omega arith)
split_open (b ∷ []) h f = rw (ne_eqb b line_end (f 0 (omega arith)))
split_open (b ∷ d ∷ s) h f = rw (ne_eqb b line_end (f 0 (omega arith)), split_open (d ∷ s) (omega arith) (λ i p. f (suc i) (omega arith)))

-- From a place on, where its line ends at e

module _ (s : List ℕ) (a e : ℕ) (x : EndsAt s a e) where
  pub split_at : e < length s → split (drop a s) ≡ line (take (e - a) (drop a s)) (split (drop (e + 1) s))
  split_at h =
      let p : a + (e - a) ≡ e = (let z = x.from in omega arith) in
      let q : a + suc (e - a) ≡ e + 1 = omega arith in
      split-line (drop a s) (e - a) (rw length-drop (omega arith)) (rw (get_or-drop, p) (x.ends h)) (λ i l g. x.none_before (a + i) (omega arith) (omega arith) (rw get_or-drop at g))
      ∙ rw (drop-drop, q)

  pub split-last : e ≡ length s → a < length s → split (drop a s) ≡ unended
  split-last h l = split_open (drop a s) (rw length-drop (omega arith)) (λ i p g. let q = (rw length-drop at p) in x.none_before (a + i) (omega arith) (omega arith) (rw get_or-drop at g))

  pub line-long : e < length s → length (take (e - a) (drop a s)) ≡ e - a
  line-long h = let z = x.from in simp (length-take, length-drop) (omega arith)

-- The converse: w is the text's first line, and x are those after its byte 10

pub record First (s w : List ℕ) (x : Lines) : Type 0 where
  pub bytes : take (length w) s ≡ w
  pub others : x ≡ split (drop (suc (length w)) s)
  pub ended : length w < length s

pub split-first : (s w : List ℕ) (x : Lines) → split s ≡ line w x → First s w x
unfolding split byte_before
split-first [] w x h = let z : ◌≡◌ {A = ℕ} 0 1 = cc in absurd (omega arith)
split-first (b ∷ t) w x h = go (eqb b line_end) (split t) refl h (split-first t)
  where
    go : (u : Bool) (y : Lines) → split t ≡ y → byte_before u b y ≡ line w x → ((v : List ℕ) (z : Lines) → split t ≡ line v z → First t v z) → First (b ∷ t) w x
    go true y p h g =
        let e : [] ≡ w = cc in
        let f : y ≡ x = cc in
        rw (← e) (record { bytes = refl; others = sym f ∙ sym p; ended = omega arith })
    go false nothing p h g = let z : ◌≡◌ {A = ℕ} 0 1 = cc in absurd (omega arith)
    go false unended p h g = let z : ◌≡◌ {A = ℕ} 0 1 = cc in absurd (omega arith)
    go false (line v y) p h g =
        let e : b ∷ v ≡ w = cc in
        let f : y ≡ x = cc in
        let i = g v y p in
        let l = i.ended in
        rw (← e, ← f) (record { bytes = ap (λ (k : List ℕ). b ∷ k) i.bytes; others = i.others; ended = omega arith })
