-- Atoms: what the grammar's step makes of a number, the code's step makes of its word.
use mathlib.Core.Bool.{Bool, true, false, cond, not, ◌&&◌}
use mathlib.Core.List.{List}
use mathlib.Core.Path.{◌≡◌, refl, sym, ap}
use Prim.Native.Char.{code}
use Prim.Native.Nat.{ℕ, zero, suc, ◌+◌, ◌<◌, ◌≤◌}
use native.Mathlib.Omega.{arith}
use borrow.Author.Tests.{ne_eqb, le-leb, lt-leb}
use lib.Dec.{eqb, leb}
use lib.ListN.{length}
use Rattle.text.specs.Bytes.{Bytes, byte_at}
use Rattle.text.specs.Numbers.{Found, number}
use Rattle.text.specs.Words.{has}
use Rattle.std.specs.Prelude.{Some, None, IfSome}
use Rattle.text.proofs.Numbers.{number-within}
use Rattle.text.proofs.Items.{has-without}
use Rattle.cond.specs.declared.Declared.{Declared}
use Rattle.cond.specs.Bounds.{longest, slowest, most_digits}
use Rattle.cond.specs.declared.View.{View}
use Rattle.cond.specs.Meaning.{lasted, AtomKind, step, input, step_up_kind, step_down_kind, input_up_kind, input_down_kind, rule, true_in, undeclared, edged}
use Rattle.cond.specs.Reading.{only, numbered, indexed, edge_at, plain, delay_at, timed, atom_at}
use Rattle.cond.specs.Packed.{good, unnoted, noted, pack, item_s, changed_items}

-- Numbers

pub number_ends : (s : List ℕ) (a : ℕ) (x : Found) → length s ≡ longest → x ≡ number most_digits (byte_at s) a → IfSome x (λ y. y.1 ≤ longest)
number_ends s a (Some (v, e)) l q = let i = number-within most_digits s a e v (omega arith) (sym q) in omega arith
number_ends s a None l q = tt

-- Items of a kind, where the word has the items for which its atom holds

module _ (v : View) (d : Declared) (j : AtomKind) (w : ℕ) (h : (k : ℕ) → has w k ≡ (rule j).true_of v k) where
  noted-numbered : (x : Found) → noted v d (numbered j x) ≡ item_s w ((rule j).among d) (rule j).edge x
  unfolding numbered true_in undeclared edged
  noted-numbered (Some (k, e)) = ap (good e) (λ t. record { value = sym (h k) t; undeclared = leb ((rule j).among d) k; edge = (rule j).edge })
  noted-numbered None = refl

  noted-indexed : (b : Bytes) (a : ℕ) → noted v d (indexed j b a) ≡ item_s w ((rule j).among d) (rule j).edge (number most_digits b a)
  unfolding indexed
  noted-indexed b a = noted-numbered (number most_digits b a)

-- Edges

has_changed : (rising : Bool) (new old k : ℕ) → has (changed_items rising new old) k ≡ cond rising (has new k && not (has old k)) (has old k && not (has new k))
has_changed true new old k = has-without new old k
has_changed false new old k = has-without old new k

module _ (v : View) (d : Declared) (b : Bytes) (a : ℕ) where
  pub edge-step : (rising : Bool) → b a ≡ code "x"
      → item_s (changed_items rising v.moment.situation v.moment.previous) d.steps true (number most_digits b (a + 1)) ≡ noted v d (edge_at rising b a)
  unfolding edge_at
  edge-step true h = rw h (sym (noted-indexed v d step_up_kind _ (has_changed true v.moment.situation v.moment.previous) b (a + 1)))
  edge-step false h = rw h (sym (noted-indexed v d step_down_kind _ (has_changed false v.moment.situation v.moment.previous) b (a + 1)))

  pub edge-input : (rising : Bool) → b a ≡ code "i"
      → item_s (changed_items rising v.inputs v.old) d.inputs true (number most_digits b (a + 1)) ≡ noted v d (edge_at rising b a)
  unfolding edge_at only
  edge-input true h = rw h (sym (noted-indexed v d input_up_kind _ (has_changed true v.inputs v.old) b (a + 1)))
  edge-input false h = rw h (sym (noted-indexed v d input_down_kind _ (has_changed false v.inputs v.old) b (a + 1)))

  pub edge_none : (rising : Bool) → (b a ≡ code "x" → ⊥) → (b a ≡ code "i" → ⊥) → unnoted ≡ noted v d (edge_at rising b a)
  unfolding edge_at only
  edge_none rising h k = rw (ne_eqb (b a) (code "x") h, ne_eqb (b a) (code "i") k)

-- On-delays

module _ (v : View) (d : Declared) (b : Bytes) (a t : ℕ) where
  pub delay-short : t < 1 → unnoted ≡ noted v d (delay_at b a t)
  unfolding delay_at only
  delay-short h = rw (lt-leb 1 t h)

  pub delay-long : 1 ≤ t → slowest < t → unnoted ≡ noted v d (delay_at b a t)
  unfolding delay_at only
  delay-long l h = rw (le-leb 1 t l, lt-leb t slowest h)

  pub delay-none : 1 ≤ t → t ≤ slowest → (b a ≡ code "x" → ⊥) → unnoted ≡ noted v d (delay_at b a t)
  unfolding delay_at only
  delay-none l h n = rw (le-leb 1 t l, le-leb t slowest h, ne_eqb (b a) (code "x") n)

  module _ (l : 1 ≤ t) (h : t ≤ slowest) (x : b a ≡ code "x") where
    pub delay-step : (k e : ℕ) → number most_digits b (a + 1) ≡ Some (k, e) → good e (record { value = lasted v k t; undeclared = leb d.steps k; edge = false }) ≡ noted v d (delay_at b a t)
    unfolding delay_at only indexed numbered true_in undeclared edged
    delay-step k e q = rw (le-leb 1 t l, le-leb t slowest h, x, q)

    pub delay-unread : number most_digits b (a + 1) ≡ None → unnoted ≡ noted v d (delay_at b a t)
    unfolding delay_at only indexed numbered
    delay-unread q = rw (le-leb 1 t l, le-leb t slowest h, x, q)

-- Atoms that begin with a number

module _ (v : View) (d : Declared) (b : Bytes) (x : Found) where
  pub timed-none : x ≡ None → 8 ≡ pack (noted v d (timed b x))
  unfolding timed
  timed-none q = rw q

  module _ (t e : ℕ) (q : x ≡ Some (t, e)) where
    pub timed-delay : b e ≡ code "/" → noted v d (delay_at b (e + 1) t) ≡ noted v d (timed b x)
    unfolding timed
    timed-delay h = rw (q, h)

    module _ (h : b e ≡ code "/" → ⊥) where
      pub timed-plain : t < 2 → pack (good e (record { value = eqb t 1; undeclared = false; edge = false })) ≡ pack (noted v d (timed b x))
      unfolding timed plain only true_in undeclared edged
      timed-plain m = rw (q, ne_eqb (b e) (code "/") h) (go t m)
        where
          go : (t : ℕ) → t < 2 → pack (good e (record { value = eqb t 1; undeclared = false; edge = false })) ≡ pack (noted v d (plain t e))
          go zero p = refl
          go (suc zero) p = refl
          go (suc (suc k)) p = absurd (omega arith)

      pub timed-other : 2 ≤ t → 8 ≡ pack (noted v d (timed b x))
      unfolding timed plain only
      timed-other m = rw (q, ne_eqb (b e) (code "/") h, ne_eqb t 0 (λ y. omega arith), ne_eqb t 1 (λ y. omega arith))

-- Atoms, by the byte that they begin with

module _ (v : View) (d : Declared) (b : Bytes) (a : ℕ) where
  pub atom-step : b a ≡ code "x" → item_s v.moment.situation d.steps false (number most_digits b (a + 1)) ≡ noted v d (atom_at b a)
  unfolding atom_at
  atom-step h = rw h (sym (noted-indexed v d step v.moment.situation (λ k. refl) b (a + 1)))

  pub atom-input : b a ≡ code "i" → item_s v.inputs d.inputs false (number most_digits b (a + 1)) ≡ noted v d (atom_at b a)
  unfolding atom_at
  atom-input h = rw h (sym (noted-indexed v d input v.inputs (λ k. refl) b (a + 1)))

  pub atom-up : b a ≡ code "u" → edge_at true b (a + 1) ≡ atom_at b a
  unfolding atom_at
  atom-up h = rw h

  pub atom_down : b a ≡ code "d" → edge_at false b (a + 1) ≡ atom_at b a
  unfolding atom_at
  atom_down h = rw h

  pub atom-other : (b a ≡ code "x" → ⊥) → (b a ≡ code "i" → ⊥) → (b a ≡ code "u" → ⊥) → (b a ≡ code "d" → ⊥) → timed b (number most_digits b a) ≡ atom_at b a
  unfolding atom_at
  atom-other x i u y = rw (ne_eqb (b a) (code "x") x, ne_eqb (b a) (code "i") i, ne_eqb (b a) (code "u") u, ne_eqb (b a) (code "d") y)
