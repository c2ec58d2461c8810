-- Whole texts: the reader reads exactly the bytes that stand for a condition, as what they stand for.
use mathlib.Core.Bool.{Bool, true, false}
use mathlib.Core.List.{List}
use mathlib.Core.Path.{◌≡◌, refl, sym, ◌∙◌}
use Prim.Native.Nat.{ℕ, ◌+◌, ◌*◌}
use native.Mathlib.Omega.{arith}
use borrow.Author.Tests.{eqb-true, leb-true, le-leb, eq-eqb}
use lib.Dec.{eqb, leb}
use lib.ListN.{length}
use Rattle.text.specs.Bytes.{Bytes, byte_at}
use Rattle.text.proofs.Laws.{byte_past}
use Rattle.cond.specs.Bounds.{longest}
use Rattle.cond.specs.Meaning.{Cond}
use Rattle.cond.specs.Grammar.{condition, Spans}
use Rattle.cond.specs.Promised.{SpansAll, StandsFor}
use Rattle.cond.specs.Reading.{Reading, got, none, only, cond_at, whole, read_cond}
use Rattle.cond.proofs.Grammar.Sound.{Sound, spanned, nothing, sound_cond_at}
use Rattle.cond.proofs.Grammar.Complete.{complete, follows_end}

whole_sound : (b : Bytes) (n : ℕ) (c : Cond) (e : ℕ) {o : Reading} → Sound b condition 0 o → whole n o ≡ got c e → (e ≡ n) × Spans b condition 0 n c
unfolding whole only
whole_sound b n c e (spanned d f x) q = go (eqb f n) refl q
  where
    go : (t : Bool) → eqb f n ≡ t → only t (got d f) ≡ got c e → (e ≡ n) × Spans b condition 0 n c
    go true w q =
        let z = eqb-true f n w in
        let y : d ≡ c = cc in
        let u : f ≡ e = cc in
        (sym u ∙ z, rw (z, y) at x)
    go false w q = let y : ◌≡◌ {A = ℕ} 0 1 = cc in absurd (omega arith)
whole_sound b n c e nothing q = let y : ◌≡◌ {A = ℕ} 0 1 = cc in absurd (omega arith)

module _ (s : List ℕ) where
  pub read-stands : (c : Cond) (e : ℕ) → read_cond s ≡ got c e → StandsFor s c × (e ≡ length s)
  unfolding read_cond only
  read-stands c e q = go (leb (length s) longest) refl q
    where
      go : (t : Bool) → leb (length s) longest ≡ t → only t (whole (length s) (cond_at 195 (byte_at s) 0)) ≡ got c e → StandsFor s c × (e ≡ length s)
      go true w q =
          let r = whole_sound (byte_at s) (length s) c e (sound_cond_at 195 (byte_at s) 0) q in
          (record { short = leb-true (length s) longest w; spans = r.1 }, r.0)
      go false w q = let y : ◌≡◌ {A = ℕ} 0 1 = cc in absurd (omega arith)

  pub stands_read : (c : Cond) → StandsFor s c → read_cond s ≡ got c (length s)
  unfolding read_cond whole only
  stands_read c x =
      let f = follows_end _ (byte_past s (length s) (omega arith)) in
      let short = x.short in
      rw (le-leb (length s) longest short, complete (byte_at s) x.spans f 195 (omega arith), eq-eqb (length s) (length s) refl)

  pub none-stands : (c : Cond) → read_cond s ≡ none → StandsFor s c → ⊥
  none-stands c q x = let p = stands_read c x in let z : ◌≡◌ {A = ℕ} 0 1 = cc (p, q) in omega arith

  pub stands-none : ((c : Cond) → StandsFor s c → ⊥) → read_cond s ≡ none
  stands-none f = go (read_cond s) refl
    where
      go : (o : Reading) → read_cond s ≡ o → o ≡ none
      go (got c e) q = absurd (f c (read-stands c e q).0)
      go none q = refl

  -- whatever its length
  pub spans-one : (c d : Cond) → SpansAll s c → SpansAll s d → c ≡ d
  spans-one c d x y =
      let f = follows_end _ (byte_past s (length s) (omega arith)) in
      let p = complete (byte_at s) x f (3 * length s + 3) (omega arith) in
      let q = complete (byte_at s) y f (3 * length s + 3) (omega arith) in
      cc (p, q)
