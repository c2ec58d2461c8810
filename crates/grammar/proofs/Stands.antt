-- What stands in front of tokens that pass: a token of a kind that the rows have there.
use mathlib.Core.Bool.{Bool, true, false, cond, not, ◌&&◌, ◌||◌}
use mathlib.Core.List.{List, [], ◌∷◌}
use mathlib.Core.Path.{◌≡◌, refl, sym, ap, ◌∙◌}
use Prim.Native.Nat.{ℕ}
use Rattle.tokens.specs.declared.Kind.{Kind}
use Rattle.tokens.proofs.Alike.{kind_true}
use Rattle.tokens.specs.Kinds.{same_kind}
use Rattle.tokens.specs.declared.Token.{Token}
use Rattle.tokens.proofs.Ends.{Ended, at_end, before_end}
use Rattle.naming.specs.Names.{is_qualifier}
use Rattle.grammar.specs.declared.Due.{Due}
use Rattle.grammar.specs.Grammar.{Is}
use Rattle.grammar.specs.Rows.{next_due, balanced, depth_after, follow}
use Rattle.grammar.specs.declared.Phase.{Phase}
use Rattle.grammar.specs.declared.Phase.TheVariants.{QualifierDue, Stopped}
use Rattle.grammar.specs.Rows.{same_phase}
use Rattle.grammar.specs.Passing.{due, Passes, passes_on}
use Rattle.grammar.proofs.Sound.{both_true}
use Rattle.grammar.proofs.Passes.{follow-on}
use Rattle.tokens.specs.declared.Kind.TheVariants.{End}

-- kinds, each with what is due after it: what is due after a kind, by them
unfoldable pub pick : List (Kind × Phase) → Kind → Phase
pick [] k = Stopped
pick (r ∷ rs) k = cond (same_kind r.0 k) r.1 (pick rs k)

-- these kinds alone may stand where p is due
abbrev pub Rows : Phase → List (Kind × Phase) → Type 0
Rows p rs = (k : Kind) → next_due p k ≡ pick rs k

-- a token that may not stand stops
follow-stops : (d : Due) (k : Kind) (q : Bool) → (balanced d k && (q || not (same_phase d.phase QualifierDue))) ≡ false → (follow d k q).phase ≡ Stopped
unfolding follow
follow-stops d k q h = rw h

module _ (s : List ℕ) where
  -- where p is due at depth d, t may stand as a token of kind j
  pub record May (p : Phase) (d : ℕ) (t : Token) (j : Kind) : Type 0 where
    pub is : Is t j
    pub even : balanced (due p d) j ≡ true
    pub qualifies : (is_qualifier s t || not (same_phase p QualifierDue)) ≡ true

  -- where p is due at depth d, a token of one of the kinds stands in front, and the others pass
  pub data Stands (p : Phase) (d : ℕ) : List (Kind × Phase) → List Token → Type 0 where
    here : {r : Kind × Phase} {rs : List (Kind × Phase)} {t : Token} {us : List Token} → May p d t r.0 → Passes s (due r.1 (depth_after (due p d) r.0)) us → Ended us → Stands p d (r ∷ rs) (t ∷ us)
    there : {r : Kind × Phase} {rs : List (Kind × Phase)} {us : List Token} → Stands p d rs us → Stands p d (r ∷ rs) us

  -- the kinds are looked through for a token's
  picked : (p : Phase) (d : ℕ) (rs : List (Kind × Phase)) (t : Token) (us : List Token) → May p d t t.kind → (pick rs t.kind ≡ Stopped → ⊥)
      → Passes s (due (pick rs t.kind) (depth_after (due p d) t.kind)) us → Ended us → Stands p d rs (t ∷ us)
  unfolding pick
  picked p d [] t us m h y e = absurd (h refl)
  picked p d (r ∷ rs) t us m h y e = go (same_kind r.0 t.kind) refl h y (λ i x. picked p d rs t us m i x e)
    where
      n : Bool → Phase
      n x = cond x r.1 (pick rs t.kind)

      go : (x : Bool) → same_kind r.0 t.kind ≡ x → (n x ≡ Stopped → ⊥) → Passes s (due (n x) (depth_after (due p d) t.kind)) us
          → ((pick rs t.kind ≡ Stopped → ⊥) → Passes s (due (pick rs t.kind) (depth_after (due p d) t.kind)) us → Stands p d rs (t ∷ us)) → Stands p d (r ∷ rs) (t ∷ us)
      go true q i x f =
          let k : t.kind ≡ r.0 = sym (kind_true _ _ q) in
          here (record { is = k; even = rw k at m.even; qualifies = m.qualifies }) (rw k at x) e
      go false q i x f = there (f i x)

  -- the first of tokens that pass may stand, and the others pass
  record First (p : Phase) (d : ℕ) (t : Token) (us : List Token) : Type 0 where
    may : May p d t t.kind
    on : next_due p t.kind ≡ Stopped → ⊥
    passes : Passes s (due (next_due p t.kind) (depth_after (due p d) t.kind)) us

  first : {p : Phase} {d : ℕ} {t : Token} {us : List Token} → Passes s (due p d) (t ∷ us) → First p d t us
  first {p} {d} {t} {us} (passes_on h y) = go (balanced (due p d) t.kind && (is_qualifier s t || not (same_phase p QualifierDue))) refl
    where
      go : (x : Bool) → (balanced (due p d) t.kind && (is_qualifier s t || not (same_phase p QualifierDue))) ≡ x → First p d t us
      go true i =
          let b = both_true _ _ i in
          let f = follow-on (due p d) t.kind (is_qualifier s t) b.0 b.1 in
          record { may = record { is = refl; even = b.0; qualifies = b.1 }; on = rw f at h; passes = rw f at y }
      go false i = absurd (h (follow-stops (due p d) t.kind (is_qualifier s t) i))

  -- it is of one of the kinds that may stand there
  pub stands-first : (p : Phase) (d : ℕ) (rs : List (Kind × Phase)) {t : Token} {us : List Token} → next_due p t.kind ≡ pick rs t.kind → Passes s (due p d) (t ∷ us) → Ended us → Stands p d rs (t ∷ us)
  stands-first p d rs q y e = let f = first y in picked p d rs _ _ f.may (rw q at f.on) (rw q at f.passes) e

  -- of tokens that pass and end, one of the kinds stands in front
  pub stands : {p : Phase} {d : ℕ} {us : List Token} (rs : List (Kind × Phase)) → Rows p rs → pick rs End ≡ Stopped → Passes s (due p d) us → Ended us → Stands p d rs us
  stands {p} {d} rs r z y (at_end k) = absurd ((first y).on (ap (next_due p) k ∙ r End ∙ z))
  stands {p} {d} rs r z y (before_end n e) = stands-first p d rs (r _) y e

  -- where one kind alone may stand
  pub one_then : {p : Phase} {d : ℕ} {us : List Token} (G : List Token → Type 0) (j : Kind) (n : Phase) → Rows p ((j, n) ∷ []) → pick ((j, n) ∷ []) End ≡ Stopped → Passes s (due p d) us → Ended us
      → ((t : Token) (vs : List Token) → May p d t j → Passes s (due n (depth_after (due p d) j)) vs → Ended vs → G (t ∷ vs)) → G us
  one_then {p} {d} {us} G j n r z y e f = go us (stands ((j, n) ∷ []) r z y e)
    where
      go : (ws : List Token) → Stands p d ((j, n) ∷ []) ws → G ws
      go ws (here m x i) = f _ _ m x i
      go ws (there x4) = elim x4 [ ]
