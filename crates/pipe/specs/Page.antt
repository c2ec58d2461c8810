-- A way of the code: what stands on a page, gathered and not yet written. The contracts of `pipe` say it, and the programs run and are compared.
use Rattle.std.specs.Prelude.{cond, List, [], ◌∷◌, ◌++◌, ℕ, ltb, length}

-- one byte more on a page of n bytes: a full page is written, and begun anew with the byte
abbrev pub paged : ℕ → List ℕ → ℕ → List ℕ
paged n held b = cond (ltb (length held) n) (held ++ (b ∷ [])) (b ∷ [])

-- bytes gathered one after another
unfoldable pub gathered : ℕ → List ℕ → List ℕ → List ℕ
gathered n held [] = held
gathered n held (b ∷ s) = gathered n (paged n held b) s
