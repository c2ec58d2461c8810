-- What a call leaves in lent room.
use Rattle.std.specs.Prelude.{List, [], ◌∷◌, ◌++◌, ◌≡◌, ℕ, ◌+◌, ◌≤◌, length}
use Rattle.std.proofs.lemmas.List.Edits.{sets}
use Rattle.text.specs.Decimal.{decimal}
use Rattle.text.specs.Lines.{line_end}

-- the bytes vs stand from a place on, those past the room excepted; the rest is as it was, and r is the place after them
pub record Put (at : ℕ) (vs before after : List ℕ) (r : ℕ) : Type 0 where
  pub stands : after ≡ sets before at vs
  pub next : r ≡ at + length vs

-- the same where the room has place for all of them: none is cut off at its end
pub record Fitted (at : ℕ) (vs before after : List ℕ) (r : ℕ) : Type 0 where
  pub put : Put at vs before after r
  pub fits : r ≤ length before

-- a key, a number and byte 10
unfoldable pub keyed : List ℕ → ℕ → List ℕ
keyed key v = key ++ (decimal v ++ (line_end ∷ []))
