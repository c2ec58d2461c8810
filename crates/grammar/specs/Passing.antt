-- A way of the code: the tokens that its rows (Rows.antt) let pass, what is due being never stopped among them. They are the programs of Grammar.antt:
-- `passes_program` (proofs/Programs.antt), `text_passes` (proofs/Passes.antt).
use Rattle.std.specs.Prelude.{List, [], ◌∷◌, ◌≡◌, ℕ}
use Rattle.tokens.specs.declared.Token.{Token}
use Rattle.naming.specs.Names.{is_qualifier}
use Rattle.grammar.specs.declared.Due.{Due}
use Rattle.grammar.specs.Rows.{follow}
use Rattle.grammar.specs.declared.Phase.{Phase}
use Rattle.grammar.specs.declared.Phase.TheVariants.{Outside, Stopped}

abbrev pub due : Phase → ℕ → Due
due p n = record { phase = p; depth = n }

-- before the first token of a text
abbrev pub first_due : Due
first_due = due Outside 0

-- what is due after a token
abbrev pub due_after : List ℕ → Due → Token → Due
due_after s d t = follow d t.kind (is_qualifier s t)

pub data Passes (s : List ℕ) : Due → List Token → Type 0 where
  passed : {d : Due} → Passes s d []
  passes_on : {d : Due} {t : Token} {us : List Token} → ((due_after s d t).phase ≡ Stopped → ⊥) → Passes s (due_after s d t) us → Passes s d (t ∷ us)
