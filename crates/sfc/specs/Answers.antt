-- The answers to an import, a row for each, in the order of the request. proofs/Table.antt: what Import.antt computes is the one answer of this table.
-- 02, P4: "Refusals: 29, less room lent, before all others; 18 at line 0, SFC text over 16,384 bytes; then the first faulty line, lowest number within it:
-- 16 outside the subset, 17 a step name never declared, 18 a limit of 01 passed or an output with both N and S or R; last, at line 0, 16 for no initial step,
-- 18 for a result over 16,384 bytes."
use Rattle.std.specs.Prelude.{List, [], ◌≡◌, Some, ℕ, ◌≤◌, ◌<◌, length}
use Rattle.line.specs.Write.{write}
use Rattle.line.specs.Rules.{longest_text}
use Rattle.tokens.specs.Tokens.{tokens}
use Rattle.grammar.specs.Program.{Program}
use Rattle.grammar.specs.Grammar.{ReadsText}
use Rattle.outline.specs.declared.Fault.{Fault}
use Rattle.outline.specs.Faults.{Faulty, NoLater, number_of}
use Rattle.sfc.specs.declared.Imported.{Imported}
use Rattle.sfc.specs.Chart.{initial_tokens, chart_of}
use Rattle.sfc.specs.Import.{answer}

-- the first fault of a text: a row of the table of faults, and none comes before it
pub record FirstFault (s : List ℕ) (f : Fault) : Type 0 where
  pub is : Faulty s f.line (number_of f.cause)
  pub first : (l n : ℕ) → Faulty s l n → NoLater (Some f) l n

-- a text of the grammar without a fault
pub record Sound (s : List ℕ) (p : Program) : Type 0 where
  pub short : length s ≤ longest_text
  pub reads : ReadsText s (tokens s) p
  pub faultless : (l n : ℕ) → Faulty s l n → ⊥

pub data Answered (s : List ℕ) (room : ℕ) : Imported → Type 0 where
  -- "29, less room lent, before all others"
  less_room : room < longest_text → Answered s room (answer 29 0 0)
  -- "18 at line 0, SFC text over 16,384 bytes"
  long-text : longest_text ≤ room → longest_text < length s → Answered s room (answer 18 0 0)
  -- "then the first faulty line, lowest number within it"
  faulty : longest_text ≤ room → length s ≤ longest_text → (f : Fault) → FirstFault s f → Answered s room (answer (number_of f.cause) f.line 0)
  -- "last, at line 0, 16 for no initial step"
  no_initial : longest_text ≤ room → (p : Program) → Sound s p → initial_tokens p ≡ [] → Answered s room (answer 16 0 0)
  -- "18 for a result over 16,384 bytes"
  long-result : longest_text ≤ room → (p : Program) → Sound s p → (initial_tokens p ≡ [] → ⊥) → longest_text < length (write (chart_of s p)) → Answered s room (answer 18 0 0)
  -- a success
  brought_in : longest_text ≤ room → (p : Program) → Sound s p → (initial_tokens p ≡ [] → ⊥) → length (write (chart_of s p)) ≤ longest_text
      → Answered s room (answer 0 0 (length (write (chart_of s p))))
