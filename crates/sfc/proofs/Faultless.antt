-- A text without a fault is of the grammar, and what the code makes of it is the chart of its program.
use mathlib.Core.List.{List}
use mathlib.Core.Path.{◌≡◌}
use Prim.Native.Nat.{ℕ, ◌≤◌}
use native.Mathlib.Omega.{arith}
use lib.ListN.{length}
use Rattle.std.specs.Prelude.{None}
use Rattle.line.specs.Rules.{longest_text}
use Rattle.tokens.specs.Tokens.{tokens}
use Rattle.grammar.specs.Grammar.{ReadsText}
use Rattle.grammar.proofs.Grammar.{program_complete}
use Rattle.grammar.proofs.Programs.{passes_program}
use Rattle.outline.specs.Reading.{reading_of}
use Rattle.outline.proofs.Faultless.{faultless_passes}
use Rattle.sfc.specs.Chart.{map_of}
use Rattle.sfc.specs.Import.{found, program_in, map_by}
use Rattle.sfc.proofs.Agreeing.{Agrees, agrees}

pub record Faultless (s : List ℕ) : Type 0 where
  pub reads : ReadsText s (tokens s) (program_in s)
  pub agrees : Agrees s (program_in s)

pub faultless : (s : List ℕ) → length s ≤ longest_text → (reading_of s).fault ≡ None → Faultless s
unfolding found
faultless s l f =
    let g = passes_program s (omega arith) (faultless_passes s f) in
    let r : ReadsText s (tokens s) (program_in s) = rw (program_complete s g.program g.reads) g.reads in
    record { reads = r; agrees = agrees s (program_in s) l r f }

-- the tables are the map of the program
pub names_agree : (s : List ℕ) → Faultless s → map_by (reading_of s).known.steps (reading_of s).known.inputs (reading_of s).known.outputs ≡ map_of s (program_in s)
names_agree s f = rw (f.agrees.steps, f.agrees.inputs, f.agrees.outputs)
