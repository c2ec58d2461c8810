-- The program that is read is the text's, and a text has one program at most.
use mathlib.Core.List.{List, []}
use mathlib.Core.Path.{◌≡◌}
use Prim.Native.Nat.{ℕ, ◌+◌}
use native.Mathlib.Omega.{arith}
use lib.ListN.{length}
use Rattle.tokens.specs.declared.Token.{Token}
use Rattle.tokens.specs.Tokens.{tokens}
use Rattle.grammar.specs.Program.{Program}
use Rattle.grammar.specs.Grammar.{ReadsText}
use Rattle.grammar.specs.Reader.{got, program_from, program_of}
use Rattle.grammar.proofs.Sound.{sound_got, sound_items}
use Rattle.grammar.proofs.Complete.{complete_items}

-- what is read of some tokens is of the grammar
pub read_sound : (s : List ℕ) (n : ℕ) (us vs : List Token) (p : Program) → program_from s n us ≡ got p vs → ReadsText s us p
read_sound s n us vs p e = sound_got (sound_items s n us) p vs e

-- the program that is read is the text's
pub program_sound : (s : List ℕ) (p : Program) (vs : List Token) → program_of s ≡ got p vs → ReadsText s (tokens s) p
unfolding program_of
program_sound s p vs e = read_sound s (length (tokens s) + 1) (tokens s) vs p e

-- the text's program is read, and no token is left
pub program_complete : (s : List ℕ) (p : Program) → ReadsText s (tokens s) p → program_of s ≡ got p []
unfolding program_of
program_complete s p r = complete_items s r (length (tokens s) + 1) (omega arith)

-- a text has one program
pub one_program : (s : List ℕ) (p q : Program) → ReadsText s (tokens s) p → ReadsText s (tokens s) q → p ≡ q
one_program s p q a b = cc (program_complete s p a, program_complete s q b)
