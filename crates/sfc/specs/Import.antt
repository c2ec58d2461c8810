-- The answer to a call, computed. Answers.antt has the same as a table that speaks of programs and faults alone, and proofs/Table.antt shows that this is its
-- one answer. 02, P4: "Refusals: 29, less room lent, before all others; 18 at line 0, SFC text over 16,384 bytes; then the first
-- faulty line, lowest number within it ..; last, at line 0, 16 for no initial step, 18 for a result over 16,384 bytes."
use Rattle.std.specs.Prelude.{Result, Ok, Err, Bool, true, false, cond, List, [], ◌∷◌, ◌≡◌, Option, Some, None, ℕ, zero, suc, eqb, ltb, length}
use Rattle.line.specs.Chart.{Chart}
use Rattle.line.specs.Write.{write}
use Rattle.line.specs.Rules.{longest_text}
use Rattle.tokens.specs.declared.Token.{Token}
use Rattle.grammar.specs.Program.{Program}
use Rattle.grammar.specs.Reader.{Got, got, none, program_of}
use Rattle.outline.specs.declared.Fault.{Fault}
use Rattle.outline.specs.Faults.{number_of}
use Rattle.outline.specs.Reading.{reading_of}
use Rattle.naming.specs.declared.Names.{Names}
use Rattle.naming.specs.Names.{list_of}
use Rattle.sfc.specs.declared.Imported.{Imported}
use Rattle.sfc.specs.declared.Judged.{Judged}
use Rattle.sfc.specs.declared.Place.{Place}
use Rattle.sfc.specs.declared.Refusal.{Refusal}
use Rattle.sfc.specs.declared.Refusal.TheVariants.{ShortRoom, LongText, Line, NoInitialStep, LongResult}
use Rattle.sfc.specs.Chart.{Map, initial_tokens, map_of, chart_of}

-- the program that a text is, and an empty one where it is none
unfoldable pub found : Got Program → Program
found (got p us) = p
found none = []

abbrev pub program_in : List ℕ → Program
program_in s = found (program_of s)

abbrev pub chart_in : List ℕ → Chart
chart_in s = chart_of s (program_in s)

unfoldable pub is_none : List Token → Bool
is_none [] = true
is_none (t ∷ ts) = false

-- "the first faulty line, lowest number within it". The code's fold computes it; outline/specs/Faults.antt has the table of faults, of
-- which this is proved to be the first.
abbrev pub first_fault : List ℕ → Option Fault
first_fault s = (reading_of s).fault

abbrev pub answer : ℕ → ℕ → ℕ → Imported
answer n l z = record { number = n; line = l; length = z }

-- number, line and length of what the import returns
abbrev pub shown : Result ℕ Refusal → Imported
shown (Ok z) = answer 0 0 z
shown (Err ShortRoom) = answer 29 0 0
shown (Err LongText) = answer 18 0 0
shown (Err (Line f)) = answer (number_of f.cause) f.line 0
shown (Err NoInitialStep) = answer 16 0 0
shown (Err LongResult) = answer 18 0 0

-- a fault's answer, or another where there is none
abbrev pub answer_by : Option Fault → Imported → Imported
answer_by (Some f) other = answer (number_of f.cause) f.line 0
answer_by None other = other

unfoldable pub answer_to : List ℕ → Imported
answer_to s =
    cond (ltb longest_text (length s)) (answer 18 0 0)
    (answer_by (first_fault s)
    (cond (is_none (initial_tokens (program_in s))) (answer 16 0 0)
    (cond (ltb longest_text (length (write (chart_in s)))) (answer 18 0 0)
    (answer 0 0 (length (write (chart_in s)))))))

-- "The caller lends 16,384 bytes for the result."
unfoldable pub imported : List ℕ → ℕ → Imported
imported s room = cond (ltb room longest_text) (answer 29 0 0) (answer_to s)

-- The result itself, which says of two refusals of one number which it is; proofs/Promises.antt: its number, line and length are those of `imported`.

-- a fault's refusal, or another result where there is none
abbrev pub refused_by : Option Fault → Result ℕ Refusal → Result ℕ Refusal
refused_by (Some f) other = Err (Line f)
refused_by None other = other

-- whatever room is lent: "18 at line 0, SFC text over 16,384 bytes; then the first faulty line ..; last, at line 0, 16 for no initial step, 18 for a result
-- over 16,384 bytes"
unfoldable pub conclusion : List ℕ → Result ℕ Refusal
conclusion s =
    cond (ltb longest_text (length s)) (Err LongText)
    (refused_by (first_fault s)
    (cond (is_none (initial_tokens (program_in s))) (Err NoInitialStep)
    (cond (ltb longest_text (length (write (chart_in s)))) (Err LongResult)
    (Ok (length (write (chart_in s)))))))

-- "29, less room lent, before all others"
unfoldable pub returned : List ℕ → ℕ → Result ℕ Refusal
returned s room = cond (ltb room longest_text) (Err ShortRoom) (conclusion s)

-- "All of these leave the lent bytes untouched, a success those past its result."
unfoldable pub result_of : List ℕ → ℕ → List ℕ
result_of s room = cond (eqb (imported s room).number 0) (write (chart_in s)) []

-- "the map is printed": the names of each kind by their numbers; a refused text has none
abbrev pub empty_map : Map
empty_map = record { steps = []; inputs = []; outputs = [] }

unfoldable pub map_in : List ℕ → Map
map_in s = cond (eqb (answer_to s).number 0) (map_of s (program_in s)) empty_map

-- the map that the code's tables are
abbrev pub map_by : Names → Names → Names → Map
map_by steps inputs outputs = record { steps = list_of steps; inputs = list_of inputs; outputs = list_of outputs }

-- the names of a kind: 0 steps, 1 inputs, 2 outputs
unfoldable pub names_by : Map → ℕ → List Token
names_by m k = cond (eqb k 0) m.steps (cond (eqb k 1) m.inputs (cond (eqb k 2) m.outputs []))

-- where the name of an item lies in the text; the empty part at its start where there is none
unfoldable pub place_in : List Token → ℕ → Place
place_in [] j = record { start = 0; length = 0 }
place_in (t ∷ names) zero = record { start = t.place; length = t.size }
place_in (t ∷ names) (suc j) = place_in names j

-- What the parts of the code hand to each other: for a text that can be brought in what was read and the length of its result, or the refusal.
abbrev pub Judges : List ℕ → Result Judged Refusal → Type 0
Judges s (Ok j) = (j.reading ≡ reading_of s) × (conclusion s ≡ Ok j.length)
Judges s (Err r) = conclusion s ≡ Err r
