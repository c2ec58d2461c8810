-- What each exported call says, and what its lent slices hold afterwards. 0 says that the call was made; 1 that a slice has the wrong length,
-- and then every slice is as it was.
use Rattle.std.specs.Prelude.{Bool, true, false, ◌&&◌, List, [], ◌∷◌, ℕ, eqb, length}
use Rattle.std.proofs.lemmas.List.Edits.{sets}
use Rattle.chart.specs.Reading.{verdict, looked_up}
use Rattle.engine.specs.declared.Answer.{Answer}
use Rattle.engine.specs.Answers.{Outcome}
use Rattle.engine.specs.Texts.{started, evented}
use Rattle.sfc.specs.declared.Imported.{Imported}
use Rattle.sfc.specs.Import.{imported, result_of, map_in, names_by, place_in}
use Rattle.host.specs.State.{state_in, words_of}

-- Check and lookup: one slice of two words

pub record Shown : Type 0 where
  pub said : ℕ
  pub out : List ℕ

-- these words, if they fit
abbrev pub shown_if : Bool → List ℕ → List ℕ → Shown
shown_if true words out = record { said = 0; out = words }
shown_if false words out = record { said = 1; out = out }

-- number and line
unfoldable pub hosted_check : List ℕ → List ℕ → Shown
hosted_check text out = shown_if (eqb (length out) 2) ((verdict text).number ∷ (verdict text).line ∷ []) out

-- start and length of the part of the text that is the k-th move's condition
unfoldable pub hosted_lookup : List ℕ → ℕ → List ℕ → Shown
hosted_lookup text k out = shown_if (eqb (length out) 2) (length (looked_up text k).before ∷ length (looked_up text k).part ∷ []) out

-- Start and event: 33 words of state, three words of answer, and a trace of any length

pub record Hosted : Type 0 where
  pub said : ℕ
  pub state : List ℕ
  pub out : List ℕ
  pub trace : List ℕ

-- number, count and outputs
abbrev pub answer_words : Answer → List ℕ
answer_words a = a.number ∷ a.count ∷ a.outputs ∷ []

unfoldable pub hosted_if : Bool → Outcome → List ℕ → List ℕ → List ℕ → Hosted
hosted_if true o state out trace = record { said = 0; state = words_of o.answer.state; out = answer_words o.answer; trace = o.trace }
hosted_if false o state out trace = record { said = 1; state = state; out = out; trace = trace }

abbrev pub lengths_fit : List ℕ → List ℕ → Bool
lengths_fit state out = eqb (length state) 33 && eqb (length out) 3

unfoldable pub hosted_start : List ℕ → ℕ → List ℕ → List ℕ → List ℕ → Hosted
hosted_start text inputs state out trace = hosted_if (lengths_fit state out) (started text inputs trace) state out trace

unfoldable pub hosted_event : List ℕ → ℕ → ℕ → List ℕ → List ℕ → List ℕ → Hosted
hosted_event text elapsed inputs state out trace =
    hosted_if (lengths_fit state out) (evented text (state_in state) elapsed inputs trace) state out trace

-- Import: room of any length, and three words: number, line and the result's length

pub record HostedRoom : Type 0 where
  pub said : ℕ
  pub room : List ℕ
  pub out : List ℕ

abbrev pub import_words : Imported → List ℕ
import_words a = a.number ∷ a.line ∷ a.length ∷ []

unfoldable pub hosted_room_if : Bool → List ℕ → List ℕ → List ℕ → HostedRoom
hosted_room_if true text room out =
    record { said = 0; room = sets room 0 (result_of text (length room)); out = import_words (imported text (length room)) }
hosted_room_if false text room out = record { said = 1; room = room; out = out }

unfoldable pub hosted_import : List ℕ → List ℕ → List ℕ → HostedRoom
hosted_import text room out = hosted_room_if (eqb (length out) 3) text room out

-- start and length of the part of the text that is the name of item k of a kind: 0 steps, 1 inputs, 2 outputs
unfoldable pub hosted_name : List ℕ → ℕ → ℕ → List ℕ → Shown
hosted_name text kind k out =
    shown_if (eqb (length out) 2) ((place_in (names_by (map_in text) kind) k).start ∷ (place_in (names_by (map_in text) kind) k).length ∷ []) out
