-- The lines of the rig's log: what is read, and what is written. 01, Rig log.
use Rattle.std.specs.Prelude.{List, ◌++◌, ◌≡◌, ℕ, ◌≤◌}
use Rattle.text.specs.Decimal.{decimal}
use Rattle.text.specs.Keys.{bytes}
use Rattle.text.specs.Words.{largest_word}
use Rattle.text.specs.Writing.{keyed}
use Rattle.rig_log.specs.declared.Entry.{Entry}
use Rattle.rig_log.specs.declared.Entry.TheVariants.{Go, Event}

-- What a line of the input says, its byte 10 left out: "`go=W`, then `ev=E:W` lines (elapsed, inputs; 1 to 10 digits, no leading zero but for 0
-- itself, at most 4,294,967,295)". A written number has no leading zero, and up to this bound at most 10 digits.
pub data Says (w : List ℕ) : Entry → Type 0 where
  go : (v : ℕ) → v ≤ largest_word → w ≡ bytes "go=" ++ decimal v → Says w (Go v)
  event : (e v : ℕ) → e ≤ largest_word → v ≤ largest_word → w ≡ bytes "ev=" ++ (decimal e ++ (bytes ":" ++ decimal v)) → Says w (Event e v)

-- What is written: lines, each a key, a number and byte 10.
-- "For each it prints four lines: answer number, count, situation word, outputs word."
unfoldable pub block : ℕ → ℕ → ℕ → ℕ → List ℕ
block number count situation outputs =
    keyed (bytes "ans=") number ++ (keyed (bytes "n=") count ++ (keyed (bytes "sit=") situation ++ keyed (bytes "out=") outputs))

-- "prints `bad=` with its line number"
abbrev pub bad_line : ℕ → List ℕ
bad_line n = keyed (bytes "bad=") n
