-- A way of the code: where a line ends, what a reader of lines hands out, and where it then stands. `handed_out` (proofs/Promises.antt) says that these are the text's lines.
use Rattle.std.specs.Prelude.{List, ◌≡◌, ℕ, ◌+◌, max, ◌≤◌, ◌<◌, length, drop}
use Rattle.text.specs.Bytes.{byte_at}
use Rattle.text.specs.Lines.{Lines, nothing, unended, line, line_end, split}
use Rattle.text.specs.declared.lines.Reader.{Reader}
use Rattle.text.specs.declared.lines.Taken.{Taken}
use Rattle.text.specs.declared.lines.Taken.TheVariants.{Line, Open, End}

-- e is the place of the first byte 10 from a on, or the text's end, or a itself past it
pub record EndsAt (s : List ℕ) (a e : ℕ) : Type 0 where
  pub from : a ≤ e
  pub within : e ≤ max a (length s)
  pub ends : e < length s → byte_at s e ≡ line_end
  pub none_before : (i : ℕ) → a ≤ i → i < e → byte_at s i ≡ line_end → ⊥

abbrev pub taken : ℕ → Lines → Taken
taken a nothing = End
taken a unended = Open
taken a (line w x) = Line (a + length w)

-- the first of the lines from there on
abbrev pub taken_at : List ℕ → ℕ → Taken
taken_at t a = taken a (split (drop a t))

-- past the line's byte 10, or the same place if there was no line
abbrev pub place_after : Taken → ℕ → ℕ
place_after (Line e) a = e + 1
place_after Open a = a
place_after End a = a

-- 01: "a reader that carries the text with its place and hands out one line per asking".
-- One asking of the reader r: it hands out t, and is r' after it.
pub record Asked (r : Reader) (t : Taken) (r' : Reader) : Type 0 where
  pub hands : t ≡ taken_at r.text.now r.at
  pub keeps : r'.text ≡ r.text
  pub moves : r'.at ≡ place_after t r.at
