-- A reader of lines that is asked again and again. 01: "a reader that carries the text with its place and hands out one line per asking".
use Rattle.std.specs.Prelude.{ℕ, ◌-◌, take, drop}
use Rattle.text.specs.Lines.{Lines, nothing, unended, line}
use Rattle.text.specs.Places.{Asked}
use Rattle.text.specs.declared.lines.Reader.{Reader}
use Rattle.text.specs.declared.lines.Taken.TheVariants.{Line, Open, End}

-- The chain of askings until there is no line to hand out, and the lines that were: each asking has any result that the contract of `next_line` (`Asked`) allows,
-- and a line's bytes stand from the reader's place to the line's end.
pub data Asking : Reader → Lines → Type 0 where
  no_more : (r r' : Reader) → Asked r End r' → Asking r nothing
  no_end : (r r' : Reader) → Asked r Open r' → Asking r unended
  line-more : (r r' : Reader) (e : ℕ) (x : Lines) → Asked r (Line e) r' → Asking r' x
      → Asking r (line (take (e - r.at) (drop r.at r.text.now)) x)
