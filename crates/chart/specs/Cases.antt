-- Worked texts and their answers, read off 01 and its readings by hand: one table, one theorem.
use Rattle.std.specs.Prelude.{Bool, true, ◌&&◌, List, [], ◌∷◌, ◌++◌, ℕ, zero, suc, eqb}
use Prim.Native.String.{String}
use Rattle.text.specs.Keys.{bytes}
use Rattle.chart.specs.Reading.{verdict}

unfoldable pub times : ℕ → List ℕ → List ℕ
times zero s = []
times (suc n) s = s ++ times n s

pub record Case : Type 0 where
  pub text : List ℕ
  pub number : ℕ
  pub line : ℕ

abbrev pub case : List ℕ → ℕ → ℕ → Case
case t a n = record { text = t; number = a; line = n }

unfoldable pub right : List Case → Bool
right [] = true
right (x ∷ l) = (eqb (verdict x.text).number x.number && eqb (verdict x.text).line x.line) && right l

-- a head of six lines, and lines after it
unfoldable pub case_head : List ℕ
case_head = bytes "chart=1\nsteps=4\ninitial=0\ninputs=2\noutputs=2\nlimit=16\n"

unfoldable pub after : String → List ℕ
after s = case_head ++ bytes s

unfoldable pub table : List Case
table =
    -- 01, Rig log, and its smallest neighbour
    case (after "move=0>1:ui0\nmove=1>2:1\nmove=2>3:200/x2\nmove=3>0:!i0\nhold=1:0:1\nhold=3:0:i1\nlatch=1:u:1:1\nlatch=3:d:1:0\nend=8\n") 0 0 ∷
    case (after "end=0\n") 0 0 ∷
    -- 1
    case (times 8193 (bytes "\n\n")) 1 0 ∷
    -- 2: "an empty text gives 2 at line 1"; a missing line, a repeated one, one out of place, a wrong shape, no final byte 10, anything after `end`
    case [] 2 1 ∷
    case (bytes "chart=1\n") 2 2 ∷
    case (bytes "chart=9") 2 1 ∷
    case (bytes "chart=1\nchart=1\n") 2 2 ∷
    case (after "hold=1:0:1\nmove=0>1:1\nend=2\n") 2 8 ∷
    case (after "move=0>1>0:1\nend=1\n") 2 7 ∷
    case (after "latch=0:u:0:2\nend=1\n") 2 7 ∷
    case (after "end=7") 2 7 ∷
    case (after "end=0\n\n") 2 8 ∷
    -- 3: head numbers, list rules, the 65th line
    case (bytes "chart=9\n") 3 1 ∷
    case (bytes "chart=1\nsteps=31\n") 3 2 ∷
    case (bytes "chart=1\nsteps=2\ninitial=9,8\n") 3 3 ∷
    case (bytes "chart=1\nsteps=2\ninitial=\n") 3 3 ∷
    case (after "move=>:1\nend=1\n") 3 7 ∷
    case (after "move=1,1>0:1\nend=1\n") 3 7 ∷
    case (case_head ++ times 64 (bytes "move=0>1:1\n") ++ bytes "end=64\n") 0 0 ∷
    case (case_head ++ times 65 (bytes "move=0>1:1\n") ++ bytes "end=65\n") 3 71 ∷
    case (case_head ++ times 64 (bytes "move=0>1:1\n") ++ bytes "move=0>1\nend=65\n") 2 71 ∷
    -- 4, 6 and 7, the lowest of several
    case (after "move=9>1:?\nend=1\n") 4 7 ∷
    case (after "move=0>1:0/x9\nend=1\n") 4 7 ∷
    case (after "hold=9:9:ux0.\nend=1\n") 4 7 ∷
    case (bytes "chart=1\nsteps=2\ninitial=0,9\n") 6 3 ∷
    case (after "move=0>4:1\nend=1\n") 6 7 ∷
    case (after "hold=0:0:ux9\nend=1\n") 6 7 ∷
    case (after "hold=0:0:ux0\nend=1\n") 7 7 ∷
    -- 8 and 9; the first faulty line
    case (after "hold=0:0:1\nlatch=0:u:0:1\nend=2\n") 8 8 ∷
    case (after "hold=0:0:1\nlatch=9:u:0:1\nend=2\n") 6 8 ∷
    case (after "end=9999999\nend=0\n") 9 7 ∷
    case (after "move=0>1:\nmove=\nend=2\n") 4 7 ∷
    []
