-- A way of the code: the same answers, computed from what is read.
-- `judged_exactly`, `held_exactly` and `meaning_exactly` (proofs/Promises.antt) fix what `judged`, `held_by` and `meaning` yield.
use Rattle.std.specs.Prelude.{Bool, ◌&&◌, List, ℕ}
use Rattle.cond.specs.declared.Declared.{Declared}
use Rattle.cond.specs.Lowest.{given, lower}
use Rattle.cond.specs.declared.View.{View}
use Rattle.cond.specs.Meaning.{Cond, never, true_in, undeclared, edged}
use Rattle.cond.specs.Reading.{Reading, got, none, read_cond}

-- the answer to a condition's bytes, in a chart that declares d, in a hold or not
unfoldable pub judged_as : Declared → Bool → Reading → ℕ
judged_as d hold (got c e) = lower (given 6 (undeclared d c)) (given 7 (hold && edged c))
judged_as d hold none = 4

unfoldable pub judged : Declared → Bool → List ℕ → ℕ
judged d hold s = judged_as d hold (read_cond s)

-- what a condition's bytes mean: bytes that are no condition never hold
unfoldable pub meant_as : Reading → Cond
meant_as (got c e) = c
meant_as none = never

unfoldable pub meaning : List ℕ → Cond
meaning s = meant_as (read_cond s)

-- whether a condition's bytes hold in a view
abbrev pub held_by : View → List ℕ → Bool
held_by v s = true_in v (meaning s)
