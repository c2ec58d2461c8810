-- 01, Answer numbers, of a text, as 02 leaves them, and the line that each is given with.
use Rattle.std.specs.Prelude.{true, List, [], ◌∷◌, ◌≡◌, ℕ, ◌≤◌}
use Rattle.text.specs.Members.{is_among}
use Rattle.chart.specs.declared.Verdict.{Verdict}

-- 02, P5: "Strike the deep-bracket answer .. Number 5 isn't used again"
abbrev pub text_numbers : List ℕ
text_numbers = 1 ∷ 2 ∷ 3 ∷ 4 ∷ 6 ∷ 7 ∷ 8 ∷ 9 ∷ []

-- what the answer to a text may be: 0, or a refusal with its line
pub record TextAnswer (v : Verdict) : Type 0 where
  -- "Each refusal has a number from document 01"
  pub number : is_among v.number (0 ∷ text_numbers) ≡ true
  -- 1: "line 0"; 0 has none
  pub whole : v.number ≤ 1 → v.line ≡ 0
  -- the others: "line". "Lines count from 1"
  pub line : 2 ≤ v.number → 1 ≤ v.line
