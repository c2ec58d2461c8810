-- Which numbers the answer to a line may be.
use Prim.Native.Nat.{ℕ}
use mathlib.Core.Bool.{Bool, true, false, not, ◌&&◌, ◌||◌}
use mathlib.Core.List.{List, [], ◌∷◌}
use mathlib.Core.Path.{◌≡◌, refl}
use lib.Dec.{eqb, leb}
use lib.ListN.{length}
use Rattle.text.specs.Members.{is_among}
use Rattle.cond.specs.Lowest.{given}
use Rattle.cond.specs.Judging.{judged}
use Rattle.cond.proofs.Judging.Lowest.{lower_so, given_so, judged_so}
use Rattle.std.specs.Prelude.{Option}
use Rattle.line.specs.declared.Kind.{Kind}
use Rattle.line.specs.Chart.{Chart}
use Rattle.line.specs.Kinds.{number_line, follows}
use Rattle.line.specs.Write.{Line, number', initial', move', hold', latch', end', wrong, kind, total}
use Rattle.line.specs.Rules.{empty, rising, beyond, is_held, declared_by, line_bound, rules, fault}

-- whatever is so of these numbers is so of it
module _ (P : ℕ → Type 0) (p0 : P 0) (p2 : P 2) (p3 : P 3) (p4 : P 4) (p6 : P 6) (p7 : P 7) (p8 : P 8) (p9 : P 9) where
  one : (n : ℕ) (t : Bool) → P n → P (given n t)
  one n t p = given_so P n t p0 p

  condition_so : (c : Chart) (hold : Bool) (s : List ℕ) → P (judged (declared_by c) hold s)
  condition_so c hold s = judged_so P p0 p4 p6 p7 (declared_by c) hold s

  rules_so : (c : Chart) (l : Line) → P (rules c l)
  unfolding rules
  rules_so c (number' q v) = one 3 (not (leb (number_line q).from v && leb v (number_line q).to)) p3
  rules_so c (initial' l) = lower_so P _ _ (one 3 (empty l || not (rising 0 l)) p3) (one 6 (beyond c.head.steps l) p6)
  rules_so c (move' m) =
      lower_so P _ _ (one 3 (leb line_bound (length c.body.moves)) p3)
      (lower_so P _ _ (one 3 (not (rising 0 m.before && rising 0 m.after) || (empty m.before && empty m.after)) p3)
      (lower_so P _ _ (condition_so c false m.condition) (one 6 (beyond c.head.steps m.before || beyond c.head.steps m.after) p6)))
  rules_so c (hold' x) =
      lower_so P _ _ (one 3 (leb line_bound (length c.body.holds)) p3)
      (lower_so P _ _ (condition_so c true x.condition) (one 6 (leb c.head.steps x.step || leb c.head.outputs x.output) p6))
  rules_so c (latch' x) =
      lower_so P _ _ (one 3 (leb line_bound (length c.body.latches)) p3)
      (lower_so P _ _ (one 6 (leb c.head.steps x.step || leb c.head.outputs x.output) p6) (one 8 (is_held x.output c.body.holds) p8))
  rules_so c (end' v) = one 9 (not (eqb v (total c))) p9
  rules_so c wrong = p0

  fault_so : (k : Option Kind) (c : Chart) (l : Line) → P (fault k c l)
  unfolding fault
  fault_so k c l = lower_so P _ _ (one 2 (not (follows k (kind l))) p2) (rules_so c l)

abbrev pub line_answers : List ℕ
line_answers = 0 ∷ 2 ∷ 3 ∷ 4 ∷ 6 ∷ 7 ∷ 8 ∷ 9 ∷ []

pub fault-among : (k : Option Kind) (c : Chart) (l : Line) → is_among (fault k c l) line_answers ≡ true
unfolding is_among
fault-among = fault_so (λ n. is_among n line_answers ≡ true) refl refl refl refl refl refl refl refl
