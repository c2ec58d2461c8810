-- The condition of each move holds in a view exactly if the condition of its transition holds, each name being on if its input is.
use mathlib.Core.Bool.{not}
use mathlib.Core.List.{List}
use mathlib.Core.Path.{◌≡◌, refl, ap, ◌∙◌}
use Prim.Native.Nat.{ℕ, ◌≤◌}
use lib.ListN.{length}
use Rattle.text.specs.Words.{has}
use Rattle.cond.specs.declared.View.{View}
use Rattle.cond.specs.Meaning.{true_in}
use Rattle.cond.specs.Judging.{held_by}
use Rattle.cond.proofs.Promises.{held_as}
use Rattle.line.specs.Chart.{Move}
use Rattle.chart.specs.WellFormed.{Every, every_cons}
use Rattle.tokens.specs.declared.Token.{Token}
use Rattle.naming.specs.Names.{number_in}
use Rattle.grammar.specs.Program.{Expr, true', false', variable, not', brackets, and', or', Program}
use Rattle.grammar.specs.Grammar.{condition, Reads, ReadsText, the_end, more-items, a_step, a_transition}
use Rattle.sfc.specs.Chart.{Map, map_of, spell, moves_of, chart_by, chart_of}
use Rattle.sfc.specs.Meaning.{evaluates, conditions_of, Pairs, pairs_nil, pairs_cons}
use Rattle.sfc.specs.Fits.{Fits}
use Rattle.sfc.proofs.Conditions.{translated, condition-written}

module _ (s : List ℕ) (m : Map) where
  -- what a condition becomes holds as it does
  holds-alike : (v : View) (e : Expr) → true_in v (translated s m e) ≡ evaluates (λ t. has v.inputs (number_in s t m.inputs)) e
  unfolding translated true_in evaluates
  holds-alike v true' = refl
  holds-alike v false' = refl
  holds-alike v (variable t) = refl
  holds-alike v (not' e) = ap not (holds-alike v e)
  holds-alike v (brackets e) = holds-alike v e
  holds-alike v (and' e f) = rw (holds-alike v e, holds-alike v f)
  holds-alike v (or' e f) = rw (holds-alike v e, holds-alike v f)

  -- the bytes of a condition hold in a view exactly if the SFC condition e holds there
  abbrev pub Means : Expr → List ℕ → Type 0
  Means e w = (v : View) → held_by v w ≡ evaluates (λ t. has v.inputs (number_in s t m.inputs)) e

  -- a condition that is written means what it says
  pub condition-kept : {us vs : List Token} {e : Expr} → length m.inputs ≤ 32 → length (spell s m e) ≤ 64 → Reads condition us vs e → Means e (spell s m e)
  condition-kept {e} n l x v = held_as v (spell s m e) (translated s m e) (record { short = l; spans = condition-written s m n x }) ∙ holds-alike v e

  -- and so does that of every move
  moves-kept : {us : List Token} {p : Program} → length m.inputs ≤ 32 → ReadsText s us p → Every (λ (x : Move). length x.condition ≤ 64) (moves_of s m p)
      → Pairs (λ (e : Expr) (x : Move). Means e x.condition) (conditions_of p) (moves_of s m p)
  unfolding moves_of conditions_of
  moves-kept n (the_end k) e = pairs_nil
  moves-kept n (more-items (a_step i k t c a z) r) e = moves-kept n r e
  moves-kept n (more-items (a_transition k f b t a q c z y) r) (every_cons l e) = pairs_cons (condition-kept n l c) (moves-kept n r e)

-- the moves of a program's chart are its transitions in order, and each move's condition holds exactly if its transition's does
pub meaning-kept : (s : List ℕ) (p : Program) (us : List Token) → ReadsText s us p → Fits (chart_of s p)
    → Pairs (λ (e : Expr) (x : Move). (v : View) → held_by v x.condition ≡ evaluates (λ t. has v.inputs (number_in s t (map_of s p).inputs)) e)
    (conditions_of p) (chart_of s p).body.moves
unfolding chart_by
meaning-kept s p us r f = moves-kept s (map_of s p) f.few_inputs r f.short_conditions
