use Rattle.sfc.proofs.Answers.{kind-steps, kind-inputs, kind-outputs, kind-none, place_past}
use Rattle.sfc.specs.Chart.{Map}
use Rattle.sfc.specs.Import.{map_in, place_in}
use Rattle.tokens.specs.declared.Token.{Token}
use mathlib.Core.List.{List, []}
use mathlib.Core.Path.{sym, ap, ◌∙◌}
use native.Mathlib.Omega.{arith}
use Rattle.sfc.proofs.name.Goals as goal

pub returns-in-0 : goal.returns-in-0
returns-in-0 c = c.place_in.ensures ∙ ap (λ (m : Map). place_in m.steps c.args.k) c.names-m.ensures ∙ sym (ap (λ (l : List Token). place_in l c.args.k) (kind-steps (map_in c.args.text.now) _ c.in-0.is))

pub returns-in-1 : goal.returns-in-1
returns-in-1 c = c.place_in-in-1.ensures ∙ ap (λ (m : Map). place_in m.inputs c.args.k) c.names-m.ensures ∙ sym (ap (λ (l : List Token). place_in l c.args.k) (kind-inputs (map_in c.args.text.now) _ c.in-1.is))

pub returns-in-2 : goal.returns-in-2
returns-in-2 c = c.place_in-in-2.ensures ∙ ap (λ (m : Map). place_in m.outputs c.args.k) c.names-m.ensures ∙ sym (ap (λ (l : List Token). place_in l c.args.k) (kind-outputs (map_in c.args.text.now) _ c.in-2.is))

pub returns-in_default : goal.returns-in_default
returns-in_default c = sym (ap (λ (l : List Token). place_in l c.args.k) (kind-none (map_in c.args.text.now) _ (omega arith) (omega arith) (omega arith)) ∙ place_past [] _ (omega arith))
