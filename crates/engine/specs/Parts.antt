-- A way of the code: the plan that stands in a table. `plan_is` (proofs/Calls/Texts.antt) fixes it: of an accepted text it is the plan of its chart. The contracts
-- of `start` and `event` (src/lib.rt) fix what `answer_in` hands on.
use Rattle.std.specs.Prelude.{List, ℕ, get_or}
use Rattle.cond.specs.declared.View.{View}
use Rattle.line.specs.Words.{initial_at, inputs_at, outputs_at}
use Rattle.evolve.specs.declared.End.{End}
use Rattle.evolve.specs.declared.End.TheVariants.{Rest, Loops, Cut}
use Rattle.evolve.specs.Evolution.{end_number, end_count}
use Rattle.evolve.specs.Table.{holds_in, net_in}
use Rattle.engine.specs.declared.State.{State}
use Rattle.engine.specs.declared.Answer.{Answer}
use Rattle.engine.specs.Plan.{Plan}
use Rattle.engine.specs.Answers.{refusal, resting}

-- the plan of a table and of the text that its conditions lie in
unfoldable pub plan_in : List ℕ → List ℕ → Plan
plan_in text t =
    record {
      initial = get_or t initial_at 0;
      inputs = get_or t inputs_at 0;
      outputs = get_or t outputs_at 0;
      net = net_in text t;
      holds = holds_in text t;
    }

-- the answer to a call that was given g, whose evolution ended so and left off in u
unfoldable pub answer_in : Plan → View → State → End → Answer
answer_in p u g (Rest k) = resting p g k u
answer_in p u g (Loops j) = refusal (end_number (Loops j)) (end_count (Loops j)) g
answer_in p u g (Cut l) = refusal (end_number (Cut l)) (end_count (Cut l)) g
