use Rattle.evolve.specs.Table.{net_in}
use Rattle.engine.specs.State.{state_accepted}
use Rattle.engine.specs.Parts.{plan_in}
use Rattle.engine.proofs.accept.state_accepted.Goals as goal

pub returns : goal.returns
unfolding state_accepted plan_in net_in
returns c =
    let steps = c.word_fits-a in
    let inputs = c.word_fits-b in
    let outputs = c.word_fits-d in
    let named = c.latchable-named in
    rw (steps.ensures, inputs.ensures, outputs.ensures, named.ensures, c.ages_accepted-e.ensures)
