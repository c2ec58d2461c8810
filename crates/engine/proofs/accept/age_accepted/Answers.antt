use Rattle.engine.proofs.accept.age_accepted.Goals as goal

pub returns : goal.returns
returns c = rw c.has_item-active.ensures
