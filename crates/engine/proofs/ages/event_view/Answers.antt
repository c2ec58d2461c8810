use Rattle.std.proofs.Common.{rules}
use Rattle.engine.specs.State.{aged_at, aged, event_view}
use Rattle.engine.proofs.ages.event_view.Goals as goal

pub returns : goal.returns
unfolding event_view aged
returns c =
    let z = c.args in
    rw (c.each_age.ensures (aged_at z.state.situation z.event.elapsed) (λ j a r e. search rules))
