use Rattle.evolve.specs.Parts.{led, led_to}
use Rattle.evolve.proofs.Chart.led.Goals as goal

pub returns : goal.returns
unfolding led
returns c =
    let z = c.args in
    let l = c.latch.ensures in
    λ t. record { situation = led_to z.f z.m.situation; previous = z.m.situation; latched = l t }
