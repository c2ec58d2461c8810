-- A way of the proofs: what laws beside the answers speak of.
use Rattle.std.specs.Prelude.{ℕ}
use Rattle.cond.specs.declared.View.{View}

-- a view with other latched outputs
abbrev pub relatched : View → ℕ → View
relatched v w =
    record {
      moment = record { situation = v.moment.situation; previous = v.moment.previous; latched = w };
      inputs = v.inputs;
      old = v.old;
      ages = v.ages;
    }
