use Rattle.text.proofs.Putting.{put_then, twenty_digits}
use Rattle.text.specs.Writing.{keyed}
use native.Mathlib.Omega.{arith}
use Rattle.text.proofs.writing.put_line.Goals as goal

pub put_decimal-b-requires : goal.put_decimal-b-requires
put_decimal-b-requires c = let d = twenty_digits c.args.v c.ranges.v.fits in omega arith

pub put_byte-requires : goal.put_byte-requires
put_byte-requires c = let d = twenty_digits c.args.v c.ranges.v.fits in omega arith

pub returns : goal.returns
unfolding keyed
returns c =
    let d = twenty_digits c.args.v c.ranges.v.fits in
    record {
      put = put_then _ _ _ _ _ _ _ _ c.put_bytes-a.ensures (put_then _ _ _ _ _ _ _ _ c.put_decimal-b.ensures c.put_byte.ensures);
      upper_bound = omega arith;
    }
