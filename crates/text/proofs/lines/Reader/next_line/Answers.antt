use borrow.Author.Rules.{rules}
use Prim.Native.Nat.{◌<◌}
use lib.ListN.{length}
use Rattle.text.proofs.Places.{place-below}
use Rattle.text.proofs.lines.Reader.next_line.Goals as goal

pub place_after-self-requires : goal.place_after-self-requires
place_after-self-requires c =
    let s = c.args.self.now in
    let a : s.at < 18446744073709551616 = search rules in
    let l : length s.text.now < 18446744073709551616 = search rules in
    rw c.line_at-taken.ensures (place-below _ _ 18446744073709551616 l a)
