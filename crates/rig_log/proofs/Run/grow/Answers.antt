use Rattle.rig_log.proofs.Runs.Turns.{grown-room, grown_full}
use lib.ListN.{length}
use mathlib.Core.Path.{◌≡◌}
use borrow.Author.Rules.{rules}
use Rattle.rig_log.proofs.Run.grow.Goals as goal

pub returns-then-at-lt-LINE-clause-line : goal.returns-then-at-lt-LINE-clause-line
returns-then-at-lt-LINE-clause-line c =
    let l : length c.args.self.now.line.bytes ≡ 32 = search rules in
    grown-room _ _ _ l c.if-at-lt-LINE.true

pub returns-else-at-lt-LINE-clause-line : goal.returns-else-at-lt-LINE-clause-line
returns-else-at-lt-LINE-clause-line c =
    let l : length c.args.self.now.line.bytes ≡ 32 = search rules in
    grown_full _ _ _ l c.if-at-lt-LINE.false
