use mathlib.Core.Path.{◌≡◌}
use lib.ListN.{length}
use Rattle.line.specs.Words.{table_words}
use Rattle.chart.proofs.Rows.Said.{read-long, read_short}
use borrow.Author.Rules.{rules}
use Rattle.chart.proofs.read.Goals as goal

pub returns-then-text-gt-TEXT : goal.returns-then-text-gt-TEXT
returns-then-text-gt-TEXT c =
    let said = read-long c.args.text.now c.args.table.now c.if-text-gt-TEXT.true in
    record { value = said.0; tabled = said.1.0; table_says = said.1.1 }

pub returns : goal.returns
returns c =
    let long : length c.args.table.now ≡ table_words = search rules in
    let said = read_short c.args.text.now c.args.table.now long c.if-text-gt-TEXT.false (c.fill.ensures.value, c.fill.ensures.tabled) in
    record { value = said.0; tabled = said.1.0; table_says = said.1.1 }
