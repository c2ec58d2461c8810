use mathlib.Core.Path.{refl}
use native.Mathlib.Omega.{arith}
use lib.ListN.{replicate}
use Rattle.line.specs.Words.{table_words}
use Rattle.chart.proofs.Rows.Lookup.{headed, none-refused, number-0, too-high, row_inside, part_there}
use Rattle.chart.proofs.condition_of.Goals as goal
use Rattle.chart.proofs.condition_of.Goals.{then-k-eq0-via-then-k-eq0, then-k-eq0-via-else-k-eq0+then-table-k}

pub returns-in_default : goal.returns-in_default
returns-in_default c = none-refused c.args.text.now c.args.k c.read.result c.read.ensures.value c.in_default.not-Ok

pub returns-then-k-eq0 : goal.returns-then-k-eq0
returns-then-k-eq0 c =
    let d = headed c.args.text.now _ _ c.in-Ok.is c.read.ensures.value c.read.ensures.table_says in
    elim c.then-k-eq0.branch [
      | then-k-eq0-via-then-k-eq0 w ↦ number-0 c.args.text.now c.args.k d w.if-k-eq0.true
      | then-k-eq0-via-else-k-eq0+then-table-k w ↦ too-high c.args.text.now c.args.k d w.if-table-k.true
    ]

pub bounds-table-i : goal.bounds-table-i
bounds-table-i c =
    let d = headed c.args.text.now _ _ c.in-Ok.is c.read.ensures.value c.read.ensures.table_says in
    let r = row_inside c.args.text.now c.args.k d c.if-k-eq0.false c.if-table-k.false in
    omega arith

pub returns : goal.returns
returns c =
    let d = headed c.args.text.now _ _ c.in-Ok.is c.read.ensures.value c.read.ensures.table_says in
    part_there c.args.text.now c.args.k d c.if-k-eq0.false c.if-table-k.false (replicate table_words 0) refl c.read.ensures.tabled c.at.result c.at.ensures
