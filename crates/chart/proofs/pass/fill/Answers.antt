use mathlib.Core.Path.{◌∙◌, sym}
use native.Mathlib.Omega.{arith}
use Rattle.chart.proofs.Rows.Ends.{line_ends, none_ends}
use Rattle.chart.proofs.Rows.Filling.{filling_start, filling_next, room_for, ends_done, ends_lacking, ends_open, ends-fault, last_is}
use borrow.Author.Rules.{rules}
use Rattle.chart.proofs.pass.fill.Goals as goal
use Rattle.chart.proofs.pass.fill.Goals.{then-at-text-via-then-at-text, then-at-text-via-else-at-text+then-ne}

pub lines-init : goal.lines-init
lines-init c = (search rules, rw c.nothing-known.ensures (filling_start _ _))

pub slice_bounds-judge-count : goal.slice_bounds-judge-count
slice_bounds-judge-count c = let y = (line_ends c.args.text.now c.lines.at c.in-Some.end (sym c.in-Some.is ∙ c.end_of_line.ensures)).0.from in omega arith

pub slice_bounds-judge-start : goal.slice_bounds-judge-start
slice_bounds-judge-start c = let y = (line_ends c.args.text.now c.lines.at c.in-Some.end (sym c.in-Some.is ∙ c.end_of_line.ensures)).0.from in omega arith

pub slice_bounds-judge-end : goal.slice_bounds-judge-end
slice_bounds-judge-end c = let y = (line_ends c.args.text.now c.lines.at c.in-Some.end (sym c.in-Some.is ∙ c.end_of_line.ensures)).1 in omega arith

pub returns-in-Err : goal.returns-in-Err
returns-in-Err c =
    let y = line_ends c.args.text.now c.lines.at c.in-Some.end (sym c.in-Some.is ∙ c.end_of_line.ensures) in
    let fault = ends-fault c.lines.invariant.1 y.0 y.1 c.judge.new.known c.judge.result c.judge.ensures c.in-Err.fault c.in-Err.is in
    record { value = fault.0; tabled = fault.1 }

pub store-requires-clause-room : goal.store-requires-clause-room
store-requires-clause-room c =
    let y = line_ends c.args.text.now c.lines.at c.in-Some.end (sym c.in-Some.is ∙ c.end_of_line.ensures) in
    room_for c.lines.invariant.1 y.0 y.1 c.judge.new.known c.judge.result c.judge.ensures c.in-Ok.is

pub overflow_add-at : goal.overflow_add-at
overflow_add-at c = let y = (line_ends c.args.text.now c.lines.at c.in-Some.end (sym c.in-Some.is ∙ c.end_of_line.ensures)).1 in omega arith

pub overflow_add-line_number : goal.overflow_add-line_number
overflow_add-line_number c =
    let y = line_ends c.args.text.now c.lines.at c.in-Some.end (sym c.in-Some.is ∙ c.end_of_line.ensures) in
    let few = c.lines.invariant.1.few in
    omega arith

pub lines-smaller : goal.lines-smaller
lines-smaller c = let y = line_ends c.args.text.now c.lines.at c.in-Some.end (sym c.in-Some.is ∙ c.end_of_line.ensures) in omega arith

pub lines-preserved : goal.lines-preserved
lines-preserved c =
    let y = line_ends c.args.text.now c.lines.at c.in-Some.end (sym c.in-Some.is ∙ c.end_of_line.ensures) in
    (search rules, filling_next c.lines.invariant.1 y.0 y.1 c.judge.new.known c.judge.result c.judge.ensures c.in-Ok.is c.store.ensures)

pub returns-then-at-text : goal.returns-then-at-text
returns-then-at-text c =
    elim c.then-at-text.branch [
      | then-at-text-via-then-at-text w ↦
          let o = none_ends c.args.text.now c.lines.at c.end_of_line.result c.end_of_line.ensures c.in_default.not-Some w.if-at-text.true in
          let fault = ends_open c.lines.invariant.1 o in
          record { value = fault.0; tabled = fault.1 }
      | then-at-text-via-else-at-text+then-ne w ↦
          let fault = ends_lacking c.lines.invariant.1 w.if-at-text.false (λ o. absurd (search rules)) in
          record { value = fault.0; tabled = fault.1 }
    ]

pub returns : goal.returns
returns c =
    let done = ends_done c.lines.invariant.1 c.if-at-text.false (last_is c.lines.known.last (sym c.if-ne.false ∙ c.ne.ensures)) c.put_head.ensures in
    record { value = done.0; tabled = done.1 }
