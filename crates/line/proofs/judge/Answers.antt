use mathlib.Core.Path.{◌∙◌, sym}
use lib.ListN.{length}
use Rattle.line.specs.Shape.{shape}
use Rattle.line.proofs.judge.Goals as goal

pub returns-then-begins : goal.returns-then-begins
unfolding shape
returns-then-begins c = rw (sym c.begins.ensures ∙ c.if-begins.true) c.move_line.ensures

pub returns-then-begins-2 : goal.returns-then-begins-2
unfolding shape
returns-then-begins-2 c = rw (sym c.begins.ensures ∙ c.if-begins.false, sym c.begins-2.ensures ∙ c.if-begins-2.true) c.hold_line.ensures

pub returns-then-begins-3 : goal.returns-then-begins-3
unfolding shape
returns-then-begins-3 c =
    let a = c.args in
    let m = sym c.begins.ensures ∙ c.if-begins.false in
    let h = sym c.begins-2.ensures ∙ c.if-begins-2.false in
    rw (m, h, sym c.begins-3.ensures ∙ c.if-begins-3.true) (c.latch_line.ensures a.at (length a.w.now))

pub returns-then-begins-4 : goal.returns-then-begins-4
unfolding shape
returns-then-begins-4 c =
    let a = c.args in
    let m = sym c.begins.ensures ∙ c.if-begins.false in
    let h = sym c.begins-2.ensures ∙ c.if-begins-2.false in
    let l = sym c.begins-3.ensures ∙ c.if-begins-3.false in
    rw (m, h, l, sym c.begins-4.ensures ∙ c.if-begins-4.true) (c.end_line.ensures a.at (length a.w.now))

pub returns : goal.returns
unfolding shape
returns c =
    let a = c.args in
    let m = sym c.begins.ensures ∙ c.if-begins.false in
    let h = sym c.begins-2.ensures ∙ c.if-begins-2.false in
    let l = sym c.begins-3.ensures ∙ c.if-begins-3.false in
    rw (m, h, l, sym c.begins-4.ensures ∙ c.if-begins-4.false) (c.head_line.ensures a.at (length a.w.now))
