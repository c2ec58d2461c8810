use Rattle.std.proofs.Common.{◌≡◌, Bool, true, false, ◌&&◌, sym, ◌∙◌}
use Rattle.tokens.specs.declared.Kind.TheVariants.{End}
use Rattle.grammar.specs.declared.Phase.TheVariants.{Outside, Stopped}
use Rattle.grammar.specs.Rows.{rows, next_due}
use Rattle.grammar.proofs.Laws.{next_hit, next_miss, next_end}
use Rattle.grammar.proofs.next_due.Goals as goal
use Rattle.grammar.proofs.next_due.Goals.{else-eq-via-then-eq+else-eq-2, else-eq-via-else-eq}

first : {x : Bool} (y : Bool) → x ≡ false → (x && y) ≡ false
first y p = rw p

second : {x y : Bool} → x ≡ true → y ≡ false → (x && y) ≡ false
second p q = rw (p, q)

pub returns-then-eq-2 : goal.returns-then-eq-2
unfolding next_due
returns-then-eq-2 c = sym (c.loop-due.invariant ∙ next_hit rows c.loop-due.due-index _ c.args.phase c.args.kind c.loop-due-test.true (rw (← c.if-eq.ensures, ← c.if-eq-2.ensures)))

pub loop-due-preserved : goal.loop-due-preserved
loop-due-preserved c =
    elim c.else-eq.branch [
      | else-eq-via-then-eq+else-eq-2 w ↦ c.loop-due.invariant ∙ next_miss rows c.loop-due.due-index _ c.args.phase c.args.kind c.loop-due-test.true (second (sym c.eq.ensures ∙ w.if-eq.true) (sym w.eq-then-eq.ensures ∙ w.if-eq-2.false))
      | else-eq-via-else-eq w ↦ c.loop-due.invariant ∙ next_miss rows c.loop-due.due-index _ c.args.phase c.args.kind c.loop-due-test.true (first _ (sym c.eq.ensures ∙ w.if-eq.false))
    ]

pub returns : goal.returns
unfolding next_due
returns c = sym (c.loop-due.invariant ∙ next_end rows c.loop-due.due-index (Outside, End, Stopped) c.args.phase c.args.kind c.loop-due-test.false)
