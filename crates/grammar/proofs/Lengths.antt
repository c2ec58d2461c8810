-- A part of the grammar takes tokens: fewer are left after it.
use mathlib.Core.List.{List}
use Prim.Native.Nat.{ℕ, ◌≤◌, ◌<◌}
use native.Mathlib.Omega.{arith}
use lib.ListN.{length}
use Rattle.tokens.specs.declared.Token.{Token}
use Rattle.grammar.specs.Program.{Action, Expr, Item}
use Rattle.grammar.specs.Grammar.{ConditionPart, Reads, truth, falsity, a_name, bracketed, plain, negated, one-factor, more_factors, one-term, more_terms, Others, last, more_names, Steps, one, several, Actions, no_actions, more_actions, ReadsItem, a_step, a_transition}

-- a condition and its parts
pub reads_past : {p : ConditionPart} {us vs : List Token} {e : Expr} → Reads p us vs e → length vs < length us
reads_past (truth h) = omega arith
reads_past (falsity h) = omega arith
reads_past (a_name h) = omega arith
reads_past (bracketed h r k) = let i = reads_past r in omega arith
reads_past (plain r) = reads_past r
reads_past (negated h r) = let i = reads_past r in omega arith
reads_past (one-factor r) = reads_past r
reads_past (more_factors r h q) = let i = reads_past r in let j = reads_past q in omega arith
reads_past (one-term r) = reads_past r
reads_past (more_terms r h q) = let i = reads_past r in let j = reads_past q in omega arith

others_past : {us vs ns : List Token} → Others us vs ns → length vs < length us
others_past (last h k) = omega arith
others_past (more_names h k r) = let i = others_past r in omega arith

-- a list of steps
pub steps_past : {us vs ns : List Token} → Steps us vs ns → length vs < length us
steps_past (one h) = omega arith
steps_past (several h k l r) = let i = others_past r in omega arith

actions_within : (s : List ℕ) {us vs : List Token} {acts : List Action} → Actions s us vs acts → length vs ≤ length us
actions_within s no_actions = omega arith
actions_within s (more_actions v o w c z r) = let i = actions_within s r in omega arith

-- a step or a transition
pub item_past : (s : List ℕ) {us vs : List Token} {i : Item} → ReadsItem s us vs i → length vs < length us
item_past s (a_step initial k n c r e) = let i = actions_within s r in omega arith
item_past s (a_transition k f b t a g c z e) =
    let x = steps_past b in
    let y = steps_past a in
    let w = reads_past c in
    omega arith
