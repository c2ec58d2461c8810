-- What is of the grammar is read, where no token follows that would go on.
use mathlib.Core.Bool.{true, false}
use mathlib.Core.List.{List, [], ◌∷◌}
use mathlib.Core.Path.{◌≡◌, refl, ◌∙◌}
use Prim.Native.Nat.{ℕ, zero, suc, ◌+◌, ◌*◌, ◌<◌, ◌≤◌}
use native.Mathlib.Omega.{arith}
use lib.ListN.{length}
use Rattle.tokens.specs.declared.Kind.{Kind}
use Rattle.tokens.proofs.Alike.{kind_same, kind_differs}
use Rattle.tokens.specs.declared.Token.{Token}
use Rattle.grammar.specs.Program.{Action, Expr, and', or', Item, Program}
use Rattle.grammar.specs.Grammar.{Is, ConditionPart, operand, factor, term, condition, Reads, truth, falsity, a_name, bracketed, plain, negated, one-factor, more_factors, one-term, more_terms, Others, last, more_names, Steps, one, several, Actions, more_actions, ReadsItem, a_step, a_transition, ReadsText, the_end, more-items}
use Rattle.grammar.specs.Reader.{Got, got, only_if, after_kind, after_name, then, joined_by, more_after, operand_by, operand_in, factor_in, term_in, cond_in, cond_of, others_of, steps_of, qualifier_by, action_of, actions_of, step_of, transition_of, item_of, program_from}
use Rattle.grammar.proofs.Lengths.{reads_past, item_past}
use Rattle.tokens.specs.declared.Kind.TheVariants.{And, Or, Name, Semicolon}

-- no token of a kind stands in front
abbrev NotFirst : Kind → List Token → Type 0
NotFirst k [] = Unit
NotFirst k (t ∷ vs) = Is t k → ⊥

-- what is read after a part that is got
then-got : {A B : Type 0} {o : Got A} {x : A} {vs : List Token} (f : A → List Token → Got B) → o ≡ got x vs → then o f ≡ f x vs
unfolding then
then-got f h = rw h

-- Conditions

-- what is read up to a place ends there, or goes on
more-ends : (j : Expr → Expr → Expr) (k : Kind) (f : List Token → Got Expr) (e : Expr) (vs : List Token) → NotFirst k vs → more_after j k f e vs ≡ got e vs
unfolding more_after
more-ends j k f e [] h = refl
more-ends j k f e (t ∷ vs) h = rw (kind_differs t.kind k h)

more_joins : (j : Expr → Expr → Expr) (k : Kind) (f : List Token → Got Expr) (e d : Expr) (t : Token) (vs ws : List Token) → Is t k → f vs ≡ got d ws → more_after j k f e (t ∷ vs) ≡ got (j e d) ws
unfolding more_after joined_by
more_joins j k f e d t vs ws h r = rw (kind_same t.kind k h, r)

-- what may follow each part, the reader of each part, and the fuel that it wants
abbrev Follows : ConditionPart → List Token → Type 0
Follows operand vs = Unit
Follows factor vs = Unit
Follows term vs = NotFirst And vs
Follows condition vs = NotFirst And vs × NotFirst Or vs

abbrev reader : ConditionPart → ℕ → List Token → Got Expr
reader operand n us = operand_in (λ vs. cond_in n vs) us
reader factor n us = factor_in (λ vs. cond_in n vs) us
reader term n us = term_in n us
reader condition n us = cond_in n us

abbrev rank : ConditionPart → ℕ
rank operand = 0
rank factor = 0
rank term = 1
rank condition = 2

-- an operand does not begin with NOT
operand-plain : (f : List Token → Got Expr) {us vs : List Token} {e : Expr} → Reads operand us vs e → factor_in f us ≡ operand_in f us
unfolding factor_in operand_in
operand-plain f (truth h) = rw h
operand-plain f (falsity h) = rw h
operand-plain f (a_name h) = rw h
operand-plain f (bracketed h r k) = rw h

-- a part of a condition is read
complete : {p : ConditionPart} {us vs : List Token} {e : Expr} → Reads p us vs e → Follows p vs → (n : ℕ) → 2 * length us + rank p ≤ n + 1 → reader p n us ≡ got e vs
unfolding operand_in operand_by factor_in term_in then after_kind only_if
complete (truth h) f n b = rw h
complete (falsity h) f n b = rw h
complete (a_name h) f n b = rw h
complete (bracketed h r k) f n b = rw (h, complete r ((λ q. cc), (λ q. cc)) n (omega arith), k)
complete (plain r) f n b = operand-plain (λ vs. cond_in n vs) r ∙ complete r tt n b
complete (negated h r) f n b = rw (h, complete r tt n (omega arith))
complete (one-factor r) f zero b = let i = reads_past r in absurd (omega arith)
complete (one-factor r) f (suc n) b = then-got _ (complete r tt n (omega arith)) ∙ more-ends and' And (λ ws. term_in n ws) _ _ f
complete (more_factors r h q) f zero b = let i = reads_past r in absurd (omega arith)
complete (more_factors r h q) f (suc n) b =
    let i = reads_past r in
    then-got _ (complete r tt n (omega arith)) ∙ more_joins and' And (λ ws. term_in n ws) _ _ _ _ _ h (complete q f n (omega arith))
complete (one-term r) f zero b = let i = reads_past r in absurd (omega arith)
complete (one-term r) f (suc n) b = then-got _ (complete r f.0 n (omega arith)) ∙ more-ends or' Or (λ ws. cond_in n ws) _ _ f.1
complete (more_terms r h q) f zero b = let i = reads_past r in absurd (omega arith)
complete (more_terms r h q) f (suc n) b =
    let i = reads_past r in
    then-got _ (complete r (λ k. cc) n (omega arith)) ∙ more_joins or' Or (λ ws. cond_in n ws) _ _ _ _ _ h (complete q f n (omega arith))

-- a condition is read where `;` follows it
complete_condition : {z : Token} {us vs : List Token} {e : Expr} → Reads condition us (z ∷ vs) e → Is z Semicolon → cond_of us ≡ got e (z ∷ vs)
complete_condition r h = complete r ((λ q. cc), (λ q. cc)) _ (omega arith)

-- Lists of steps

complete_others : {us vs ns : List Token} → Others us vs ns → others_of us ≡ got ns vs
unfolding others_of only_if then
complete_others (last h k) = rw (h, k)
complete_others (more_names h k r) = rw (h, k, complete_others r)

complete_steps : {us vs ns : List Token} → Steps us vs ns → steps_of us ≡ got ns vs
unfolding steps_of only_if then after_kind after_name
complete_steps (one h) = rw h
complete_steps (several h k l r) = rw (h, k, l, complete_others r)

-- Steps and transitions

module _ (s : List ℕ) where
  -- no action is read where no name stands
  no_actions : (us : List Token) → NotFirst Name us → actions_of s us ≡ got [] us
  unfolding actions_of only_if
  no_actions [] h = refl
  no_actions (v ∷ []) h = rw (kind_differs v.kind Name h)
  no_actions (v ∷ o ∷ []) h = rw (kind_differs v.kind Name h)
  no_actions (v ∷ o ∷ w ∷ []) h = rw (kind_differs v.kind Name h)
  no_actions (v ∷ o ∷ w ∷ c ∷ []) h = rw (kind_differs v.kind Name h)
  no_actions (v ∷ o ∷ w ∷ c ∷ z ∷ us) h = rw (kind_differs v.kind Name h)

  complete_actions : {us vs : List Token} {acts : List Action} → Actions s us vs acts → NotFirst Name vs → actions_of s us ≡ got acts vs
  unfolding actions_of action_of qualifier_by only_if then
  complete_actions (Actions.no_actions {us = us}) f = no_actions us f
  complete_actions (more_actions {q = q} v o w c z r) f = rw (w.is, v, o, w.is_name, c, z, complete_actions r f)

  -- a step or a transition is read
  complete_item : (k : Token) (us : List Token) {vs : List Token} {i : Item} → ReadsItem s (k ∷ us) vs i → item_of s k us ≡ got i vs
  unfolding item_of step_of transition_of only_if then after_kind after_name
  complete_item k us (a_step true h n c r e) = rw (h, n, c, complete_actions r (λ q. cc), e)
  complete_item k us (a_step false h n c r e) = rw (h, n, c, complete_actions r (λ q. cc), e)
  complete_item k us (a_transition h f b t a g c z e) =
      rw (h, f, complete_steps b, t, complete_steps a, g, complete_condition c z, z, e)

  -- an item that is read, and then the items after it
  items-on : (n : ℕ) (t u : Token) (us : List Token) {vs : List Token} {i : Item} {p : Program} → item_of s t (u ∷ us) ≡ got i vs → program_from s n vs ≡ got p []
      → program_from s (suc n) (t ∷ u ∷ us) ≡ got (i ∷ p) []
  unfolding program_from then
  items-on n t u us h q = rw (h, q)

  items_more : (n : ℕ) {us vs : List Token} {i : Item} {p : Program} → ReadsItem s us vs i → program_from s n vs ≡ got p [] → program_from s (suc n) us ≡ got (i ∷ p) []
  items_more n (a_step initial h x c r e) q = items-on n _ _ _ (complete_item _ _ (a_step initial h x c r e)) q
  items_more n (a_transition h f b t a g c z e) q = items-on n _ _ _ (complete_item _ _ (a_transition h f b t a g c z e)) q

  -- a text of the grammar is read to its end
  pub complete_items : {us : List Token} {p : Program} → ReadsText s us p → (n : ℕ) → length us < n → program_from s n us ≡ got p []
  unfolding program_from only_if
  complete_items x zero h = absurd (omega arith)
  complete_items (the_end k) (suc n) h = rw k
  complete_items (more-items r q) (suc n) h = let i = item_past s r in items_more n r (complete_items q n (omega arith))
