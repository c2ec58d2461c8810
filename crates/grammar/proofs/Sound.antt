-- What is read is of the grammar: for every part, every text and every fuel.
use mathlib.Core.Bool.{Bool, true, false, cond, not, ◌&&◌, false≢true}
use mathlib.Core.List.{List, [], ◌∷◌}
use mathlib.Core.Path.{◌≡◌, refl}
use Prim.Native.Nat.{ℕ, zero, suc}
use native.Mathlib.Omega.{arith}
use Rattle.std.proofs.Common.{Option, Some, None}
use Rattle.tokens.specs.declared.Kind.{Kind}
use Rattle.tokens.proofs.Alike.{kind_true}
use Rattle.tokens.specs.declared.Token.{Token}
use Rattle.naming.specs.declared.Qualifier.{Qualifier}
use Rattle.naming.specs.Names.{qualifier}
use Rattle.grammar.specs.Program.{Action, Expr, and', or'}
use Rattle.grammar.specs.Grammar.{Is, ConditionPart, operand, factor, term, condition, Reads, truth, falsity, a_name, bracketed, plain, negated, one-factor, more_factors, one-term, more_terms, Others, last, more_names, Steps, one, several, Actions, more_actions, step_kind, ReadsItem, a_step, a_transition, ReadsText, the_end, more-items}
use Rattle.grammar.specs.Reader.{Got, got, none, only_if, after_kind, after_name, then, joined_by, more_after, operand_by, operand_in, factor_in, term_in, cond_in, others_of, steps_of, qualifier_by, action_of, actions_of, step_of, transition_of, item_of, program_from}
use Rattle.tokens.specs.declared.Kind.TheVariants.{InitialStep, Step, EndStep, Transition, From, To, EndTransition, And, Or, Not, True, False, Name, Assign, Colon, Semicolon, Open, Close, Comma, End}
use Rattle.tokens.specs.Kinds.{same_kind}

-- what is read has a property, together with the tokens after it
pub data Sound {A : Type 0} (P : List Token → A → Type 0) : Got A → Type 0 where
  reads : {x : A} {vs : List Token} → P vs x → Sound P (got x vs)
  nothing : Sound P none

-- what is got has the property
pub sound_got : {A : Type 0} {P : List Token → A → Type 0} {o : Got A} → Sound P o → (x : A) (vs : List Token) → o ≡ got x vs → P vs x
sound_got {P = P} (reads {x = y} {vs = ws} h) x vs e =
    let a : y ≡ x = cc in
    let b : ws ≡ vs = cc in
    rw (← a, ← b) h
sound_got nothing x vs e = let z : ◌≡◌ {A = ℕ} 0 1 = cc in absurd (omega arith)

-- both halves of an `&&`
pub both_true : (x y : Bool) → (x && y) ≡ true → (x ≡ true) × (y ≡ true)
both_true true true h = (refl, refl)
both_true true false h = absurd (false≢true h)
both_true false y h = absurd (false≢true h)

-- what is read where a test passes, after a token, after a name, and after another part
module _ {A : Type 0} {P : List Token → A → Type 0} where
  sound_only : (t : Bool) {o : Got A} → (t ≡ true → Sound P o) → Sound P (only_if t o)
  unfolding only_if
  sound_only true h = h refl
  sound_only false h = nothing

  sound_cond : (t : Bool) {o q : Got A} → (t ≡ true → Sound P o) → Sound P q → Sound P (cond t o q)
  sound_cond true h k = h refl
  sound_cond false h k = k

  sound_after : (k : Kind) (us : List Token) (f : List Token → Got A) → ((t : Token) (vs : List Token) → us ≡ t ∷ vs → Is t k → Sound P (f vs)) → Sound P (after_kind k us f)
  unfolding after_kind
  sound_after k [] f h = nothing
  sound_after k (t ∷ us) f h = sound_only (same_kind t.kind k) (λ e. h t us refl (kind_true _ _ e))

  sound_name : (us : List Token) (f : Token → List Token → Got A) → ((t : Token) (vs : List Token) → us ≡ t ∷ vs → Is t Name → Sound P (f t vs)) → Sound P (after_name us f)
  unfolding after_name
  sound_name [] f h = nothing
  sound_name (t ∷ us) f h = sound_only (same_kind t.kind Name) (λ e. h t us refl (kind_true _ _ e))

  sound_then : {B : Type 0} {Q : List Token → B → Type 0} {o : Got B} (f : B → List Token → Got A) → Sound Q o → ((x : B) (vs : List Token) → Q vs x → Sound P (f x vs)) → Sound P (then o f)
  unfolding then
  sound_then f (reads {x} {vs} q) h = h x vs q
  sound_then f nothing h = nothing

-- Conditions

-- what is joined to a part before it
sound_joined : {P Q : List Token → Expr → Type 0} (j : Expr → Expr → Expr) (e : Expr) → ((f : Expr) (vs : List Token) → P vs f → Q vs (j e f)) → {o : Got Expr} → Sound P o → Sound Q (joined_by j e o)
unfolding joined_by
sound_joined j e h (reads {x} {vs} p) = reads (h x vs p)
sound_joined j e h nothing = nothing

-- a part p, or several joined by a word, make a part q
sound_more : (p q : ConditionPart) (j : Expr → Expr → Expr) (k : Kind) (f : List Token → Got Expr) (us : List Token) → ((vs : List Token) (e : Expr) → Reads p us vs e → Reads q us vs e)
    → ((t : Token) (vs ws : List Token) (e d : Expr) → Reads p us (t ∷ vs) e → Is t k → Reads q vs ws d → Reads q us ws (j e d))
    → ((vs : List Token) → Sound (Reads q vs) (f vs)) → (e : Expr) (vs : List Token) → Reads p us vs e → Sound (Reads q us) (more_after j k f e vs)
unfolding more_after
sound_more p q j k f us a b h e [] r = reads (a [] e r)
sound_more p q j k f us a b h e (t ∷ vs) r = go (same_kind t.kind k) refl
  where
    go : (x : Bool) → same_kind t.kind k ≡ x → Sound (Reads q us) (cond x (joined_by j e (f vs)) (got e (t ∷ vs)))
    go true i = sound_joined j e (λ d ws y. b t vs ws e d r (kind_true _ _ i) y) (h vs)
    go false i = reads (a (t ∷ vs) e r)

-- operands and factors, if the reader of what stands in brackets is sound
module _ (f : List Token → Got Expr) (h : (vs : List Token) → Sound (Reads condition vs) (f vs)) where
  sound_by : (t : Token) (us : List Token) → Sound (Reads operand (t ∷ us)) (operand_by f t us)
  unfolding operand_by
  sound_by t us =
      sound_cond (same_kind t.kind True) (λ e. reads (truth (kind_true _ _ e)))
      (sound_cond (same_kind t.kind False) (λ e. reads (falsity (kind_true _ _ e)))
      (sound_cond (same_kind t.kind Name) (λ e. reads (a_name (kind_true _ _ e)))
      (sound_only (same_kind t.kind Open) (λ e.
      sound_then _ (h us) (λ c vs r. sound_after Close vs _ (λ z ws i k. reads (bracketed (kind_true _ _ e) (rw i at r) k)))))))

  sound_operand : (us : List Token) → Sound (Reads operand us) (operand_in f us)
  unfolding operand_in
  sound_operand [] = nothing
  sound_operand (t ∷ us) = sound_by t us

  sound_factor : (us : List Token) → Sound (Reads factor us) (factor_in f us)
  unfolding factor_in
  sound_factor [] = nothing
  sound_factor (t ∷ us) =
      sound_cond (same_kind t.kind Not) (λ i. sound_then _ (sound_operand us) (λ e vs r. reads (negated (kind_true _ _ i) r)))
      (lift (sound_by t us))
    where
      lift : {o : Got Expr} → Sound (Reads operand (t ∷ us)) o → Sound (Reads factor (t ∷ us)) o
      lift (reads r) = reads (plain r)
      lift nothing = nothing

-- terms and conditions, for every fuel
mutual
  unfolding term_in

  pub sound_term : (n : ℕ) (us : List Token) → Sound (Reads term us) (term_in n us)
  sound_term zero us = nothing
  sound_term (suc n) us =
      sound_then _ (sound_factor (λ vs. cond_in n vs) (λ vs. sound_condition n vs) us)
      (λ e vs r. sound_more factor term and' And (λ ws. term_in n ws) us (λ ws c x. one-factor x) (λ t ws xs c d x k y. more_factors x k y) (λ ws. sound_term n ws) e vs r)

  pub sound_condition : (n : ℕ) (us : List Token) → Sound (Reads condition us) (cond_in n us)
  sound_condition zero us = nothing
  sound_condition (suc n) us =
      sound_then _ (sound_term n us)
      (λ e vs r. sound_more term condition or' Or (λ ws. cond_in n ws) us (λ ws c x. one-term x) (λ t ws xs c d x k y. more_terms x k y) (λ ws. sound_condition n ws) e vs r)

-- Lists of steps

sound_others : (us : List Token) → Sound (Others us) (others_of us)
unfolding others_of
sound_others [] = nothing
sound_others (t ∷ []) = nothing
sound_others (t ∷ c ∷ us) =
    sound_only (same_kind t.kind Name) (λ n.
    sound_cond (same_kind c.kind Comma) (λ k. sound_then _ (sound_others us) (λ ns vs r. reads (more_names (kind_true _ _ n) (kind_true _ _ k) r)))
    (sound_only (same_kind c.kind Close) (λ k. reads (last (kind_true _ _ n) (kind_true _ _ k)))))

sound_steps : (us : List Token) → Sound (Steps us) (steps_of us)
unfolding steps_of
sound_steps [] = nothing
sound_steps (o ∷ us) =
    sound_cond (same_kind o.kind Name) (λ n. reads (one (kind_true _ _ n)))
    (sound_only (same_kind o.kind Open) (λ b.
    sound_name us _ (λ t vs i n. sound_after Comma vs _ (λ c ws j k. sound_then _ (sound_others ws)
    (λ ns xs r. rw (i, j) (reads (several (kind_true _ _ b) n k r)))))))

-- Steps and transitions

-- the qualifier that a token is
sound_qualifier : (o : Option Qualifier) → Sound (λ vs q. o ≡ Some q) (qualifier_by o)
unfolding qualifier_by
sound_qualifier None = nothing
sound_qualifier (Some q) = reads refl

module _ (s : List ℕ) where
  -- five tokens that are an action make one action more
  More : Token → Token → Token → Token → Token → Action → Type 0
  More v o w c z a = (us vs : List Token) (acts : List Action) → Actions s us vs acts → Actions s (v ∷ o ∷ w ∷ c ∷ z ∷ us) vs (a ∷ acts)

  sound_action : (v o w c z : Token) → Sound (λ ws a. More v o w c z a) (action_of s v o w c z)
  unfolding action_of More
  sound_action v o w c z =
      sound_only ((same_kind v.kind Name && same_kind o.kind Open) && (same_kind w.kind Name && (same_kind c.kind Close && same_kind z.kind Semicolon))) (λ t.
      let p = both_true _ _ t in
      let f = both_true _ _ p.0 in
      let g = both_true _ _ p.1 in
      let h = both_true _ _ g.1 in
      sound_then _ (sound_qualifier (qualifier s w)) (λ q ws e. reads (λ us vs acts r.
      more_actions (kind_true _ _ f.0) (kind_true _ _ f.1) (record { is_name = kind_true _ _ g.0; is = e }) (kind_true _ _ h.0) (kind_true _ _ h.1) r)))

  sound_actions : (us : List Token) → Sound (Actions s us) (actions_of s us)
  unfolding actions_of More
  sound_actions [] = reads Actions.no_actions
  sound_actions (v ∷ []) = sound_only (not (same_kind v.kind Name)) (λ e. reads Actions.no_actions)
  sound_actions (v ∷ o ∷ []) = sound_only (not (same_kind v.kind Name)) (λ e. reads Actions.no_actions)
  sound_actions (v ∷ o ∷ w ∷ []) = sound_only (not (same_kind v.kind Name)) (λ e. reads Actions.no_actions)
  sound_actions (v ∷ o ∷ w ∷ c ∷ []) = sound_only (not (same_kind v.kind Name)) (λ e. reads Actions.no_actions)
  sound_actions (v ∷ o ∷ w ∷ c ∷ z ∷ us) =
      sound_cond (same_kind v.kind Name) (λ e.
      sound_then _ (sound_action v o w c z) (λ a ws f. sound_then _ (sound_actions us) (λ acts vs r. reads (f us vs acts r))))
      (reads Actions.no_actions)

  sound_step : (initial : Bool) (k : Token) (us : List Token) → Is k (step_kind s initial) → Sound (ReadsItem s (k ∷ us)) (step_of s initial us)
  unfolding step_of
  sound_step initial k us i =
      sound_name us _ (λ n vs a isName. sound_after Colon vs _ (λ c ws b isColon. sound_then _ (sound_actions ws) (λ acts xs r.
      sound_after EndStep xs _ (λ e ys d is_end. rw (a, b) (reads (a_step initial i isName isColon (rw d at r) is_end))))))

  sound_transition : (k : Token) (us : List Token) → Is k Transition → Sound (ReadsItem s (k ∷ us)) (transition_of s us)
  unfolding transition_of
  sound_transition k us i =
      sound_after From us _ (λ f vs a isFrom. sound_then _ (sound_steps vs) (λ before ws r. sound_after To ws _ (λ t xs b isTo.
      sound_then _ (sound_steps xs) (λ next ys q. sound_after Assign ys _ (λ g zs c isAssign. sound_then _ (sound_condition _ zs) (λ e rs x.
      sound_after Semicolon rs _ (λ z qs d is_end. sound_after EndTransition qs _ (λ l os m is_last.
      rw a (reads (a_transition i isFrom (rw b at r) isTo (rw c at q) isAssign (rw (d, m) at x) is_end is_last))))))))))

  sound_item : (k : Token) (us : List Token) → Sound (ReadsItem s (k ∷ us)) (item_of s k us)
  unfolding item_of
  sound_item k us =
      sound_cond (same_kind k.kind InitialStep) (λ e. sound_step true k us (kind_true _ _ e))
      (sound_cond (same_kind k.kind Step) (λ e. sound_step false k us (kind_true _ _ e))
      (sound_only (same_kind k.kind Transition) (λ e. sound_transition k us (kind_true _ _ e))))

  -- the tokens that are read are of the grammar, and none is left
  pub sound_items : (n : ℕ) (us : List Token) → Sound (λ vs p. ReadsText s us p) (program_from s n us)
  unfolding program_from
  sound_items zero us = nothing
  sound_items (suc n) [] = nothing
  sound_items (suc n) (t ∷ []) = sound_only (same_kind t.kind End) (λ e. reads (the_end (kind_true _ _ e)))
  sound_items (suc n) (t ∷ u ∷ us) =
      sound_then _ (sound_item t (u ∷ us)) (λ i vs r. sound_then _ (sound_items n vs) (λ p ws q. reads (more-items r q)))
