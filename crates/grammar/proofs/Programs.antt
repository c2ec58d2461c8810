-- Tokens that pass and end are a program's.
use mathlib.Core.Bool.{Bool, true, false, or-false, false≢true}
use mathlib.Core.List.{List, [], ◌∷◌}
use mathlib.Core.Path.{◌≡◌, refl, sym, ◌∙◌}
use Prim.Native.Nat.{ℕ, suc, ◌<◌, ◌≤◌}
use native.Mathlib.Omega.{arith}
use lib.ListN.{length}
use Rattle.tokens.specs.declared.Kind.{Kind}
use Rattle.tokens.proofs.Alike.{kind_differs}
use Rattle.std.proofs.Common.{Option, Some, None, is_some}
use Rattle.tokens.specs.declared.Token.{Token}
use Rattle.tokens.specs.Tokens.{tokens}
use Rattle.tokens.proofs.Ends.{Ended, at_end, before_end, tokens-ended, tokens_few}
use Rattle.naming.specs.Names.{is_qualifier, qualifier}
use Rattle.naming.specs.declared.Qualifier.{Qualifier}
use Rattle.grammar.specs.Program.{Action, Expr, Item, step, Program}
use Rattle.grammar.specs.Grammar.{Is, condition, Reads, Others, last, more_names, Steps, one, several, Actions, no_actions, more_actions, step_kind, ReadsItem, a_step, a_transition, ReadsText, the_end, more-items}
use Rattle.grammar.specs.Rows.{next_in, next_due, in_condition}
use Rattle.grammar.specs.declared.Phase.{Phase}
use Rattle.grammar.specs.declared.Phase.TheVariants.{Outside, InitialName, StepName, ColonDue, ActionDue, OpenDue, QualifierDue, CloseDue, SemicolonDue, FromDue, BeforeDue, BeforeFirst, BeforeComma, BeforeName, BeforeMore, ToDue, AfterDue, AfterFirst, AfterComma, AfterName, AfterMore, AssignDue, OperandDue}
use Rattle.grammar.specs.Passing.{due, first_due, Passes}
use Rattle.grammar.proofs.Sound.{both_true}
use Rattle.grammar.proofs.Lengths.{steps_past, item_past}
use Rattle.grammar.proofs.Stands.{pick, Rows, May, Stands, here, there, stands-first, stands, one_then}
use Rattle.grammar.proofs.Conditions.{by_length, Closed, by_bracket, by_semicolon, condition-stands}
use Rattle.tokens.specs.declared.Kind.TheVariants.{InitialStep, Step, EndStep, Transition, From, To, EndTransition, Name, Assign, Colon, Semicolon, Open, Close, Comma, End}
use Rattle.tokens.specs.Kinds.{same_kind}

-- Lists of steps

-- the rows of a list of steps: what is due first, then in brackets, and after it
record Listing (first inner comma' further more' after : Phase) : Type 0 where
  at_first : Rows first ((Name, after) ∷ (Open, inner) ∷ [])
  at_inner : Rows inner ((Name, comma') ∷ [])
  at-Comma : Rows comma' ((Comma, further) ∷ [])
  at_further : Rows further ((Name, more') ∷ [])
  at_more : Rows more' ((Comma, further) ∷ (Close, after) ∷ [])
  outside-all : (in_condition first ≡ false) × (in_condition inner ≡ false) × (in_condition comma' ≡ false) × (in_condition further ≡ false) × (in_condition more' ≡ false)

-- the steps before a transition, and those after it
list-before : Listing BeforeDue BeforeFirst BeforeComma BeforeName BeforeMore ToDue
unfolding next_due next_in pick
list-before =
    record { at_first = λ k. refl; at_inner = λ k. refl; at-Comma = λ k. refl; at_further = λ k. refl; at_more = λ k. refl; outside-all = (refl, refl, refl, refl, refl) }

list-after : Listing AfterDue AfterFirst AfterComma AfterName AfterMore AssignDue
unfolding next_due next_in pick
list-after =
    record { at_first = λ k. refl; at_inner = λ k. refl; at-Comma = λ k. refl; at_further = λ k. refl; at_more = λ k. refl; outside-all = (refl, refl, refl, refl, refl) }

-- Where the rows are those of a list, a list stands.
module _ (s : List ℕ) (first inner comma' further more' after : Phase) (l : Listing first inner comma' further more' after) where
  record OthersIn (us : List Token) : Type 0 where
    names : List Token
    rest : List Token
    reads : Others us rest names
    passes : Passes s (due after 0) rest
    ended : Ended rest

  record StepsIn (us : List Token) : Type 0 where
    names : List Token
    rest : List Token
    reads : Steps us rest names
    passes : Passes s (due after 0) rest
    ended : Ended rest

  -- a further name is due
  Further : List Token → Type 0
  Further us = Passes s (due further 0) us → Ended us → OthersIn us

  -- a name, and after it a comma or the closing bracket
  others_of : (t : Token) (us : List Token) → ((vs : List Token) → length vs < suc (length us) → Further vs) → Is t Name
      → Stands s more' 0 ((Comma, further) ∷ (Close, after) ∷ []) us → OthersIn (t ∷ us)
  unfolding Further
  others_of t us f h (here {us = vs} m y e) =
      let x = f vs (omega arith) (rw l.outside-all.4 at y) e in
      record { names = t ∷ x.names; rest = x.rest; reads = more_names h m.is x.reads; passes = x.passes; ended = x.ended }
  others_of t us f h (there (here m y e)) =
      record { names = _; rest = _; reads = last h m.is; passes = rw l.outside-all.4 at y; ended = e }
  others_of t us f h (there (there x8)) = elim x8 [ ]

  others_stand : (us : List Token) → Further us
  unfolding Further pick
  others_stand = by_length Further (λ us f y e.
      one_then s (λ ws. ((vs : List Token) → length vs < length ws → Further vs) → OthersIn ws) Name more' l.at_further refl y e
      (λ t ws m x i g. others_of t ws g m.is (stands s ((Comma, further) ∷ (Close, after) ∷ []) l.at_more refl (rw l.outside-all.3 at x) i)) f)

  -- a name, or a bracket and the names in it
  steps_of : (us : List Token) → Stands s first 0 ((Name, after) ∷ (Open, inner) ∷ []) us → StepsIn us
  unfolding Further pick
  steps_of us (here m y e) = record { names = _; rest = _; reads = one m.is; passes = rw l.outside-all.0 at y; ended = e }
  steps_of us (there (here {t = o} m y e)) =
      one_then s (λ ws. StepsIn (o ∷ ws)) Name comma' l.at_inner refl (rw l.outside-all.0 at y) e (λ t vs n y e.
      one_then s (λ ws. StepsIn (o ∷ t ∷ ws)) Comma further l.at-Comma refl (rw l.outside-all.1 at y) e (λ c ws k y e.
      let x = others_stand ws (rw l.outside-all.2 at y) e in
      record { names = t ∷ x.names; rest = x.rest; reads = several m.is n.is k.is x.reads; passes = x.passes; ended = x.ended }))
  steps_of us (there (there x8)) = elim x8 [ ]

  -- where a list of steps is due, one stands
  steps_stand : (us : List Token) → Passes s (due first 0) us → Ended us → StepsIn us
  unfolding pick
  steps_stand us y e = steps_of us (stands s ((Name, after) ∷ (Open, inner) ∷ []) l.at_first refl y e)

-- Actions

-- a qualifier that a token is
record Qualified (s : List ℕ) (t : Token) : Type 0 where
  which : Qualifier
  is : qualifier s t ≡ Some which

three : (s : List ℕ) (t : Token) → is_some (qualifier s t) ≡ true → Qualified s t
three s t h = go (qualifier s t) refl h
  where
    go : (o : Option Qualifier) → qualifier s t ≡ o → is_some o ≡ true → Qualified s t
    go None e k = absurd (false≢true k)
    go (Some q) e k = record { which = q; is = e }

module _ (s : List ℕ) where
  -- a token that may stand as a qualifier is one
  qualified : {t : Token} → May s QualifierDue 0 t Name → Qualified s t
  qualified {t} m =
      let a : is_qualifier s t ≡ true = sym (or-false (is_qualifier s t)) ∙ m.qualifies in
      let b = both_true (same_kind t.kind Name) (is_some (qualifier s t)) a in
      three s t b.1

  record ActionsIn (us : List Token) : Type 0 where
    acts : List Action
    last' : Token
    rest : List Token
    reads : Actions s us (last' ∷ rest) acts
    is_end : Is last' EndStep
    passes : Passes s first_due rest
    ended : Ended rest

  -- an action, or the end of a step, is due
  Acts : List Token → Type 0
  Acts us = Passes s (due ActionDue 0) us → Ended us → ActionsIn us

  -- an action of five tokens and the actions after it, or END_STEP
  actions_of : (us : List Token) → ((vs : List Token) → length vs < length us → Acts vs) → Stands s ActionDue 0 ((Name, OpenDue) ∷ (EndStep, Outside) ∷ []) us → ActionsIn us
  unfolding Acts next_due next_in pick
  actions_of us f (here {t = v} a y e) =
      one_then s (λ ws. ((vs : List Token) → length vs < suc (length ws) → Acts vs) → ActionsIn (v ∷ ws)) Open QualifierDue (λ k. refl) refl y e (λ o ws b y e.
      one_then s (λ ws. ((vs : List Token) → length vs < suc (suc (length ws)) → Acts vs) → ActionsIn (v ∷ o ∷ ws)) Name CloseDue (λ k. refl) refl y e (λ w ws q y e.
      one_then s (λ ws. ((vs : List Token) → length vs < suc (suc (suc (length ws))) → Acts vs) → ActionsIn (v ∷ o ∷ w ∷ ws)) Close SemicolonDue (λ k. refl) refl y e (λ c ws d y e.
      one_then s (λ ws. ((vs : List Token) → length vs < suc (suc (suc (suc (length ws)))) → Acts vs) → ActionsIn (v ∷ o ∷ w ∷ c ∷ ws)) Semicolon ActionDue (λ k. refl) refl y e (λ z ws i y e g.
      let x = g ws (omega arith) y e in
      let k = qualified q in
      record {
        acts = record { variable = v; qualifier = k.which } ∷ x.acts;
        last' = x.last';
        rest = x.rest;
        reads = more_actions a.is b.is (record { is_name = q.is; is = k.is }) d.is i.is x.reads;
        is_end = x.is_end;
        passes = x.passes;
        ended = x.ended;
      })))) f
  actions_of us f (there (here m y e)) = record { acts = _; last' = _; rest = _; reads = no_actions; is_end = m.is; passes = y; ended = e }
  actions_of us f (there (there x8)) = elim x8 [ ]

  actions_stand : (us : List Token) → Acts us
  unfolding Acts next_due next_in pick
  actions_stand = by_length Acts (λ us f y e. actions_of us f (stands s ((Name, OpenDue) ∷ (EndStep, Outside) ∷ []) (λ k. refl) refl y e))

  -- Steps and transitions

  record ItemIn (us : List Token) : Type 0 where
    item : Item
    rest : List Token
    reads : ReadsItem s us rest item
    passes : Passes s first_due rest
    ended : Ended rest

  -- a step, from its colon on
  step-stands : (initial : Bool) (k n : Token) (us : List Token) → Is k (step_kind s initial) → Is n Name → Passes s (due ColonDue 0) us → Ended us → ItemIn (k ∷ n ∷ us)
  unfolding Acts next_due next_in pick
  step-stands initial k n us h i y e =
      one_then s (λ ws. ItemIn (k ∷ n ∷ ws)) Colon ActionDue (λ k. refl) refl y e (λ c ws m y e.
      let x = actions_stand ws y e in
      record { item = step initial n x.acts; rest = x.rest; reads = a_step initial h i m.is x.reads x.is_end; passes = x.passes; ended = x.ended })

  -- a transition whose lists and condition are read, from the condition's closing token on
  ends_of : {k f t a : Token} {us vs ws xs before next : List Token} {c : Expr} → Is k Transition → Is f From → Steps us (t ∷ vs) before → Is t To → Steps vs (a ∷ ws) next → Is a Assign
      → Reads condition ws xs c → Closed s 0 xs → ItemIn (k ∷ f ∷ us)
  unfolding next_due next_in pick
  ends_of h i b j n l r (by_bracket z w y e) = absurd (w refl)
  ends_of {k} {f} {us = us} {ws = ws} {c = c} h i b j n l r (by_semicolon {t = z} p w y e) =
      one_then s (λ zs. Reads condition ws (z ∷ zs) c → ItemIn (k ∷ f ∷ us)) EndTransition Outside (λ k. refl) refl y e
      (λ g zs m y e q. record { item = _; rest = _; reads = a_transition h i b j n l q p m.is; passes = y; ended = e }) r

  -- a transition, from FROM on
  transition-stands : (k : Token) (us : List Token) → length us ≤ 16777216 → Is k Transition → Passes s (due FromDue 0) us → Ended us → ItemIn (k ∷ us)
  unfolding next_due next_in pick
  transition-stands k us b h y e =
      one_then s (λ ws. length ws ≤ 16777216 → ItemIn (k ∷ ws)) From BeforeDue (λ k. refl) refl y e (λ f ws i y e b.
      let x = steps_stand s _ _ _ _ _ _ list-before ws y e in
      one_then s (λ zs. Steps ws zs x.names → ItemIn (k ∷ f ∷ ws)) To AfterDue (λ k. refl) refl x.passes x.ended (λ t vs j y e p.
      let z = steps_stand s _ _ _ _ _ _ list-after vs y e in
      one_then s (λ zs. Steps vs zs z.names → ItemIn (k ∷ f ∷ ws)) Assign OperandDue (λ k. refl) refl z.passes z.ended (λ a us l y e q.
      let u = steps_past p in
      let v = steps_past q in
      let c = condition-stands s 0 us (omega arith) y e in
      ends_of h i.is p j.is q l.is c.reads c.closed) z.reads) x.reads) b

  -- one of the three words stands in front of an item
  item_of : (us : List Token) → length us ≤ 16777216 → Stands s Outside 0 ((InitialStep, InitialName) ∷ (Step, StepName) ∷ (Transition, FromDue) ∷ []) us → ItemIn us
  unfolding next_due next_in pick
  item_of us b (here {t = k} m y e) =
      one_then s (λ ws. ItemIn (k ∷ ws)) Name ColonDue (λ k. refl) refl y e (λ n ws i y e. step-stands true k n ws m.is i.is y e)
  item_of us b (there (here {t = k} m y e)) =
      one_then s (λ ws. ItemIn (k ∷ ws)) Name ColonDue (λ k. refl) refl y e (λ n ws i y e. step-stands false k n ws m.is i.is y e)
  item_of us b (there (there (here m y e))) = transition-stands _ _ (omega arith) m.is y e
  item_of us b (there (there (there x12))) = elim x12 [ ]

-- a program that some tokens are
pub record Program-of (s : List ℕ) (us : List Token) : Type 0 where
  pub program : Program
  pub reads : ReadsText s us program

-- the tokens of a text, or of its rest, are a program's if they pass
Texts : List ℕ → List Token → Type 0
Texts s us = length us ≤ 16777216 → Passes s first_due us → Ended us → Program-of s us

-- outside, but for the end, three words may stand
outside-next : (k : Kind) → (k ≡ End → ⊥) → next_due Outside k ≡ pick ((InitialStep, InitialName) ∷ (Step, StepName) ∷ (Transition, FromDue) ∷ []) k
unfolding next_due next_in pick
outside-next k h = rw (kind_differs End k (λ e. h (sym e)))

-- the end, or an item and the items after it
text_of : (s : List ℕ) (us : List Token) → ((vs : List Token) → length vs < length us → Texts s vs) → Texts s us
unfolding Texts
text_of s us f b y (at_end h) = record { program = []; reads = the_end h }
text_of s us f b y (before_end n e) =
    let x = item_of s _ b (stands-first s Outside 0 _ (outside-next _ n) y e) in
    let i = item_past s x.reads in
    let p = f x.rest i (omega arith) x.passes x.ended in
    record { program = x.item ∷ p.program; reads = more-items {p = p.program} x.reads p.reads }

-- a text that passes is a program's
pub passes_program : (s : List ℕ) → length s < 16777216 → Passes s first_due (tokens s) → Program-of s (tokens s)
unfolding Texts
passes_program s b y = let i = tokens_few s in by_length (Texts s) (text_of s) (tokens s) (omega arith) y (tokens-ended s)
