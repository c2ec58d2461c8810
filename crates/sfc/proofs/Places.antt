-- Every name of the map lies in the caller's text.
use mathlib.Core.Bool.{Bool, true, false, cond}
use mathlib.Core.List.{List, [], ◌∷◌, ◌++◌}
use mathlib.Core.Path.{◌≡◌, refl, sym, ◌∙◌}
use Prim.Native.Nat.{ℕ, zero, suc, ◌+◌, ◌≤◌}
use native.Mathlib.Omega.{arith}
use lib.Dec.{eqb}
use lib.ListN.{length}
use Rattle.tokens.specs.declared.Spot.{Spot}
use Rattle.tokens.specs.declared.Token.{Token}
use Rattle.tokens.proofs.Alike.{kind_false}
use Rattle.tokens.specs.Kinds.{same_kind}
use Rattle.tokens.specs.declared.Kind.TheVariants.{End, Name}
use Rattle.tokens.specs.Tokens.{token_on, token_at, token_after, tokens_from, tokens}
use Rattle.tokens.proofs.Laws.{lies}
use Rattle.naming.specs.Names.{number_in, joined_to, joined_all, names_of}
use Rattle.chart.specs.WellFormed.{Every, every_nil, every_cons}
use Rattle.grammar.specs.Program.{Action, Expr, Program}
use Rattle.grammar.specs.Grammar.{Is, Reads, truth, falsity, a_name, bracketed, plain, negated, one-factor, more_factors, one-term, more_terms, Others, last, more_names, Steps, one, several, Actions, no_actions, more_actions, a_step, a_transition, ReadsText, the_end, more-items}
use Rattle.grammar.specs.Grammar as grammar
use Rattle.sfc.proofs.Lists.{every_both}
use Rattle.sfc.specs.Chart.{step_tokens, input_tokens, output_tokens, driven_by, asked_by}

-- Tokens of a text

-- a name lies in the text
abbrev pub Inside : List ℕ → Token → Type 0
Inside s t = t.place + t.size ≤ length s

-- every token but the end of the text does
abbrev Lying : List ℕ → Token → Type 0
Lying s t = (t.kind ≡ End → ⊥) → Inside s t

lying : (s : List ℕ) (a l : ℕ) → Lying s (token_at s a l)
unfolding token_at
lying s a l = here (record { place = _; line = _ })
  where
    here : (p : Spot) → Lying s (token_on s p)
    here p = (lies s p.place p (record { from = omega arith; within = omega arith })).within

all_lying : (n : ℕ) (s : List ℕ) (t : Token) → Lying s t → Every (Lying s) (tokens_from n s t)
unfolding tokens_from
all_lying zero s t h = every_nil
all_lying (suc n) s t h = go (same_kind t.kind End) (all_lying n s (token_after s t) (lying s (t.place + t.size) t.line))
  where
    go : (b : Bool) → Every (Lying s) (tokens_from n s (token_after s t)) → Every (Lying s) (cond b (t ∷ []) (t ∷ tokens_from n s (token_after s t)))
    go true f = every_cons h every_nil
    go false f = every_cons h f

-- what is read of tokens are names among them
module _ (s : List ℕ) where
  abbrev All : List Token → Type 0
  All ts = Every (Lying s) ts

  abbrev Names : List Token → Type 0
  Names ts = Every (Inside s) ts

  name_lies : (t : Token) → Is t Name → Lying s t → Inside s t
  name_lies t k h = h (λ e. kind_false Name End refl (sym k ∙ e))

  head : {t : Token} {us : List Token} → All (t ∷ us) → Lying s t
  head (every_cons h f) = h

  tail : {t : Token} {us : List Token} → All (t ∷ us) → All us
  tail (every_cons h f) = f

  -- the names of a part, and the tokens after it
  record Both (ns vs : List Token) : Type 0 where
    names : Names ns
    rest : All vs

  of_condition : {p : grammar.ConditionPart} {us vs : List Token} {e : Expr} → Reads p us vs e → All us → Both (asked_by e) vs
  unfolding asked_by
  of_condition (truth k) a = record { names = every_nil; rest = tail a }
  of_condition (falsity k) a = record { names = every_nil; rest = tail a }
  of_condition (a_name {t} k) a = record { names = every_cons (name_lies t k (head a)) every_nil; rest = tail a }
  of_condition (bracketed o x c) a = let b = of_condition x (tail a) in record { names = b.names; rest = tail b.rest }
  of_condition (plain x) a = of_condition x a
  of_condition (negated k x) a = let b = of_condition x (tail a) in record { names = b.names; rest = b.rest }
  of_condition (one-factor x) a = of_condition x a
  of_condition (more_factors x k y) a =
      let b = of_condition x a in
      let c = of_condition y (tail b.rest) in
      record { names = every_both b.names c.names; rest = c.rest }
  of_condition (one-term x) a = of_condition x a
  of_condition (more_terms x k y) a =
      let b = of_condition x a in
      let c = of_condition y (tail b.rest) in
      record { names = every_both b.names c.names; rest = c.rest }

  of_others : {us vs ns : List Token} → Others us vs ns → All us → Both ns vs
  of_others (last {t} k c) a = record { names = every_cons (name_lies t k (head a)) every_nil; rest = tail (tail a) }
  of_others (more_names {t} k c x) a =
      let b = of_others x (tail (tail a)) in record { names = every_cons (name_lies t k (head a)) b.names; rest = b.rest }

  of_steps : {us vs ns : List Token} → Steps us vs ns → All us → Both ns vs
  of_steps (one {t} k) a = record { names = every_cons (name_lies t k (head a)) every_nil; rest = tail a }
  of_steps (several {o} {t} p k c x) a =
      let b = of_others x (tail (tail (tail a))) in record { names = every_cons (name_lies t k (head (tail a))) b.names; rest = b.rest }

  of_actions : {us vs : List Token} {acts : List Action} → Actions s us vs acts → All us → Both (driven_by acts) vs
  unfolding driven_by
  of_actions no_actions a = record { names = every_nil; rest = a }
  of_actions (more_actions {v} k o q c z x) a =
      let b = of_actions x (tail (tail (tail (tail (tail a))))) in record { names = every_cons (name_lies v k (head a)) b.names; rest = b.rest }

  -- the names of a program
  pub record Lie (p : Program) : Type 0 where
    pub steps : Names (step_tokens p)
    pub inputs : Names (input_tokens p)
    pub outputs : Names (output_tokens p)

  of_text : {us : List Token} {p : Program} → ReadsText s us p → All us → Lie p
  unfolding step_tokens input_tokens output_tokens
  of_text (the_end k) a = record { steps = every_nil; inputs = every_nil; outputs = every_nil }
  of_text (more-items (a_step {k} {n} i w m x y z) r) a =
      let b = of_actions y (tail (tail (tail a))) in
      let f = of_text r (tail b.rest) in
      record { steps = every_cons (name_lies n m (head (tail a))) f.steps; inputs = f.inputs; outputs = every_both b.names f.outputs }
  of_text (more-items (a_transition k f x t y g z q e) r) a =
      let b = of_steps x (tail (tail a)) in
      let d = of_steps y (tail b.rest) in
      let w = of_condition z (tail d.rest) in
      let v = of_text r (tail (tail w.rest)) in
      record {
        steps = every_both b.names (every_both d.names v.steps);
        inputs = every_both w.names v.inputs;
        outputs = v.outputs;
      }

  -- each name is held as one of the tokens
  kept : (l ts : List Token) → Names l → Names ts → Names (joined_all s l ts)
  unfolding joined_all joined_to
  kept l [] f every_nil = f
  kept l (t ∷ ts) f (every_cons h g) = kept (joined_to s l t) ts (go (eqb (number_in s t l) (length l))) g
    where
      go : (b : Bool) → Names (cond b (l ++ t ∷ []) l)
      go true = every_both f (every_cons h every_nil)
      go false = f

  pub names_lie : (ts : List Token) → Names ts → Names (names_of s ts)
  names_lie ts f = kept [] ts every_nil f

  pub program_lies : (p : Program) → ReadsText s (tokens s) p → Lie p
  unfolding tokens
  program_lies p r = of_text r (all_lying _ s _ (lying s 0 1))
