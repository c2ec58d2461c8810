-- A way of the code: a text read token by token, what is known after each, and the first fault. What it is held against are the grammar
-- (grammar/specs/Grammar.antt), the chart of a program (sfc/specs/Chart.antt) and the table of faults (Faults.antt); that it is theirs: `agrees`
-- (sfc/proofs/Agreeing.antt), `fault-is`, `fault-first` and `fault-only` (proofs/First.antt).
use Rattle.std.specs.Prelude.{Bool, true, false, cond, not, ◌&&◌, ◌||◌, List, [], ◌∷◌, Option, Some, None, ℕ, zero, suc, ◌+◌, ◌-◌, eqb, leb, ltb, length, set}
use Rattle.std.specs.Int.Bits.{bit_or}
use Rattle.text.specs.Decimal.{decimal}
use Rattle.text.specs.Words.{has, bit_at}
use Rattle.tokens.specs.declared.Token.{Token}
use Rattle.tokens.specs.Kinds.{same_kind}
use Rattle.tokens.specs.declared.Kind.TheVariants.{Transition, Name, Semicolon, End}
use Rattle.tokens.specs.Tokens.{tokens}
use Rattle.naming.specs.declared.Qualifier.{Qualifier}
use Rattle.grammar.specs.declared.Due.{Due}
use Rattle.outline.specs.declared.Cause.{Cause}
use Rattle.outline.specs.declared.Cause.TheVariants.{Settled, OutsideSubset, Undeclared, Limit}
use Rattle.outline.specs.declared.Fault.{Fault}
use Rattle.naming.specs.declared.Names.{Names}
use Rattle.outline.specs.declared.Known.{Known}
use Rattle.outline.specs.declared.Made.{Made}
use Rattle.outline.specs.declared.Condition.{Condition}
use Rattle.outline.specs.declared.Part.{Part}
use Rattle.outline.specs.declared.Reading.{Reading}
use Rattle.naming.specs.Names.{is_declared, is_undeclared, is_first, is_driven, is_listed, is_qualifier, qualifier, table_number, is_new, is_full, with_name}
use Rattle.outline.specs.Faults.{number_of, in_lists, is_n, sign_bytes}
use Rattle.grammar.specs.declared.Phase.{Phase}
use Rattle.grammar.specs.Rows.{follow, in_condition, same_phase}
use Rattle.grammar.specs.declared.Phase.TheVariants.{Outside, InitialName, StepName, ActionDue, QualifierDue, CloseDue, FromDue, ToDue, AssignDue, Stopped}

-- Faults. "the first faulty line, lowest number within it"

abbrev pub fault_at : ℕ → Cause → Fault
fault_at l c = record { line = l; cause = c }

abbrev pub comes_first : Fault → Fault → Bool
comes_first f g = ltb f.line g.line || (eqb f.line g.line && ltb (number_of f.cause) (number_of g.cause))

-- the first fault, once a line is blamed for a cause, if there is one
unfoldable pub blamed : Option Fault → ℕ → Option Cause → Option Fault
blamed f l None = f
blamed None l (Some c) = Some (fault_at l c)
blamed (Some f) l (Some c) = cond (comes_first (fault_at l c) f) (Some (fault_at l c)) (Some f)

-- "lowest number within it: 16 outside the subset, 17 a step name never declared, 18 a limit of 01 passed or an output with both N and S or R"
abbrev pub lowest : Bool → Bool → Bool → Option Cause
lowest a b c = cond a (Some OutsideSubset) (cond b (Some Undeclared) (cond c (Some Limit) None))

-- A reading with one part of it changed

abbrev pub reading : Due → Option Fault → Known → Made → Part → Reading
reading d f k m p = record { due = d; fault = f; known = k; made = m; part = p }

abbrev pub with_due : Reading → Due → Reading
with_due r d = reading d r.fault r.known r.made r.part

abbrev pub with_fault : Reading → Option Fault → Reading
with_fault r f = reading r.due f r.known r.made r.part

unfoldable pub blame : Reading → ℕ → Option Cause → Reading
blame r l n = reading r.due (blamed r.fault l n) r.known r.made r.part

abbrev pub with_made : Reading → Made → Reading
with_made r m = reading r.due r.fault r.known m r.part

abbrev pub with_steps : Reading → Names → ℕ → Reading
with_steps r n w = reading r.due r.fault (record { steps = n; inputs = r.known.inputs; outputs = r.known.outputs; initial = w }) r.made r.part

abbrev pub with_inputs : Reading → Names → Reading
with_inputs r n =
    reading r.due r.fault (record { steps = r.known.steps; inputs = n; outputs = r.known.outputs; initial = r.known.initial }) r.made r.part

abbrev pub with_outputs : Reading → Names → Reading
with_outputs r n =
    reading r.due r.fault (record { steps = r.known.steps; inputs = r.known.inputs; outputs = n; initial = r.known.initial }) r.made r.part

abbrev pub with_action : Reading → ℕ → Token → Option Qualifier → ℕ → Reading
with_action r j v q o =
    reading r.due r.fault r.known r.made
    (record { step = j; variable = v; qualifier = q; output = o; start = r.part.start; listed = r.part.listed; before = r.part.before; condition = r.part.condition })

abbrev pub with_lists : Reading → ℕ → ℕ → ℕ → Reading
with_lists r start listed before =
    reading r.due r.fault r.known r.made
    (record { step = r.part.step; variable = r.part.variable; qualifier = r.part.qualifier; output = r.part.output; start = start; listed = listed; before = before; condition = r.part.condition })

abbrev pub with_condition : Reading → Condition → Reading
with_condition r c =
    reading r.due r.fault r.known r.made
    (record { step = r.part.step; variable = r.part.variable; qualifier = r.part.qualifier; output = r.part.output; start = r.part.start; listed = r.part.listed; before = r.part.before; condition = c })

-- Lines and bytes that may be made: 01, "up to 64" of each kind, "condition 1 to 64 bytes"

abbrev pub up_to64 : ℕ → ℕ
up_to64 n = cond (ltb n 64) (n + 1) n

-- one byte more of a condition; one that finds no room is not kept
abbrev pub put_byte : Condition → ℕ → Condition
put_byte c b = cond (ltb c.size 64) (record { bytes = set c.bytes c.size b; size = c.size + 1 }) c

unfoldable pub put_bytes : Condition → List ℕ → Condition
put_bytes c [] = c
put_bytes c (b ∷ bs) = put_bytes (put_byte c b) bs

abbrev pub over_by : Condition → ℕ → Bool
over_by c n = ltb (64 - c.size) n

-- An action: N is a hold, S and R are latches.

-- 18 "a limit of 01 passed or an output with both N and S or R"
abbrev pub drives_over : Made → Bool → ℕ → Bool
drives_over m hold o = cond hold (has m.latched o || leb 64 m.holds) (has m.held o || leb 64 m.latches)

abbrev pub drives : Made → Bool → ℕ → Made
drives m true o = record { moves = m.moves; holds = up_to64 m.holds; latches = m.latches; held = bit_or m.held (bit_at o); latched = m.latched }
drives m false o = record { moves = m.moves; holds = m.holds; latches = up_to64 m.latches; held = m.held; latched = bit_or m.latched (bit_at o) }

-- What a token does that asks nothing of the text

-- FROM and TO: a list begins. What TO finds listed are the steps before.
unfoldable pub listing : Reading → Token → Reading
listing r t = with_lists r t.place 0 r.part.listed

-- `:=`: a condition begins
unfoldable pub assigned : Reading → Reading
assigned r = with_condition r (record { bytes = r.part.condition.bytes; size = 0 })

-- bytes more of a condition
unfoldable pub pieced : Reading → ℕ → List ℕ → Reading
pieced r l bytes =
    with_condition (blame r l (lowest false false (over_by r.part.condition (length bytes)))) (put_bytes r.part.condition bytes)

-- `;` after a condition: the move is made
unfoldable pub moved : Reading → Reading
moved r =
    with_made r
    (record { moves = up_to64 r.made.moves; holds = r.made.holds; latches = r.made.latches; held = r.made.held; latched = r.made.latched })

-- TRANSITION: 01, "up to 64 `move=LIST>LIST:COND`"
unfoldable pub entered : Reading → Token → Reading
entered r t = blame r t.line (lowest false false (same_kind t.kind Transition && leb 64 r.made.moves))

-- What each token does

module _ (s : List ℕ) where
  -- 01, "N 1 to 30, M and K 0 to 32": a name that finds no number
  abbrev pub past_bound : ℕ → Names → Token → Bool
  past_bound m n t = is_new s n t && is_full m n

  -- INITIAL_STEP or STEP and a name: "a name declared .. twice, is outside the subset"
  unfoldable pub declared : Bool → Reading → Token → Reading
  declared initial r t =
      let n : Names = with_name 30 s r.known.steps t in
      let j : ℕ = table_number s n t in
      with_action
      (with_steps (blame r t.line (lowest (not (is_first s t)) false (past_bound 30 r.known.steps t))) n (cond initial (bit_or r.known.initial (bit_at j)) r.known.initial))
      j r.part.variable r.part.qualifier r.part.output

  -- an action's variable: "a step's name as a variable .. is outside the subset". A name is judged where it appears first.
  unfoldable pub meant : Reading → Token → Reading
  meant r t =
      with_action (blame r t.line (lowest (is_new s r.known.outputs t && is_declared s t) false false))
      r.part.step t r.part.qualifier r.part.output

  unfoldable pub qualified : Reading → Token → Reading
  qualified r t = with_action r r.part.step r.part.variable (qualifier s t) r.part.output

  -- an action whose bracket is closed: its faults are at its variable's line
  unfoldable pub driven : Reading → Reading
  driven r =
      let v : Token = r.part.variable in
      let n : Names = with_name 32 s r.known.outputs v in
      let o : ℕ = table_number s n v in
      let hold : Bool = is_n r.part.qualifier in
      with_made
      (with_action (with_outputs (blame r v.line (lowest false false (past_bound 32 r.known.outputs v || drives_over r.made hold o))) n)
      r.part.step v r.part.qualifier o)
      (drives r.made hold o)

  -- a step in a list: "a name .. listed twice, is outside the subset"; 17 "a step name never declared"
  unfoldable pub listed : Reading → Token → Reading
  listed r t =
      let n : Names = with_name 30 s r.known.steps t in
      with_lists
      (with_steps
      (blame r t.line (lowest (is_listed s r.part.start t) (is_new s r.known.steps t && is_undeclared s t) (past_bound 30 r.known.steps t)))
      n r.known.initial)
      r.part.start (bit_or r.part.listed (bit_at (table_number s n t))) r.part.before

  -- a variable of a condition: "an output in a condition, a step's name as a variable .. is outside the subset"
  unfoldable pub asked : Reading → Token → Reading
  asked r t =
      let n : Names = with_name 32 s r.known.inputs t in
      pieced
      (with_inputs (blame r t.line (lowest (is_new s r.known.inputs t && (is_declared s t || is_driven s t)) false (past_bound 32 r.known.inputs t))) n)
      t.line (105 ∷ decimal (table_number s n t))

  -- a token of a step, where p was due
  unfoldable pub stepped : Phase → Reading → Token → Reading
  stepped p r t =
      cond (same_phase p Outside) (entered r t)
      (cond (same_phase p InitialName) (declared true r t)
      (cond (same_phase p StepName) (declared false r t)
      (cond (same_phase p ActionDue && same_kind t.kind Name) (meant r t)
      (cond (same_phase p QualifierDue) (qualified r t)
      (cond (same_phase p CloseDue) (driven r)
      r)))))

  -- a token of a transition's lists
  unfoldable pub headed : Phase → Reading → Token → Reading
  headed p r t =
      cond (same_phase p FromDue || same_phase p ToDue) (listing r t)
      (cond (same_phase p AssignDue) (assigned r)
      (cond (same_kind t.kind Name) (listed r t)
      r))

  -- a token of a condition: "brackets kept"
  unfoldable pub conditioned : Reading → Token → Reading
  conditioned r t =
      cond (same_kind t.kind Semicolon) (moved r)
      (cond (same_kind t.kind Name) (asked r t)
      (pieced r t.line (sign_bytes t.kind)))

  -- a token, where p was due and r says what is due now: 16 "outside the subset" where it may not stand
  unfoldable pub acted : Phase → Reading → Token → Reading
  acted p r t =
      cond (same_phase r.due.phase Stopped) (blame r t.line (Some OutsideSubset))
      (cond (in_lists p) (headed p r t)
      (cond (in_condition p) (conditioned r t)
      (stepped p r t)))

  -- what is known after one token more
  unfoldable pub after_token : Reading → Token → Reading
  after_token r t = acted r.due.phase (with_due r (follow r.due t.kind (is_qualifier s t))) t

  unfoldable pub reading_from : Reading → List Token → Reading
  reading_from r [] = r
  reading_from r (t ∷ ts) = reading_from (after_token r t) ts

-- Nothing is known before the first token.

unfoldable pub copies : {A : Type 0} → ℕ → A → List A
copies zero x = []
copies (suc n) x = x ∷ copies n x

abbrev pub no_token : Token
no_token = record { kind = End; place = 0; size = 0; line = 0 }

abbrev pub no_names : Names
no_names = record { words = copies 32 no_token; count = 0 }

abbrev pub nothing_known : Reading
nothing_known =
    reading (record { phase = Outside; depth = 0 }) None (record { steps = no_names; inputs = no_names; outputs = no_names; initial = 0 })
    (record { moves = 0; holds = 0; latches = 0; held = 0; latched = 0 })
    (record { step = 0; variable = no_token; qualifier = None; output = 0; start = 0; listed = 0; before = 0; condition = record { bytes = copies 64 0; size = 0 } })

-- The same with a fault that comes before all others: what is known and made does not depend on it, and no other has to be looked for.
abbrev pub settled : Reading
settled = with_fault nothing_known (Some (fault_at 0 Settled))

-- what is known of a whole text
unfoldable pub reading_of : List ℕ → Reading
reading_of s = reading_from s nothing_known (tokens s)
