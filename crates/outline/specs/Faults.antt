-- The faults of a text, row by row: the table that the fold of Reading.antt is held against. proofs/First.antt: its fault is a row of this table, and no row comes before it.
-- 02, P4: "the first faulty line, lowest number within it: 16 outside the subset, 17 a step name never declared, 18 a limit of 01 passed or an output with both N and S or R".
-- docs/DECISIONS.md, SFC text: reading goes token by token up to the first one that the grammar has not there; every fault stands at the line of a token.
use Rattle.std.specs.Prelude.{Bool, true, false, cond, not, ◌&&◌, ◌||◌, List, [], ◌∷◌, ◌++◌, ◌≡◌, Option, Some, None, option_to_list, ℕ, ◌+◌, ◌≤◌, ◌<◌, eqb, length}
use Rattle.text.specs.Decimal.{decimal}
use Rattle.text.specs.Members.{is_among}
use Rattle.tokens.specs.declared.Token.{Token}
use Rattle.tokens.specs.declared.Kind.{Kind}
use Rattle.tokens.specs.Kinds.{sign, same_kind}
use Rattle.tokens.specs.declared.Kind.TheVariants.{Transition, Name, Semicolon, End}
use Rattle.tokens.specs.Spelling.{same_word}
use Rattle.tokens.specs.Tokens.{token_bytes, tokens}
use Rattle.naming.specs.Names.{is_declared, is_undeclared, is_driven, is_qualifier, qualifier, number_in, joined_to}
use Rattle.naming.specs.declared.Qualifier.{Qualifier}
use Rattle.naming.specs.declared.Qualifier.TheVariants.{N}
use Rattle.grammar.specs.declared.Due.{Due}
use Rattle.grammar.specs.declared.Phase.{Phase}
use Rattle.grammar.specs.Rows.{follow, in_condition, same_phase}
use Rattle.grammar.specs.declared.Phase.TheVariants.{Outside, InitialName, StepName, ActionDue, QualifierDue, CloseDue, FromDue, BeforeDue, BeforeFirst, BeforeComma, BeforeName, BeforeMore, ToDue, AfterDue, AfterFirst, AfterComma, AfterName, AfterMore, AssignDue, Stopped}
use Rattle.outline.specs.declared.Cause.{Cause}
use Rattle.outline.specs.declared.Cause.TheVariants.{Settled, OutsideSubset, Undeclared, Limit}
use Rattle.outline.specs.declared.Fault.{Fault}

-- "16 outside the subset, 17 a step name never declared, 18 a limit of 01 passed or an output with both N and S or R"; 1 is no row of the table below
abbrev pub number_of : Cause → ℕ
number_of Settled = 1
number_of OutsideSubset = 16
number_of Undeclared = 17
number_of Limit = 18

-- where the lists of a transition are read, up to the `:=` after them
abbrev pub in_lists : Phase → Bool
in_lists FromDue = true
in_lists BeforeDue = true
in_lists BeforeFirst = true
in_lists BeforeComma = true
in_lists BeforeName = true
in_lists BeforeMore = true
in_lists ToDue = true
in_lists AfterDue = true
in_lists AfterFirst = true
in_lists AfterComma = true
in_lists AfterName = true
in_lists AfterMore = true
in_lists AssignDue = true
in_lists _ = false

-- N alone is a hold
abbrev pub is_n : Option Qualifier → Bool
is_n (Some N) = true
is_n _ = false

-- the byte that a word or sign of a condition becomes
abbrev pub sign_bytes : Kind → List ℕ
sign_bytes k = option_to_list (sign k)

-- What a token is, by what was due where it stood (grammar/specs/Rows.antt) and by its kind.

-- TRANSITION; a name after INITIAL_STEP or STEP
abbrev pub entering : ℕ
entering = 1

abbrev pub declaring : ℕ
declaring = 2

-- the name of an action, its N, S or R, and its `)`
abbrev pub acting : ℕ
acting = 3

abbrev pub qualifying : ℕ
qualifying = 4

abbrev pub closing : ℕ
closing = 5

-- FROM or TO; a name in FROM or TO; `:=`
abbrev pub beginning : ℕ
beginning = 6

abbrev pub enlisting : ℕ
enlisting = 7

abbrev pub assigning : ℕ
assigning = 8

-- a name in a condition; another token of it; the `;` after it
abbrev pub asking : ℕ
asking = 9

abbrev pub joining : ℕ
joining = 10

abbrev pub ending : ℕ
ending = 11

abbrev pub other : ℕ
other = 0

abbrev pub step_place : Phase → Kind → ℕ
step_place p k =
    cond (same_phase p Outside) (cond (same_kind k Transition) entering other)
    (cond (same_phase p InitialName || same_phase p StepName) declaring
    (cond (same_phase p ActionDue && same_kind k Name) acting
    (cond (same_phase p QualifierDue) qualifying
    (cond (same_phase p CloseDue) closing
    other))))

abbrev pub list_place : Phase → Kind → ℕ
list_place p k = cond (same_phase p FromDue || same_phase p ToDue) beginning (cond (same_phase p AssignDue) assigning (cond (same_kind k Name) enlisting other))

abbrev pub condition_place : Kind → ℕ
condition_place k = cond (same_kind k Semicolon) ending (cond (same_kind k Name) asking joining)

unfoldable pub place_of : Phase → Kind → ℕ
place_of p k = cond (in_lists p) (list_place p k) (cond (in_condition p) (condition_place k) (step_place p k))

-- A token that was read, and what it is there. A history is the tokens read so far, the newest first.
pub record ReadToken : Type 0 where
  pub place : ℕ
  pub token : Token

-- How far a text is read: "Reading goes token by token up to the first one that the grammar has not there". The tokens read, what is due, the tokens left.
pub data Reached (s : List ℕ) : List ReadToken → Due → List Token → Type 0 where
  nothing_read : Reached s [] (record { phase = Outside; depth = 0 }) (tokens s)
  one_more : {h : List ReadToken} {d : Due} {t : Token} {us : List Token} → Reached s h d (t ∷ us) → ((follow d t.kind (is_qualifier s t)).phase ≡ Stopped → ⊥)
      → Reached s (record { place = place_of d.phase t.kind; token = t } ∷ h) (follow d t.kind (is_qualifier s t)) us

-- What a history tells

-- the variable of the last action
unfoldable pub variable_of : List ReadToken → Token
variable_of [] = record { kind = End; place = 0; size = 0; line = 0 }
variable_of (x ∷ h) = cond (eqb x.place acting) x.token (variable_of h)

-- the names declared so far, and those of the last FROM or TO
unfoldable pub declared_names : List ReadToken → List Token
declared_names [] = []
declared_names (x ∷ h) = cond (eqb x.place declaring) (x.token ∷ declared_names h) (declared_names h)

unfoldable pub list_names : List ReadToken → List Token
list_names [] = []
list_names (x ∷ h) = cond (eqb x.place beginning) [] (cond (eqb x.place enlisting) (x.token ∷ list_names h) (list_names h))

-- the transitions entered
unfoldable pub transitions : List ReadToken → ℕ
transitions [] = 0
transitions (x ∷ h) = cond (eqb x.place entering) (transitions h + 1) (transitions h)

module _ (s : List ℕ) where
  -- a name is one of some, in any case
  unfoldable pub is_one_of : Token → List Token → Bool
  is_one_of t [] = false
  is_one_of t (u ∷ l) = same_word (token_bytes s u) (token_bytes s t) || is_one_of t l

  -- the step names that appeared, "in lists or declarations", each once, in order of appearance
  unfoldable pub step_names : List ReadToken → List Token
  step_names [] = []
  step_names (x ∷ h) = cond (eqb x.place declaring || eqb x.place enlisting) (joined_to s (step_names h) x.token) (step_names h)

  -- the inputs, by appearance in conditions
  unfoldable pub input_names : List ReadToken → List Token
  input_names [] = []
  input_names (x ∷ h) = cond (eqb x.place asking) (joined_to s (input_names h) x.token) (input_names h)

  -- the outputs, by action: an action counts "once its `)` is read"
  unfoldable pub output_names : List ReadToken → List Token
  output_names [] = []
  output_names (x ∷ h) = cond (eqb x.place closing) (joined_to s (output_names h) (variable_of h)) (output_names h)

  -- the last action's qualifier, N, S or R, and its output's number: a new output gets the next one
  unfoldable pub qualifier_of : List ReadToken → Option Qualifier
  qualifier_of [] = None
  qualifier_of (x ∷ h) = cond (eqb x.place qualifying) (qualifier s x.token) (qualifier_of h)

  abbrev pub is_hold : List ReadToken → Bool
  is_hold h = is_n (qualifier_of h)

  abbrev pub output_of : List ReadToken → ℕ
  output_of h = number_in s (variable_of h) (output_names h)

  -- the outputs of the N actions, and of the S and R actions, one for each action
  unfoldable pub outputs_held : List ReadToken → List ℕ
  outputs_held [] = []
  outputs_held (x ∷ h) = cond (eqb x.place closing && is_hold h) (output_of h ∷ outputs_held h) (outputs_held h)

  unfoldable pub outputs_latched : List ReadToken → List ℕ
  outputs_latched [] = []
  outputs_latched (x ∷ h) = cond (eqb x.place closing && not (is_hold h)) (output_of h ∷ outputs_latched h) (outputs_latched h)

  -- the bytes of the condition that is open: an input is `i` and its number, any other token the byte that it becomes
  unfoldable pub written : List ReadToken → List ℕ
  written [] = []
  written (x ∷ h) =
      cond (eqb x.place assigning) []
      (cond (eqb x.place asking) (written h ++ (105 ∷ decimal (number_in s x.token (input_names h))))
      (cond (eqb x.place joining) (written h ++ sign_bytes x.token.kind)
      (written h)))

-- t was read, as a c, after h
pub data Stands (s : List ℕ) (c : ℕ) (h : List ReadToken) (t : Token) : Type 0 where
  stands : {d : Due} {us : List Token} → Reached s (record { place = c; token = t } ∷ h) d us → Stands s c h t

-- The table: a fault of number n at line l. "Every fault stands at the line of a token, never of the construct". Numbers begin with 0, so the 31st step name has 30;
-- a row of a limit has the later ones too (the 32nd step name, the 66th TRANSITION), which come no earlier than the first that passes it.
pub data Faulty (s : List ℕ) : ℕ → ℕ → Type 0 where
  -- any token, 16: "the first one that the grammar has not there; that is 16 at its line"
  not_there : {h : List ReadToken} {d : Due} {t : Token} {us : List Token} → Reached s h d (t ∷ us) → (follow d t.kind (is_qualifier s t)).phase ≡ Stopped → Faulty s t.line 16
  -- name after (INITIAL_)STEP, 16: "an earlier (INITIAL_)STEP has it"
  declared_twice : {h : List ReadToken} {t : Token} → Stands s declaring h t → is_one_of s t (declared_names h) ≡ true → Faulty s t.line 16
  -- name after (INITIAL_)STEP, 18: "it is the 31st step name to appear, in lists or declarations"
  step-declared : {h : List ReadToken} {t : Token} → Stands s declaring h t → 30 ≤ number_in s t (step_names s h) → Faulty s t.line 18
  -- name of an action, 16: "declared (a step's name as a variable)"
  step-driven : {h : List ReadToken} {t : Token} → Stands s acting h t → is_declared s t ≡ true → Faulty s t.line 16
  -- name of an action, 18: "the 33rd output". "Judged once its `)` is read", here t
  many_outputs : {h : List ReadToken} {t : Token} → Stands s closing h t → 32 ≤ output_of s h → Faulty s (variable_of h).line 18
  -- name of an action, 18: "the 65th N action"
  many_holds : {h : List ReadToken} {t : Token} → Stands s closing h t → is_hold s h ≡ true → 64 ≤ length (outputs_held s h) → Faulty s (variable_of h).line 18
  -- name of an action, 18: "the 65th S or R action"
  many_latches : {h : List ReadToken} {t : Token} → Stands s closing h t → is_hold s h ≡ false → 64 ≤ length (outputs_latched s h) → Faulty s (variable_of h).line 18
  -- name of an action, 18: "it makes an output have N and S or R", by its N or by its S or R
  held_latched : {h : List ReadToken} {t : Token} → Stands s closing h t → is_hold s h ≡ true → is_among (output_of s h) (outputs_latched s h) ≡ true → Faulty s (variable_of h).line 18
  latched_held : {h : List ReadToken} {t : Token} → Stands s closing h t → is_hold s h ≡ false → is_among (output_of s h) (outputs_held s h) ≡ true → Faulty s (variable_of h).line 18
  -- name in FROM or TO, 17: "not declared"
  step-undeclared : {h : List ReadToken} {t : Token} → Stands s enlisting h t → is_undeclared s t ≡ true → Faulty s t.line 17
  -- name in FROM or TO, 16: "already in this very list (in FROM and in TO is fine)"
  listed_twice : {h : List ReadToken} {t : Token} → Stands s enlisting h t → is_one_of s t (list_names h) ≡ true → Faulty s t.line 16
  -- name in FROM or TO, 18: "the 31st step name to appear"
  step-listed : {h : List ReadToken} {t : Token} → Stands s enlisting h t → 30 ≤ number_in s t (step_names s h) → Faulty s t.line 18
  -- name in a condition, 16: "declared or driven, wherever"
  step-asked : {h : List ReadToken} {t : Token} → Stands s asking h t → is_declared s t ≡ true → Faulty s t.line 16
  output-asked : {h : List ReadToken} {t : Token} → Stands s asking h t → is_driven s t ≡ true → Faulty s t.line 16
  -- name in a condition, 18: "the 33rd input"
  many_inputs : {h : List ReadToken} {t : Token} → Stands s asking h t → 32 ≤ number_in s t (input_names s h) → Faulty s t.line 18
  -- TRANSITION, 18: "the 65th"
  many_transitions : {h : List ReadToken} {t : Token} → Stands s entering h t → 64 ≤ transitions h → Faulty s t.line 18
  -- any of a condition, 18: "its bytes take the written condition past 64 (`i10` counts 3, whatever the name)"; a name, or another token
  long-name : {h : List ReadToken} {t : Token} → Stands s asking h t → 64 < length (written s (record { place = asking; token = t } ∷ h)) → Faulty s t.line 18
  long_sign : {h : List ReadToken} {t : Token} → Stands s joining h t → 64 < length (written s (record { place = joining; token = t } ∷ h)) → Faulty s t.line 18

-- "The lowest line wins, then the lowest number in it": f is a fault, and comes no later than one of number n at line l
pub record NoLater (f : Option Fault) (l n : ℕ) : Type 0 where
  pub fault : Fault
  pub is : f ≡ Some fault
  pub line : fault.line ≤ l
  pub number : fault.line ≡ l → number_of fault.cause ≤ n
