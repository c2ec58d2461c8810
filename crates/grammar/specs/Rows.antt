-- A way of the code: which token may stand where, a row for each place. It lets pass exactly the programs of Grammar.antt: `passes_program`
-- (proofs/Programs.antt), `text_passes` and `no_program` (proofs/Passes.antt).
-- 02, P4: "INITIAL_STEP, STEP, and TRANSITION FROM .. TO .. := .. ; END_TRANSITION, conditions with AND, OR, NOT, TRUE, FALSE and brackets, and N, S and R actions."
--   text       : { step | transition }
--   step       : (INITIAL_STEP | STEP) NAME `:` { NAME `(` (N | S | R) `)` `;` } END_STEP
--   transition : TRANSITION FROM steps TO steps `:=` condition `;` END_TRANSITION
--   steps      : NAME, or `(` NAME `,` NAME { `,` NAME } `)`
--   condition  : operands joined by AND and OR;  operand : [ NOT ] (TRUE | FALSE | NAME | `(` condition `)`)
use Rattle.std.specs.Prelude.{Bool, true, false, cond, not, ◌&&◌, ◌||◌, List, [], ◌∷◌, ℕ, ◌-◌, eqb}
use denote.Enum.Bare.{sameb}
use Rattle.tokens.specs.declared.Kind.{Kind}
use Rattle.tokens.specs.declared.Kind.TheVariants.{InitialStep, Step, EndStep, Transition, From, To, EndTransition, And, Or, Not, True, False, Name, Assign, Colon, Semicolon, Open, Close, Comma, End}
use Rattle.tokens.specs.Kinds.{same_kind}
use Rattle.tokens.specs.Tokens.{up}
use Rattle.grammar.specs.contracts.Phase.{the_type}
use Rattle.grammar.specs.declared.Phase.{Phase}
use Rattle.grammar.specs.declared.Phase.TheVariants.{Outside, InitialName, StepName, ColonDue, ActionDue, OpenDue, QualifierDue, CloseDue, SemicolonDue, FromDue, BeforeDue, BeforeFirst, BeforeComma, BeforeName, BeforeMore, ToDue, AfterDue, AfterFirst, AfterComma, AfterName, AfterMore, AssignDue, OperandDue, PlainDue, OperatorDue, EndDue, Stopped}
use Rattle.grammar.specs.declared.Due.{Due}

-- `==` on phases
abbrev pub same_phase : Phase → Phase → Bool
same_phase = sameb the_type

-- The rows: what is due, a token's kind that may stand there, and what is due then.
abbrev pub rows : List (Phase × Kind × Phase)
rows =
    (Outside, InitialStep, InitialName)
    ∷ (Outside, Step, StepName)
    ∷ (Outside, Transition, FromDue)
    ∷ (Outside, End, Outside)
    ∷ (InitialName, Name, ColonDue)
    ∷ (StepName, Name, ColonDue)
    ∷ (ColonDue, Colon, ActionDue)
    ∷ (ActionDue, Name, OpenDue)
    ∷ (ActionDue, EndStep, Outside)
    ∷ (OpenDue, Open, QualifierDue)
    ∷ (QualifierDue, Name, CloseDue)
    ∷ (CloseDue, Close, SemicolonDue)
    ∷ (SemicolonDue, Semicolon, ActionDue)
    ∷ (FromDue, From, BeforeDue)
    ∷ (BeforeDue, Name, ToDue)
    ∷ (BeforeDue, Open, BeforeFirst)
    ∷ (BeforeFirst, Name, BeforeComma)
    ∷ (BeforeComma, Comma, BeforeName)
    ∷ (BeforeName, Name, BeforeMore)
    ∷ (BeforeMore, Comma, BeforeName)
    ∷ (BeforeMore, Close, ToDue)
    ∷ (ToDue, To, AfterDue)
    ∷ (AfterDue, Name, AssignDue)
    ∷ (AfterDue, Open, AfterFirst)
    ∷ (AfterFirst, Name, AfterComma)
    ∷ (AfterComma, Comma, AfterName)
    ∷ (AfterName, Name, AfterMore)
    ∷ (AfterMore, Comma, AfterName)
    ∷ (AfterMore, Close, AssignDue)
    ∷ (AssignDue, Assign, OperandDue)
    ∷ (OperandDue, Not, PlainDue)
    ∷ (OperandDue, Open, OperandDue)
    ∷ (OperandDue, True, OperatorDue)
    ∷ (OperandDue, False, OperatorDue)
    ∷ (OperandDue, Name, OperatorDue)
    ∷ (PlainDue, Open, OperandDue)
    ∷ (PlainDue, True, OperatorDue)
    ∷ (PlainDue, False, OperatorDue)
    ∷ (PlainDue, Name, OperatorDue)
    ∷ (OperatorDue, And, OperandDue)
    ∷ (OperatorDue, Or, OperandDue)
    ∷ (OperatorDue, Close, OperatorDue)
    ∷ (OperatorDue, Semicolon, EndDue)
    ∷ (EndDue, EndTransition, Outside)
    ∷ []

-- by the first row that a phase and a kind have
unfoldable pub next_in : List (Phase × Kind × Phase) → Phase → Kind → Phase
next_in [] p k = Stopped
next_in (r ∷ rs) p k = cond (same_phase r.0 p && same_kind r.1 k) r.2 (next_in rs p k)

-- what is due after a token, by the rows
unfoldable pub next_due : Phase → Kind → Phase
next_due p k = next_in rows p k

-- Brackets of a condition: as many are closed as were opened.

abbrev pub in_condition : Phase → Bool
in_condition OperandDue = true
in_condition PlainDue = true
in_condition OperatorDue = true
in_condition _ = false

abbrev pub balanced : Due → Kind → Bool
balanced d k = not (same_phase d.phase OperatorDue && ((same_kind k Close && eqb d.depth 0) || (same_kind k Semicolon && not (eqb d.depth 0))))

abbrev pub depth_after : Due → Kind → ℕ
depth_after d k = cond (in_condition d.phase) (cond (same_kind k Open) (up d.depth) (cond (same_kind k Close) (d.depth - 1) d.depth)) d.depth

-- what is due after a token of a kind; q says whether it may stand as a qualifier
unfoldable pub follow : Due → Kind → Bool → Due
follow d k q =
    cond (balanced d k && (q || not (same_phase d.phase QualifierDue))) (record { phase = next_due d.phase k; depth = depth_after d k })
    (record { phase = Stopped; depth = 0 })
