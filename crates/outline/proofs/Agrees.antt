-- What the fold knows agrees with what the history tells: tables hold the first names, counters stop at 64, words have the outputs.
use mathlib.Core.Bool.{Bool, true, false, cond, not}
use mathlib.Core.List.{List, [], ◌∷◌}
use mathlib.Core.Path.{◌≡◌, refl, sym, ap, ◌∙◌}
use Prim.Native.Nat.{ℕ, ◌+◌, ◌^◌, ◌<◌, min}
use native.Mathlib.Omega.{arith}
use native.Mathlib.Nat.{zero-div}
use lib.Dec.{eqb}
use lib.ListN.{length}
use lib.Seq.{take-nil}
use Rattle.text.specs.Members.{is_among}
use Rattle.text.specs.Words.{has}
use Rattle.tokens.specs.declared.Token.{Token}
use Rattle.naming.proofs.Limited.{Front, table-joined, joined_number}
use Rattle.outline.specs.declared.Known.{Known}
use Rattle.outline.specs.declared.Made.{Made}
use Rattle.outline.specs.declared.Part.{Part}
use Rattle.outline.specs.declared.Reading.{Reading}
use Rattle.outline.specs.Reading.{blame, drives, entered, declared, meant, qualified, driven, listing, assigned, listed, asked, pieced, moved, copies, no_names, nothing_known}
use Rattle.std.specs.Prelude.{Option}
use Rattle.naming.specs.declared.Qualifier.{Qualifier}
use Rattle.outline.specs.Faults.{is_n, ReadToken, beginning, ending, variable_of, step_names, input_names, output_names, qualifier_of, output_of, outputs_held, outputs_latched}
use Rattle.outline.proofs.Words.{Holds, holds_more, more-is}
use Rattle.outline.proofs.Places.{Place, is-entering, is-declaring, is-acting, is-qualifying, is-closing, is-beginning, is-enlisting, is-assigning, is-asking, is-joining, is-ending, is-other, doing}

-- the transitions whose condition was ended
unfoldable pub endings : List ReadToken → ℕ
endings [] = 0
endings (x ∷ h) = cond (eqb x.place ending) (endings h + 1) (endings h)

-- the place of the last FROM or TO
unfoldable pub list_from : List ReadToken → ℕ
list_from [] = 0
list_from (x ∷ h) = cond (eqb x.place beginning) x.token.place (list_from h)

pub record Tables (s : List ℕ) (a b c : List Token) (k : Known) : Type 0 where
  pub steps : Front s 30 a k.steps
  pub inputs : Front s 32 b k.inputs
  pub outputs : Front s 32 c k.outputs

pub record Counts (e : ℕ) (a b : List ℕ) (m : Made) : Type 0 where
  pub moves : m.moves ≡ min 64 e
  pub holds : m.holds ≡ min 64 (length a)
  pub latches : m.latches ≡ min 64 (length b)
  pub held : Holds m.held a
  pub latched : Holds m.latched b

pub record Parts (v : Token) (q : Option Qualifier) (a : ℕ) (p : Part) : Type 0 where
  pub variable : p.variable ≡ v
  pub qualifier : p.qualifier ≡ q
  pub start : p.start ≡ a

pub record Agrees (s : List ℕ) (h : List ReadToken) (k : Known) (m : Made) (p : Part) : Type 0 where
  pub tables : Tables s (step_names s h) (input_names s h) (output_names s h) k
  pub counts : Counts (endings h) (outputs_held s h) (outputs_latched s h) m
  pub parts : Parts (variable_of h) (qualifier_of s h) (list_from h) p

-- an action is counted
counts_drives : (b : Bool) (o v e : ℕ) (a c : List ℕ) (m : Made) → o ≡ min 32 v → Counts e a c m → Counts e (cond b (v ∷ a) a) (cond (not b) (v ∷ c) c) (drives m b o)
counts_drives true o v e a c m z g =
    record {
      moves = g.moves;
      holds = more-is m.holds (length a) g.holds ∙ ap (min 64) (omega arith);
      latches = g.latches;
      held = holds_more m.held v o a g.held z;
      latched = g.latched;
    }
counts_drives false o v e a c m z g =
    record {
      moves = g.moves;
      holds = g.holds;
      latches = more-is m.latches (length c) g.latches ∙ ap (min 64) (omega arith);
      held = g.held;
      latched = holds_more m.latched v o c g.latched z;
    }

module _ (s : List ℕ) where
  no_table : (m : ℕ) → Front s m [] no_names
  unfolding copies
  no_table m = record { words = refl; is = sym (take-nil m); count = omega arith }

  -- before the first token
  pub agrees_start : Agrees s [] nothing_known.known nothing_known.made nothing_known.part
  unfolding step_names input_names output_names outputs_held outputs_latched endings variable_of qualifier_of list_from is_among
  agrees_start =
      record {
        tables = record { steps = no_table 30; inputs = no_table 32; outputs = no_table 32 };
        counts = record { moves = omega arith; holds = omega arith; latches = omega arith; held = none; latched = none };
        parts = record { variable = refl; qualifier = refl; start = refl };
      }
    where
      none : (o : ℕ) → o < 32 → has 0 o ≡ false
      none o h = rw (zero-div (2 ^ o))

  module _ (b : Bool) (h : List ReadToken) (r : Reading) (t : Token) (g : Agrees s h r.known r.made r.part) where
    -- what the fold knows after one token more
    pub agrees_more : (c : ℕ) → Place c
        → Agrees s (record { place = c; token = t } ∷ h) (doing s b c r t).known (doing s b c r t).made (doing s b c r t).part
    unfolding entered declared meant qualified driven listing listed assigned asked pieced moved blame step_names input_names output_names outputs_held outputs_latched endings variable_of qualifier_of list_from
    agrees_more c is-entering = record { tables = g.tables; counts = g.counts; parts = g.parts }
    agrees_more c is-declaring =
        record {
          tables = record { steps = table-joined s 30 (step_names s h) r.known.steps g.tables.steps t (omega arith); inputs = g.tables.inputs; outputs = g.tables.outputs };
          counts = g.counts;
          parts = record { variable = g.parts.variable; qualifier = g.parts.qualifier; start = g.parts.start };
        }
    agrees_more c is-acting =
        record { tables = g.tables; counts = g.counts; parts = record { variable = refl; qualifier = g.parts.qualifier; start = g.parts.start } }
    agrees_more c is-qualifying =
        record { tables = g.tables; counts = g.counts; parts = record { variable = g.parts.variable; qualifier = refl; start = g.parts.start } }
    agrees_more c is-closing =
        record {
          tables = record {
            steps = g.tables.steps;
            inputs = g.tables.inputs;
            outputs = rw g.parts.variable (table-joined s 32 (output_names s h) r.known.outputs g.tables.outputs (variable_of h) (omega arith));
          };
          counts = rw (g.parts.variable, g.parts.qualifier)
              (counts_drives (is_n (qualifier_of s h)) _ (output_of s h) (endings h) (outputs_held s h) (outputs_latched s h) r.made
              (joined_number s 32 (output_names s h) r.known.outputs (variable_of h) g.tables.outputs (omega arith)) g.counts);
          parts = record { variable = g.parts.variable; qualifier = g.parts.qualifier; start = g.parts.start };
        }
    agrees_more c is-beginning =
        record { tables = g.tables; counts = g.counts; parts = record { variable = g.parts.variable; qualifier = g.parts.qualifier; start = refl } }
    agrees_more c is-enlisting =
        record {
          tables = record { steps = table-joined s 30 (step_names s h) r.known.steps g.tables.steps t (omega arith); inputs = g.tables.inputs; outputs = g.tables.outputs };
          counts = g.counts;
          parts = record { variable = g.parts.variable; qualifier = g.parts.qualifier; start = g.parts.start };
        }
    agrees_more c is-assigning =
        record { tables = g.tables; counts = g.counts; parts = record { variable = g.parts.variable; qualifier = g.parts.qualifier; start = g.parts.start } }
    agrees_more c is-asking =
        record {
          tables = record { steps = g.tables.steps; inputs = table-joined s 32 (input_names s h) r.known.inputs g.tables.inputs t (omega arith); outputs = g.tables.outputs };
          counts = g.counts;
          parts = record { variable = g.parts.variable; qualifier = g.parts.qualifier; start = g.parts.start };
        }
    agrees_more c is-joining =
        record { tables = g.tables; counts = g.counts; parts = record { variable = g.parts.variable; qualifier = g.parts.qualifier; start = g.parts.start } }
    agrees_more c is-ending =
        record {
          tables = g.tables;
          counts = record {
            moves = more-is r.made.moves (endings h) g.counts.moves;
            holds = g.counts.holds;
            latches = g.counts.latches;
            held = g.counts.held;
            latched = g.counts.latched;
          };
          parts = g.parts;
        }
    agrees_more c is-other = record { tables = g.tables; counts = g.counts; parts = g.parts }
