-- What the import promises, for every text and every room.
use mathlib.Core.Bool.{Bool, true, false, cond}
use mathlib.Core.List.{List, [], ◌∷◌}
use mathlib.Core.Path.{◌≡◌, refl, sym, ap, ◌∙◌}
use Prim.Native.Nat.{ℕ, zero, suc, ◌+◌, ◌≤◌}
use native.Mathlib.Decide.{dec_le}
use native.Mathlib.Omega.{arith}
use borrow.Author.Tests.{eq-eqb, ne_eqb, eqb-true, eqb-false, ltb-false}
use lib.Dec.{eqb, ltb}
use lib.ListN.{length}
use lib.Seq.{sets}
use Rattle.std.specs.Prelude.{Result, Option, Some, None}
use Rattle.outline.specs.declared.Fault.{Fault}
use Rattle.line.specs.Write.{write}
use Rattle.line.specs.Rules.{longest_text}
use Rattle.chart.specs.WellFormed.{Every, every_nil, every_cons}
use Rattle.chart.proofs.Promises.{accepted_if}
use Rattle.tokens.specs.declared.Token.{Token}
use Rattle.tokens.specs.Tokens.{tokens}
use Rattle.outline.specs.Reading.{reading_of}
use Rattle.sfc.specs.declared.Imported.{Imported}
use Rattle.sfc.specs.declared.Refusal.{Refusal}
use Rattle.sfc.specs.Chart.{Map, initial_tokens, map_of}
use Rattle.sfc.specs.Promised.{Brought, LiesInside}
use Rattle.sfc.specs.Import.{program_in, chart_in, is_none, empty_map, map_in, names_by, place_in, answer, answer_by, answer_to, shown, imported, returned, result_of}
use Rattle.sfc.proofs.Faultless.{Faultless, faultless}
use Rattle.sfc.proofs.Answers.{success, shown_returned, import_judged, import_short, map-none}
use Rattle.sfc.proofs.Places.{Inside, names_lie, program_lies}
use Rattle.sfc.proofs.Meaning.{meaning-kept}
use Rattle.sfc.proofs.WellFormed.{chart_well_formed}
use Rattle.sfc.proofs.Map.{map-rules}

-- A success

room_enough : (s : List ℕ) (room : ℕ) → (imported s room).number ≡ 0 → longest_text ≤ room
room_enough s room e =
    elim (dec_le longest_text room) [
      | yes h ↦ h
      | no h ↦ let z = ap (λ (x : Imported). x.number) (import_short s room (omega arith)) in absurd (omega arith)
    ]

judged_success : (s : List ℕ) (room : ℕ) → (imported s room).number ≡ 0 → (answer_to s).number ≡ 0
judged_success s room e = sym (ap (λ (x : Imported). x.number) (import_judged s room (room_enough s room e))) ∙ e

without-fault : (s : List ℕ) → (answer_to s).number ≡ 0 → Faultless s
without-fault s e = let g = success s e in faultless s g.short g.faultless

map_is : (s : List ℕ) → (answer_to s).number ≡ 0 → map_in s ≡ map_of s (program_in s)
unfolding map_in
map_is s e = rw (eq-eqb _ _ e)

pub brought : (s : List ℕ) (room : ℕ) → (imported s room).number ≡ 0 → Brought s room
unfolding result_of
brought s room e =
    let z = judged_success s room e in
    let g = success s z in
    let a = without-fault s z in
    record {
      lent = room_enough s room e;
      reads = a.reads;
      chart = rw (eq-eqb _ _ e) (accepted_if (write (chart_in s)) (chart_in s) (chart_well_formed s (program_in s) (tokens s) a.reads a.agrees.fits g.begins g.fits) refl);
      meaning = rw (map_is s z) (meaning-kept s (program_in s) (tokens s) a.reads a.agrees.fits);
      map = map_is s z;
      one-to-one = map-rules s (program_in s);
    }

-- Refusals: "All of these leave the lent bytes untouched"
pub untouched : (s : List ℕ) (room : ℕ) (l : List ℕ) → ((imported s room).number ≡ 0 → ⊥) → sets l 0 (result_of s room) ≡ l
unfolding result_of
untouched s room l h = rw (ne_eqb _ _ h)

-- Uniqueness: two results of one call are equal
pub import_unique : (s before a b : List ℕ) (q r : Imported) → q ≡ imported s (length before) → a ≡ sets before 0 (result_of s (length before))
    → r ≡ imported s (length before) → b ≡ sets before 0 (result_of s (length before)) → (q ≡ r) × (a ≡ b)
import_unique s before a b q r e f g h = (e ∙ sym g, f ∙ sym h)

-- and of the result itself, which tells refusals of one number apart
pub import_exactly : (s before a b : List ℕ) (q r : Result ℕ Refusal) → q ≡ returned s (length before) → a ≡ sets before 0 (result_of s (length before))
    → r ≡ returned s (length before) → b ≡ sets before 0 (result_of s (length before)) → (q ≡ r) × (a ≡ b)
import_exactly s before a b q r e f g h = (e ∙ sym g, f ∙ sym h)

-- its number, line and length are those of the table of answers
pub import_shown : (s : List ℕ) (room : ℕ) → shown (returned s room) ≡ imported s room
import_shown = shown_returned

-- Names lie in the text

place_inside : (s : List ℕ) (l : List Token) (j : ℕ) → Every (Inside s) l → (place_in l j).start + (place_in l j).length ≤ length s
unfolding place_in
place_inside s [] j f = omega arith
place_inside s (t ∷ l) zero (every_cons h f) = h
place_inside s (t ∷ l) (suc j) (every_cons h f) = place_inside s l j f

kind-inside : (s : List ℕ) (m : Map) (k j : ℕ) → Every (Inside s) m.steps → Every (Inside s) m.inputs → Every (Inside s) m.outputs
    → (place_in (names_by m k) j).start + (place_in (names_by m k) j).length ≤ length s
unfolding names_by
kind-inside s m k j a b c = go (eqb k 0) (eqb k 1) (eqb k 2)
  where
    go : (x y z : Bool) → (place_in (cond x m.steps (cond y m.inputs (cond z m.outputs []))) j).start
        + (place_in (cond x m.steps (cond y m.inputs (cond z m.outputs []))) j).length ≤ length s
    go true y z = place_inside s m.steps j a
    go false true z = place_inside s m.inputs j b
    go false false true = place_inside s m.outputs j c
    go false false false = place_inside s [] j every_nil

-- the place of a name lies in the caller's text
pub name-inside : (s : List ℕ) (k j : ℕ) → LiesInside s (place_in (names_by (map_in s) k) j)
name-inside s k j = go (eqb (answer_to s).number 0) refl
  where
    map_lies : (answer_to s).number ≡ 0 → (place_in (names_by (map_of s (program_in s)) k) j).start + (place_in (names_by (map_of s (program_in s)) k) j).length ≤ length s
    map_lies z =
        let f = program_lies s (program_in s) (without-fault s z).reads in
        kind-inside s (map_of s (program_in s)) k j (unfold map_of in names_lie s _ f.steps) (unfold map_of in names_lie s _ f.inputs) (unfold map_of in names_lie s _ f.outputs)

    go : (t : Bool) → eqb (answer_to s).number 0 ≡ t → LiesInside s (place_in (names_by (map_in s) k) j)
    go true e =
        let z = eqb-true _ _ e in
        let n = (success s z).short in
        let l = map_lies z in
        rw (map_is s z) (record { inside = l; low = omega arith })
    go false e =
        let l = kind-inside [] empty_map k j every_nil every_nil every_nil in
        rw (map-none s (eqb-false _ _ e)) (record { inside = omega arith; low = omega arith })

-- a result is never over 16,384 bytes
pub import_low : (s : List ℕ) (room : ℕ) → (imported s room).length ≤ longest_text
unfolding imported answer_to
import_low s room =
    go (ltb room longest_text) (ltb longest_text (length s)) (reading_of s).fault (is_none (initial_tokens (program_in s))) (ltb longest_text (length (write (chart_in s)))) refl
  where
    pick : Bool → Bool → Option Fault → Bool → Bool → Imported
    pick a b f i z =
        cond a (answer 29 0 0)
        (cond b (answer 18 0 0)
        (answer_by f
        (cond i (answer 16 0 0)
        (cond z (answer 18 0 0)
        (answer 0 0 (length (write (chart_in s))))))))

    go : (a b : Bool) (f : Option Fault) (i z : Bool) → ltb longest_text (length (write (chart_in s))) ≡ z → (pick a b f i z).length ≤ longest_text
    go true b f i z e = omega arith
    go false true f i z e = omega arith
    go false false (Some g) i z e = omega arith
    go false false None true z e = omega arith
    go false false None false true e = omega arith
    go false false None false false e = ltb-false longest_text (length (write (chart_in s))) e
