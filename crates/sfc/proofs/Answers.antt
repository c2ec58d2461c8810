-- The answers, one for each way through the code.
use mathlib.Core.Bool.{Bool, true, false, cond, false≢true}
use mathlib.Core.List.{List, [], ◌∷◌}
use mathlib.Core.Path.{◌≡◌, refl, sym, ap, ◌∙◌}
use Prim.Native.Nat.{ℕ, zero, suc, ◌+◌, ◌<◌, ◌≤◌}
use native.Mathlib.Omega.{arith}
use borrow.Author.Tests.{eq-eqb, ne_eqb, lt-ltb, le-ltb, ltb-false}
use lib.Dec.{ltb}
use lib.ListN.{length, get_or}
use Rattle.line.specs.Write.{write}
use Rattle.line.specs.Rules.{longest_text}
use Rattle.writer.specs.Lines.{drawn_of}
use Rattle.std.specs.Prelude.{Result, Ok, Option, Some, None, Err}
use Rattle.outline.specs.declared.Cause.{Cause}
use Rattle.outline.specs.declared.Cause.TheVariants.{Settled, OutsideSubset, Undeclared, Limit}
use Rattle.outline.specs.declared.Fault.{Fault}
use Rattle.outline.specs.Faults.{number_of}
use Rattle.outline.specs.declared.Reading.{Reading}
use Rattle.outline.specs.Reading.{reading_of}
use Rattle.sfc.specs.declared.Imported.{Imported}
use Rattle.sfc.specs.declared.Refusal.{Refusal}
use Rattle.sfc.specs.declared.Refusal.TheVariants.{ShortRoom, LongText, Line, NoInitialStep, LongResult}
use Rattle.tokens.specs.declared.Token.{Token}
use Rattle.sfc.specs.Chart.{Map, initial_tokens}
use Rattle.sfc.specs.Import.{program_in, chart_in, is_none, empty_map, map_by, map_in, names_by, place_in, answer, answer_by, answer_to, shown, imported, refused_by, conclusion, returned, result_of}
use Rattle.sfc.proofs.Agreeing.{Agrees}
use Rattle.sfc.proofs.Faultless.{faultless, names_agree}

-- The result, and its number, line and length

module _ (s : List ℕ) where
  pub shown_conclusion : shown (conclusion s) ≡ answer_to s
  unfolding conclusion answer_to
  shown_conclusion = go (ltb longest_text (length s)) (reading_of s).fault (is_none (initial_tokens (program_in s))) (ltb longest_text (length (write (chart_in s))))
    where
      size : ℕ
      size = length (write (chart_in s))

      go : (b : Bool) (f : Option Fault) (i z : Bool)
          → shown (cond b (Err LongText) (refused_by f (cond i (Err NoInitialStep) (cond z (Err LongResult) (Ok size)))))
          ≡ cond b (answer 18 0 0) (answer_by f (cond i (answer 16 0 0) (cond z (answer 18 0 0) (answer 0 0 size))))
      go true f i z = refl
      go false (Some g) i z = refl
      go false None true z = refl
      go false None false true = refl
      go false None false false = refl

  -- what is known of the result is known of its numbers
  pub shown_as : (q : Result ℕ Refusal) → conclusion s ≡ q → answer_to s ≡ shown q
  shown_as q e = sym shown_conclusion ∙ ap shown e

-- What a text comes to

module _ (s : List ℕ) where
  pub judged-long : longest_text < length s → conclusion s ≡ Err LongText
  unfolding conclusion
  judged-long b = rw (lt-ltb _ _ b)

  module _ (b : length s ≤ longest_text) where
    pub judged-fault : (g : Fault) → (reading_of s).fault ≡ Some g → conclusion s ≡ Err (Line g)
    unfolding conclusion
    judged-fault g e = rw (le-ltb _ _ b, e)

    module _ (f : (reading_of s).fault ≡ None) where
      pub judged-empty : is_none (initial_tokens (program_in s)) ≡ true → conclusion s ≡ Err NoInitialStep
      unfolding conclusion
      judged-empty n = rw (le-ltb _ _ b, f, n)

      pub judged_large : is_none (initial_tokens (program_in s)) ≡ false → longest_text < length (write (chart_in s)) → conclusion s ≡ Err LongResult
      unfolding conclusion
      judged_large n l = rw (le-ltb _ _ b, f, n, lt-ltb _ _ l)

      pub judged-fits : is_none (initial_tokens (program_in s)) ≡ false → length (write (chart_in s)) ≤ longest_text → conclusion s ≡ Ok (length (write (chart_in s)))
      unfolding conclusion
      judged-fits n l = rw (le-ltb _ _ b, f, n, le-ltb _ _ l)

      abbrev agreed : Agrees s (program_in s)
      agreed = (faultless s b f).agrees

      pub judged-none : (reading_of s).known.initial ≡ 0 → conclusion s ≡ Err NoInitialStep
      judged-none i = judged-empty (sym agreed.initial ∙ eq-eqb _ _ i)

      module _ (i : (reading_of s).known.initial ≡ 0 → ⊥) (z : ℕ) (w : z ≡ 0 + length (write (drawn_of s))) where
        size_is : length (write (chart_in s)) ≡ z
        size_is = let c = ap (λ x. length (write x)) agreed.drawn in omega arith

        pub judged-over : longest_text < z → conclusion s ≡ Err LongResult
        judged-over l = let n = size_is in judged_large (sym agreed.initial ∙ ne_eqb _ _ i) (omega arith)

        pub judged-good : z ≤ longest_text → conclusion s ≡ Ok z
        judged-good l = let n = size_is in judged-fits (sym agreed.initial ∙ ne_eqb _ _ i) (omega arith) ∙ ap Ok size_is

-- by what was read of a text that is not too long
module _ (s : List ℕ) (b : length s ≤ longest_text) (r : Reading) (e : r ≡ reading_of s) where
  pub concluded_fault : (g : Fault) → r.fault ≡ Some g → conclusion s ≡ Err (Line g)
  concluded_fault g f = judged-fault s b g (ap (λ (x : Reading). x.fault) (sym e) ∙ f)

  module _ (f : r.fault ≡ None) where
    faultless-read : (reading_of s).fault ≡ None
    faultless-read = ap (λ (x : Reading). x.fault) (sym e) ∙ f

    pub concluded_none : r.known.initial ≡ 0 → conclusion s ≡ Err NoInitialStep
    concluded_none i = judged-none s b faultless-read (ap (λ (x : Reading). x.known.initial) (sym e) ∙ i)

    module _ (i : r.known.initial ≡ 0 → ⊥) (z : ℕ) (w : z ≡ 0 + length (write (drawn_of s))) where
      begins : (reading_of s).known.initial ≡ 0 → ⊥
      begins k = i (ap (λ (x : Reading). x.known.initial) e ∙ k)

      pub concluded_over : longest_text < z → conclusion s ≡ Err LongResult
      concluded_over l = judged-over s b faultless-read begins z w l

      pub concluded_good : z ≤ longest_text → conclusion s ≡ Ok z
      concluded_good l = judged-good s b faultless-read begins z w l

-- Every refusal has a number

pub refusal_counts : (r : Refusal) → (shown (Err r)).number ≡ 0 → ⊥
refusal_counts ShortRoom h = omega arith
refusal_counts LongText h = omega arith
refusal_counts (Line f) h = go f.cause h
  where
    go : (c : Cause) → number_of c ≡ 0 → ⊥
    go Settled h = omega arith
    go OutsideSubset h = omega arith
    go Undeclared h = omega arith
    go Limit h = omega arith
refusal_counts NoInitialStep h = omega arith
refusal_counts LongResult h = omega arith

-- A text that can be brought in

pub record Succeeds (s : List ℕ) : Type 0 where
  pub short : length s ≤ longest_text
  pub faultless : (reading_of s).fault ≡ None
  pub begins : initial_tokens (program_in s) ≡ [] → ⊥
  pub fits : length (write (chart_in s)) ≤ longest_text

pub success : (s : List ℕ) → (answer_to s).number ≡ 0 → Succeeds s
unfolding answer_to is_none
success s e =
    go (ltb longest_text (length s)) (reading_of s).fault (is_none (initial_tokens (program_in s))) (ltb longest_text (length (write (chart_in s)))) refl refl refl refl e
  where
    pick : Bool → Option Fault → Bool → Bool → Imported
    pick b f i z =
        cond b (answer 18 0 0)
        (answer_by f
        (cond i (answer 16 0 0)
        (cond z (answer 18 0 0)
        (answer 0 0 (length (write (chart_in s)))))))

    some : is_none (initial_tokens (program_in s)) ≡ false → initial_tokens (program_in s) ≡ [] → ⊥
    some h k = false≢true (sym h ∙ ap is_none k)

    go : (b : Bool) (f : Option Fault) (i z : Bool) → ltb longest_text (length s) ≡ b → (reading_of s).fault ≡ f → is_none (initial_tokens (program_in s)) ≡ i
        → ltb longest_text (length (write (chart_in s))) ≡ z → (pick b f i z).number ≡ 0 → Succeeds s
    go true f i z q r t u h = absurd (omega arith)
    go false (Some g) i z q r t u h = absurd (refusal_counts (Line g) h)
    go false None true z q r t u h = absurd (omega arith)
    go false None false true q r t u h = absurd (omega arith)
    go false None false false q r t u h =
        record { short = ltb-false longest_text (length s) q; faultless = r; begins = some t; fits = ltb-false longest_text (length (write (chart_in s))) u }

module _ (s : List ℕ) (r : Refusal) (e : answer_to s ≡ shown (Err r)) where
  pub not-brought : (answer_to s).number ≡ 0 → ⊥
  not-brought h = refusal_counts r (sym (ap (λ (x : Imported). x.number) e) ∙ h)

-- The room

module _ (s : List ℕ) (room : ℕ) where
  pub shown_returned : shown (returned s room) ≡ imported s room
  unfolding returned imported
  shown_returned = go (ltb room longest_text)
    where
      go : (b : Bool) → shown (cond b (Err ShortRoom) (conclusion s)) ≡ cond b (answer 29 0 0) (answer_to s)
      go true = refl
      go false = shown_conclusion s

  pub returned_short : room < longest_text → returned s room ≡ Err ShortRoom
  unfolding returned
  returned_short h = rw (lt-ltb _ _ h)

  pub returned_judged : longest_text ≤ room → returned s room ≡ conclusion s
  unfolding returned
  returned_judged h = rw (le-ltb _ _ h)

  pub import_short : room < longest_text → imported s room ≡ answer 29 0 0
  unfolding imported
  import_short h = rw (lt-ltb _ _ h)

  pub short_untouched : room < longest_text → result_of s room ≡ []
  unfolding result_of
  short_untouched h = rw (import_short h)

  module _ (h : longest_text ≤ room) where
    pub import_judged : imported s room ≡ answer_to s
    unfolding imported
    import_judged = rw (le-ltb _ _ h)

    pub import_untouched : ((answer_to s).number ≡ 0 → ⊥) → result_of s room ≡ []
    unfolding result_of
    import_untouched k = rw (import_judged, ne_eqb _ _ k)

    pub import_written : (answer_to s).number ≡ 0 → result_of s room ≡ write (drawn_of s)
    unfolding result_of
    import_written k =
        let g = success s k in
        rw (import_judged, eq-eqb _ _ k) (sym (ap write (faultless s g.short g.faultless).agrees.drawn))

-- The map

module _ (s : List ℕ) where
  pub map-none : ((answer_to s).number ≡ 0 → ⊥) → map_in s ≡ empty_map
  unfolding map_in
  map-none k = rw (ne_eqb _ _ k)

  pub map_read : (answer_to s).number ≡ 0 → map_by (reading_of s).known.steps (reading_of s).known.inputs (reading_of s).known.outputs ≡ map_in s
  unfolding map_in
  map_read k = let g = success s k in rw (eq-eqb _ _ k) (names_agree s (faultless s g.short g.faultless))

-- Places of names

pub place_at : (l : List Token) (j : ℕ) (d : Token) → j < length l → place_in l j ≡ record { start = (get_or l j d).place; length = (get_or l j d).size }
unfolding place_in
place_at [] j d h = absurd (omega arith)
place_at (t ∷ l) zero d h = refl
place_at (t ∷ l) (suc j) d h = place_at l j d (omega arith)

pub place_past : (l : List Token) (j : ℕ) → length l ≤ j → place_in l j ≡ record { start = 0; length = 0 }
unfolding place_in
place_past [] zero h = refl
place_past [] (suc j) h = refl
place_past (t ∷ l) zero h = absurd (omega arith)
place_past (t ∷ l) (suc j) h = place_past l j (omega arith)

-- Names by their kind

module _ (m : Map) (k : ℕ) where
  pub kind-steps : k ≡ 0 → names_by m k ≡ m.steps
  unfolding names_by
  kind-steps h = rw h

  pub kind-inputs : k ≡ 1 → names_by m k ≡ m.inputs
  unfolding names_by
  kind-inputs h = rw h

  pub kind-outputs : k ≡ 2 → names_by m k ≡ m.outputs
  unfolding names_by
  kind-outputs h = rw h

  pub kind-none : (k ≡ 0 → ⊥) → (k ≡ 1 → ⊥) → (k ≡ 2 → ⊥) → names_by m k ≡ []
  unfolding names_by
  kind-none a b c = rw (ne_eqb _ _ a, ne_eqb _ _ b, ne_eqb _ _ c)
