-- What is computed is the one answer of the table.
use mathlib.Core.List.{List, [], ◌∷◌}
use mathlib.Core.Path.{◌≡◌, refl, sym, ap, ◌∙◌}
use Prim.Native.Nat.{ℕ, ◌≤◌}
use native.Mathlib.Decide.{dec_le}
use native.Mathlib.Omega.{arith}
use lib.ListN.{length}
use Rattle.line.specs.Write.{write}
use Rattle.line.specs.Rules.{longest_text}
use Rattle.tokens.specs.declared.Token.{Token}
use Rattle.grammar.specs.Program.{Program}
use Rattle.grammar.proofs.Grammar.{one_program}
use Rattle.std.specs.Prelude.{Option, Some, None}
use Rattle.std.proofs.lemmas.Option.{none-some, same_Some}
use Rattle.outline.specs.Faults.{number_of, NoLater}
use Rattle.outline.specs.declared.Fault.{Fault}
use Rattle.outline.specs.Reading.{reading_of}
use Rattle.outline.proofs.First.{fault-is, fault-first}
use Rattle.sfc.specs.declared.Imported.{Imported}
use Rattle.sfc.specs.Chart.{initial_tokens, chart_of}
use Rattle.sfc.specs.Import.{program_in, chart_in, is_none, answer, answer_to, imported}
use Rattle.sfc.specs.Answers.{FirstFault, Sound, Answered, less_room, long-text, faulty, no_initial, long-result, brought_in}
use Rattle.sfc.proofs.Faultless.{faultless}
use Rattle.sfc.proofs.Answers.{shown_as, judged-long, judged-fault, judged-empty, judged_large, judged-fits, import_short, import_judged}

-- What is computed is an answer of the table

first-fault : (s : List ℕ) (f : Fault) → (reading_of s).fault ≡ Some f → FirstFault s f
first-fault s f e = record { is = fault-is s f e; first = λ l n x. rw e at (fault-first s l n x) }

sound : (s : List ℕ) → length s ≤ longest_text → (reading_of s).fault ≡ None → Sound s (program_in s)
sound s l f = record { short = l; reads = (faultless s l f).reads; faultless = λ k n x. let a = fault-first s k n x in none-some a.fault (sym f ∙ a.is) }

module _ (s : List ℕ) (room : ℕ) (h : longest_text ≤ room) where
  answered_sound : length s ≤ longest_text → (reading_of s).fault ≡ None → Answered s room (answer_to s)
  unfolding is_none
  answered_sound l f = go (initial_tokens (program_in s)) refl
    where
      go : (ts : List Token) → initial_tokens (program_in s) ≡ ts → Answered s room (answer_to s)
      go [] e = rw (shown_as s _ (judged-empty s l f (ap is_none e))) (no_initial h (program_in s) (sound s l f) e)
      go (t ∷ ts) e =
          let n : (initial_tokens (program_in s) ≡ [] → ⊥) = λ z. let y : ◌≡◌ {A = List Token} [] (t ∷ ts) = sym z ∙ e in let x : ◌≡◌ {A = ℕ} 0 1 = cc in omega arith in
          elim (dec_le (length (write (chart_in s))) longest_text) [
            | yes k ↦ rw (shown_as s _ (judged-fits s l f (ap is_none e) k)) (brought_in h (program_in s) (sound s l f) n k)
            | no k ↦ rw (shown_as s _ (judged_large s l f (ap is_none e) (omega arith))) (long-result h (program_in s) (sound s l f) n (omega arith))
          ]

  answered-judged : Answered s room (answer_to s)
  answered-judged =
      elim (dec_le (length s) longest_text) [
        | yes l ↦ go l (reading_of s).fault refl
        | no l ↦ rw (shown_as s _ (judged-long s (omega arith))) (long-text h (omega arith))
      ]
    where
      go : length s ≤ longest_text → (f : Option Fault) → (reading_of s).fault ≡ f → Answered s room (answer_to s)
      go l None e = answered_sound l e
      go l (Some f) e = rw (shown_as s _ (judged-fault s l f e)) (faulty h l f (first-fault s f e))

pub import_answered : (s : List ℕ) (room : ℕ) → Answered s room (imported s room)
import_answered s room =
    elim (dec_le longest_text room) [
      | yes h ↦ rw (import_judged s room h) (answered-judged s room h)
      | no h ↦ rw (import_short s room (omega arith)) (less_room (omega arith))
    ]

-- The table has one answer

record Earlier (f : Fault) (l n : ℕ) : Type 0 where
  line : f.line ≤ l
  number : f.line ≡ l → number_of f.cause ≤ n

one-fault : (s : List ℕ) (f g : Fault) → FirstFault s f → FirstFault s g → (number_of f.cause ≡ number_of g.cause) × (f.line ≡ g.line)
one-fault s f g a b =
    let x = no_later f (a.first g.line (number_of g.cause) b.is) in
    let y = no_later g (b.first f.line (number_of f.cause) a.is) in
    let p = x.line in
    let q = y.line in
    let e : f.line ≡ g.line = omega arith in
    let u = x.number e in
    let v = y.number (sym e) in
    (omega arith, e)
  where
    no_later : (f : Fault) {l n : ℕ} → NoLater (Some f) l n → Earlier f l n
    no_later f a =
        let e = same_Some f a.fault a.is in
        record { line = rw e a.line; number = rw e a.number }

pub one_answer : (s : List ℕ) (room : ℕ) (a b : Imported) → Answered s room a → Answered s room b → a ≡ b
one_answer s room a b (less_room h) (less_room k) = refl
one_answer s room a b (less_room h) (long-text k l) = absurd (omega arith)
one_answer s room a b (less_room h) (faulty k l g y) = absurd (omega arith)
one_answer s room a b (less_room h) (no_initial k q t z) = absurd (omega arith)
one_answer s room a b (less_room h) (long-result k q t z w) = absurd (omega arith)
one_answer s room a b (less_room h) (brought_in k q t z w) = absurd (omega arith)
one_answer s room a b (long-text h l) (less_room k) = absurd (omega arith)
one_answer s room a b (long-text h l) (long-text k m) = refl
one_answer s room a b (long-text h l) (faulty k m g y) = absurd (omega arith)
one_answer s room a b (long-text h l) (no_initial k q t z) = let m = t.short in absurd (omega arith)
one_answer s room a b (long-text h l) (long-result k q t z w) = let m = t.short in absurd (omega arith)
one_answer s room a b (long-text h l) (brought_in k q t z w) = let m = t.short in absurd (omega arith)
one_answer s room a b (faulty h l f x) (less_room k) = absurd (omega arith)
one_answer s room a b (faulty h l f x) (long-text k m) = absurd (omega arith)
one_answer s room a b (faulty h l f x) (faulty k m g y) = let e = one-fault s f g x y in rw (e.0, e.1)
one_answer s room a b (faulty h l f x) (no_initial k q t z) = absurd (t.faultless _ _ x.is)
one_answer s room a b (faulty h l f x) (long-result k q t z w) = absurd (t.faultless _ _ x.is)
one_answer s room a b (faulty h l f x) (brought_in k q t z w) = absurd (t.faultless _ _ x.is)
one_answer s room a b (no_initial h p t z) (less_room k) = absurd (omega arith)
one_answer s room a b (no_initial h p t z) (long-text k m) = let l = t.short in absurd (omega arith)
one_answer s room a b (no_initial h p t z) (faulty k m g y) = absurd (t.faultless _ _ y.is)
one_answer s room a b (no_initial h p t z) (no_initial k q u v) = refl
one_answer s room a b (no_initial h p t z) (long-result k q u v w) = absurd (v (sym (ap initial_tokens (one_program s p q t.reads u.reads)) ∙ z))
one_answer s room a b (no_initial h p t z) (brought_in k q u v w) = absurd (v (sym (ap initial_tokens (one_program s p q t.reads u.reads)) ∙ z))
one_answer s room a b (long-result h p t z x) (less_room k) = absurd (omega arith)
one_answer s room a b (long-result h p t z x) (long-text k m) = refl
one_answer s room a b (long-result h p t z x) (faulty k m g y) = absurd (t.faultless _ _ y.is)
one_answer s room a b (long-result h p t z x) (no_initial k q u v) = absurd (z (ap initial_tokens (one_program s p q t.reads u.reads) ∙ v))
one_answer s room a b (long-result h p t z x) (long-result k q u v w) = refl
one_answer s room a b (long-result h p t z x) (brought_in k q u v w) =
    let e = ap (λ (r : Program). length (write (chart_of s r))) (one_program s p q t.reads u.reads) in absurd (omega arith)
one_answer s room a b (brought_in h p t z x) (less_room k) = absurd (omega arith)
one_answer s room a b (brought_in h p t z x) (long-text k m) = let l = t.short in absurd (omega arith)
one_answer s room a b (brought_in h p t z x) (faulty k m g y) = absurd (t.faultless _ _ y.is)
one_answer s room a b (brought_in h p t z x) (no_initial k q u v) = absurd (z (ap initial_tokens (one_program s p q t.reads u.reads) ∙ v))
one_answer s room a b (brought_in h p t z x) (long-result k q u v w) =
    let e = ap (λ (r : Program). length (write (chart_of s r))) (one_program s p q t.reads u.reads) in absurd (omega arith)
one_answer s room a b (brought_in h p t z x) (brought_in k q u v w) =
    ap (λ (r : Program). answer 0 0 (length (write (chart_of s r)))) (one_program s p q t.reads u.reads)
