-- The run byte by byte says what the run line by line says: the transcript of the whole input.
use mathlib.Core.Bool.{Bool, true, false, cond}
use mathlib.Core.List.{List, [], ◌∷◌, ◌++◌, append_assoc, append-nil}
use mathlib.Core.Path.{◌≡◌, refl, sym, ap, ◌∙◌}
use Prim.Native.Nat.{ℕ}
use native.Mathlib.Omega.{arith}
use borrow.Author.Tests.{ltb-true, ltb-false}
use lib.Dec.{eqb, ltb}
use lib.ListN.{length, take, length-take}
use lib.Seq.{take_all, take-append-le}
use Rattle.text.specs.Lines.{Lines, nothing, unended, line, line_end, byte_before, split}
use Rattle.engine.specs.declared.State.{State}
use Rattle.rig_log.specs.declared.Entry.{Entry}
use Rattle.std.specs.Prelude.{Option, Some, None}
use Rattle.rig_log.specs.declared.Entry.TheVariants.{Go, Event}
use Rattle.rig_log.specs.Forms.{bad_line}
use Rattle.rig_log.specs.Entries.{entry_of}
use Rattle.rig_log.specs.Run.{Progress, waiting, running, over, grown, go_step, ev_step, fed, finished}
use Rattle.rig_log.specs.Transcript.{block_of, next_line, go_answer, ev_answer, ev_line, events, go_on, go_line, from_lines, transcript}
use Rattle.rig_log.proofs.Lines.Long.{entry_take}

-- lines whose first has p before it
after_if : List ℕ → Lines → Lines
after_if [] nothing = nothing
after_if (b ∷ p) nothing = unended
after_if p unended = unended
after_if p (line w x) = line (p ++ w) x

-- a byte moves from the rest of the text to what stands before it
after-byte_before : (p : List ℕ) (b : ℕ) (x : Lines) → after_if p (byte_before false b x) ≡ after_if (p ++ (b ∷ [])) x
unfolding after_if byte_before
after-byte_before [] b nothing = refl
after-byte_before (c ∷ p) b nothing = refl
after-byte_before [] b unended = refl
after-byte_before (c ∷ p) b unended = refl
after-byte_before [] b (line w x) = refl
after-byte_before (c ∷ p) b (line w x) = ap (λ l. line l x) (sym (append_assoc (c ∷ p) (b ∷ []) w))

after_end : (p : List ℕ) (b : ℕ) (x : Lines) → after_if p (byte_before true b x) ≡ line p x
unfolding after_if byte_before
after_end [] b x = refl
after_end (c ∷ p) b x = ap (λ l. line l x) (append-nil (c ∷ p))

-- of what stands before, the first 32 bytes grow as all of it does
take_grown : (p : List ℕ) (b : ℕ) → grown (take 32 p) b ≡ take 32 (p ++ (b ∷ []))
take_grown p b = go (ltb (length p) 33) refl
  where
    go : (t : Bool) → ltb (length p) 33 ≡ t → grown (take 32 p) b ≡ take 32 (p ++ (b ∷ []))
    go true q = let l = ltb-true (length p) 33 q in rw (take_all 32 p (omega arith))
    go false q =
        let l = ltb-false (length p) 33 q in
        let m = length-take 32 p in
        take-append-le 32 (take 32 p) (b ∷ []) (omega arith) ∙ take_all 32 (take 32 p) (omega arith) ∙ sym (take-append-le 32 p (b ∷ []) (omega arith))

after_none : (x : Lines) → after_if [] x ≡ x
unfolding after_if
after_none nothing = refl
after_none unended = refl
after_none (line w x) = refl

-- all that is said from a place of the run on
unfoldable pub said : List ℕ → Progress → List ℕ → List ℕ
said chart q [] = finished q
said chart q (b ∷ t) = (fed chart q b).says ++ said chart (fed chart q b).next t

module _ (chart : List ℕ) where
  said-over : (t : List ℕ) → said chart over t ≡ []
  unfolding said fed finished
  said-over [] = refl
  said-over (b ∷ t) = said-over t

  bad_end : (n : ℕ) (t : List ℕ) → (bad_line n ++ said chart over t) ≡ bad_line n
  bad_end n t = rw (said-over t) (append-nil (bad_line n))

  -- a line of the run after its `go`, and its first
  module _ (t : List ℕ) (on : (n : ℕ) (s : State) → said chart (running n s []) t ≡ events chart n s (split t)) where
    ev_line_lem : (n : ℕ) (s : State) (e : Option Entry) → ((ev_step chart n s e).says ++ said chart (ev_step chart n s e).next t) ≡ ev_line chart e n s (λ q. events chart (next_line n) q (split t))
    unfolding ev_step ev_line
    ev_line_lem n s (Some (Event e w)) = ap (λ l. block_of (ev_answer chart s e w) ++ l) (on (next_line n) (ev_answer chart s e w).state)
    ev_line_lem n s (Some (Go w)) = bad_end n t
    ev_line_lem n s None = bad_end n t

    go_on_lem : (u : Bool) (s : State) → said chart (cond u (running 2 s []) over) t ≡ go_on chart u (events chart 2 s (split t))
    unfolding go_on
    go_on_lem true s = on 2 s
    go_on_lem false s = said-over t

    go-line : (e : Option Entry) → ((go_step chart e).says ++ said chart (go_step chart e).next t) ≡ go_line chart e (λ q. events chart 2 q (split t))
    unfolding go_step go_line
    go-line (Some (Go w)) = ap (λ l. block_of (go_answer chart w) ++ l) (go_on_lem (eqb (go_answer chart w).number 0) (go_answer chart w).state)
    go-line (Some (Event e w)) = bad_end 1 t
    go-line None = bad_end 1 t

  -- after the `go`, where p stands before the rest of the text
  said-running : (t : List ℕ) (n : ℕ) (s : State) (p : List ℕ) → said chart (running n s (take 32 p)) t ≡ events chart n s (after_if p (split t))
  unfolding said split events
  said-running [] n s [] = unfold after_if finished in refl
  said-running [] n s (c ∷ p) = unfold after_if finished in refl
  said-running (b ∷ t) n s p =
      step (eqb b line_end) refl (λ m q. said-running t m q [] ∙ ap (events chart m q) (after_none (split t))) (said-running t n s (p ++ (b ∷ [])))
    where
      step : (u : Bool) → eqb b line_end ≡ u → ((m : ℕ) (q : State) → said chart (running m q []) t ≡ events chart m q (split t))
          → said chart (running n s (take 32 (p ++ (b ∷ [])))) t ≡ events chart n s (after_if (p ++ (b ∷ [])) (split t))
          → ((fed chart (running n s (take 32 p)) b).says ++ said chart (fed chart (running n s (take 32 p)) b).next t) ≡ events chart n s (after_if p (byte_before u b (split t)))
      step true q f g = unfold fed in rw (q, entry_take p, after_end p b (split t)) (ev_line_lem t f n s (entry_of p))
      step false q f g = unfold fed in rw (q, take_grown p b, after-byte_before p b (split t)) g

  -- before it
  said-waiting : (t p : List ℕ) → said chart (waiting (take 32 p)) t ≡ from_lines chart (after_if p (split t))
  unfolding said split from_lines
  said-waiting [] [] = unfold after_if finished in refl
  said-waiting [] (c ∷ p) = unfold after_if finished in refl
  said-waiting (b ∷ t) p = step (eqb b line_end) refl (said-waiting t (p ++ (b ∷ [])))
    where
      step : (u : Bool) → eqb b line_end ≡ u → said chart (waiting (take 32 (p ++ (b ∷ [])))) t ≡ from_lines chart (after_if (p ++ (b ∷ [])) (split t))
          → ((fed chart (waiting (take 32 p)) b).says ++ said chart (fed chart (waiting (take 32 p)) b).next t) ≡ from_lines chart (after_if p (byte_before u b (split t)))
      step true q g =
          unfold fed in rw (q, entry_take p, after_end p b (split t))
          (go-line t (λ m s. said-running t m s [] ∙ ap (events chart m s) (after_none (split t))) (entry_of p))
      step false q g = unfold fed in rw (q, take_grown p b, after-byte_before p b (split t)) g

  -- the run from its beginning
  pub run-transcript : (input : List ℕ) → said chart (waiting []) input ≡ transcript chart input
  unfolding transcript
  run-transcript input = said-waiting input [] ∙ ap (from_lines chart) (after_none (split input))
