-- How a situation evolves: the rules of 01, Evolution, in its order but for 6, which is a part of each firing. `true_in` says when a condition holds; rule 5, of on-delays, is part of that.
use Rattle.std.specs.Prelude.{ℕ, zero, suc, Bool, true, not, cond, ◌&&◌, List, [], ◌∷◌, eqb}
use Rattle.std.specs.Int.Bits.{bit_or}
use Rattle.std.proofs.lemmas.List.Edits.{sets}
use Rattle.text.specs.Words.{has, without}
use Rattle.cond.specs.declared.Moment.{Moment}
use Rattle.cond.specs.declared.View.{View}
use Rattle.cond.specs.Meaning.{true_in}
use Rattle.line.specs.Chart.{Latch}
use Rattle.evolve.specs.Words.{all_in, bit, gather, some}
use Rattle.evolve.specs.Net.{NetMove, NetHold, Net}
use Rattle.evolve.specs.declared.End.{End}
use Rattle.evolve.specs.declared.End.TheVariants.{Rest, Loops, Cut}

-- 1. "A move is cleared when all its steps before are active and its condition holds. An empty list before is always enabled."
unfoldable pub cleared : View → NetMove → Bool
cleared v m = all_in m.before v.moment.situation && true_in v m.condition

-- 2. "If none is cleared the situation is stable."
unfoldable pub stable : Net → View → Bool
stable c v = not (some (cleared v) c.moves)

-- 3. "Otherwise all cleared moves fire at once: next = (current without all their steps before) plus all their steps after.
-- A step both removed and added stays active"
unfoldable pub fired : Net → View → ℕ
fired c v =
    bit_or (without v.moment.situation (gather (cleared v) (λ m. m.before) c.moves)) (gather (cleared v) (λ m. m.after) c.moves)

-- 6. "At each firing latches of steps that became active (u) or idle (d) act." A step "both removed and added" has "no edge and no
-- latch": it is in both situations.
unfoldable pub latch_acts : ℕ → ℕ → Latch → Bool
latch_acts now before l =
    cond l.activation (has now l.step && not (has before l.step)) (has before l.step && not (has now l.step))

unfoldable pub switched_on : List Latch → ℕ → ℕ → ℕ
switched_on ls now before = gather (λ l. latch_acts now before l && l.on) (λ l. bit l.output) ls

unfoldable pub switched_off : List Latch → ℕ → ℕ → ℕ
switched_off ls now before = gather (λ l. latch_acts now before l && not l.on) (λ l. bit l.output) ls

-- the latched outputs w after the firing that led from one situation to another: "Off wins over on for one output."
unfoldable pub latch : List Latch → ℕ → ℕ → ℕ → ℕ
latch ls now before w = without (bit_or w (switched_on ls now before)) (switched_off ls now before)

-- the outputs "named by a latch line"
unfoldable pub latchable : List Latch → ℕ
latchable ls = gather (λ l. true) (λ l. bit l.output) ls

-- The moment that a firing leads to. s0 comes by no firing: "initial steps perform no latch (house rule)"
unfoldable pub moment_after : Net → View → Moment
moment_after c v =
    record {
      situation = fired c v;
      previous = v.moment.situation;
      latched = latch c.latches (fired c v) v.moment.situation v.moment.latched;
    }

-- 4. "`ux`, `dx` compare the current situation with the one before it in this evolution". "`ui`, `di` hold in s0 only": from s1 on the
-- old inputs are the new ones. 5. "Ages do not move during evolution."
unfoldable pub next_view : Net → View → View
next_view c v = record { moment = moment_after c v; inputs = v.inputs; old = v.inputs; ages = v.ages }

-- s0, s1, s2, .. of the evolution that begins in a view
unfoldable pub at : Net → View → ℕ → View
at c v zero = v
at c v (suc k) = next_view c (at c v k)

-- a function of the place and of what stands there, at each place from j on
abbrev pub each_from : (ℕ → ℕ → ℕ) → ℕ → List ℕ → List ℕ
each_from f j [] = []
each_from f j (a ∷ l) = f j a ∷ each_from f (suc j) l

-- 7. "At the stable end, steps active before the call and now keep their age, even if they left and came back; all others get 0"
unfoldable pub kept : ℕ → Moment → List ℕ → List ℕ
kept before m ages = each_from (λ j a. cond (has before j && has m.situation j) a 0) 0 ages

-- 8. "Output on: latched, or some hold line has its step active in the stable situation and its condition true. Passed situations show
-- no hold."
abbrev pub showing : View → NetHold → Bool
showing v h = has v.moment.situation h.step && true_in v h.condition

unfoldable pub held_outputs : List NetHold → View → ℕ
held_outputs hs v = gather (showing v) (λ h. bit h.output) hs

-- a hold line shows an output in a view
unfoldable pub shows : View → ℕ → NetHold → Bool
shows v o h = showing v h && eqb h.output o

-- What is compared of a moment: "States s1, s2, ... are pairs (situation, predecessor)." The latched outputs are left out, and no condition can tell
-- (`evolve_orbit`, proofs/Promises.antt). What is compared is a rule of the chart, which is given whole.
unfoldable pub compared : Net → Moment → Moment
compared c m = record { situation = m.situation; previous = m.previous; latched = 0 }

-- all parts are equal
unfoldable pub alike : Moment → Moment → Bool
alike a b = eqb a.situation b.situation && eqb a.previous b.previous && eqb a.latched b.latched

-- "Two are equal when both parts are."
unfoldable pub same : Net → Moment → Moment → Bool
same c a b = alike (compared c a) (compared c b)

-- the situations of the n firings after the first k
unfoldable pub situations : Net → View → ℕ → ℕ → List ℕ
situations c v k zero = []
situations c v k (suc n) = (at c v (suc k)).moment.situation ∷ situations c v (suc k) n

-- "Answers 0, 12 and 13 write situations s1, s2, ... up to the reported count or the slice's length, whichever is less": the trace t
-- after k firings were written from a place on. A word past its end is not written.
unfoldable pub traced : Net → View → ℕ → ℕ → List ℕ → List ℕ
traced c v k place t = sets t place (situations c v 0 k)

-- 01, Answer numbers: the number and the count of each end. 0 with "firings, the least such k", 12 with the "least such j", 13 with "L"
abbrev pub end_number : End → ℕ
end_number (Rest k) = 0
end_number (Loops j) = 12
end_number (Cut l) = 13

abbrev pub end_count : End → ℕ
end_count (Rest k) = k
end_count (Loops j) = j
end_count (Cut l) = l
