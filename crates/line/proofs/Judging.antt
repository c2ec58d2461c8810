-- A line that is judged: the lowest answer, its row, and what is known of the chart with it.
use mathlib.Core.Bool.{Bool, true, false, not, ◌&&◌, ◌||◌, or-true, or-false, or_assoc}
use mathlib.Core.List.{List, [], ◌∷◌, ◌++◌}
use mathlib.Core.Path.{◌≡◌, refl, sym, ap, ◌∙◌}
use Prim.Native.Nat.{ℕ, ◌+◌, ◌<◌, ◌≤◌}
use native.Mathlib.Omega.{arith}
use borrow.Author.Tests.{leb-false}
use lib.Bits.{bit_or}
use lib.Dec.{eqb, leb}
use lib.ListN.{length, length-append}
use Rattle.std.specs.Prelude.{Option, Some, None, Result, Ok, Err}
use Rattle.text.specs.Words.{has, bit_at, word_of}
use Rattle.text.specs.Bytes.{byte_at}
use Rattle.text.specs.Numbers.{number}
use Rattle.text.proofs.Words.{has-nothing, has_more}
use Rattle.cond.specs.declared.faults.Fault.{Fault}
use Rattle.cond.specs.declared.faults.Fault.TheVariants.{Shape}
use Rattle.cond.specs.Lowest.{given, lower}
use Rattle.cond.specs.Judging.{judged}
use Rattle.line.specs.declared.Kind.{Kind}
use Rattle.line.specs.declared.Known.{Known}
use Rattle.line.specs.declared.Row.{Row}
use Rattle.line.specs.declared.Row.TheVariants as rows
use Rattle.line.specs.declared.Kind.TheVariants as kinds
use Rattle.line.specs.declared.Tally.{Tally}
use Rattle.line.specs.Chart.{Move, Hold, Latch, Chart}
use Rattle.line.specs.Kinds.{HeadNumber, version, steps, inputs, outputs, limit, number_line, number_kind, follows}
use Rattle.line.specs.Write.{Line, number', initial', move', hold', latch', end', wrong, kind}
use Rattle.line.specs.Rules.{with_number, extended, is_held, rules, fault}
use Rattle.line.specs.Shape.{alone, one_number, head_number}
use Rattle.line.specs.Words.{row_of}
use Rattle.line.specs.Steps.{held_from, known, declared_in, Fitting, Judged, Placeless, Entered, full, NumberOf, tally, no_items}
use Rattle.line.proofs.Answers.{fault-wrong}
use Rattle.line.proofs.Tallies.{told_empty, told_rising, told_undeclared}

-- The outputs that holds name, as a word

held_more : (w : ℕ) (hs : List Hold) (x : Hold) → held_from w (hs ++ (x ∷ [])) ≡ bit_or (held_from w hs) (bit_at x.output)
unfolding held_from
held_more w [] x = refl
held_more w (h ∷ hs) x = held_more (bit_or w (bit_at h.output)) hs x

has_held : (o w : ℕ) (hs : List Hold) → o < 32 → has (held_from w hs) o ≡ (has w o || is_held o hs)
unfolding held_from is_held
has_held o w [] h = sym (or-false (has w o))
has_held o w (x ∷ hs) h = has_held o (bit_or w (bit_at x.output)) hs h ∙ rw (has_more w x.output o h) (or_assoc (has w o) (eqb x.output o) (is_held o hs))

-- where the word has no such bit, the output is not declared, and 6 is lower than 8
far_or_held : (t : Bool) (n o : ℕ) (hs : List Hold) → n ≤ 32
    → lower (given 6 (t || leb n o)) (given 8 (has (held_from 0 hs) o)) ≡ lower (given 6 (t || leb n o)) (given 8 (is_held o hs))
far_or_held t n o hs s = go (leb n o) refl
  where
    far : (x y : Bool) → lower 6 (given 8 x) ≡ lower 6 (given 8 y)
    far true true = refl
    far true false = refl
    far false true = refl
    far false false = refl

    go : (u : Bool) → leb n o ≡ u → lower (given 6 (t || u)) (given 8 (has (held_from 0 hs) o)) ≡ lower (given 6 (t || u)) (given 8 (is_held o hs))
    go true q = rw (or-true t) (far (has (held_from 0 hs) o) (is_held o hs))
    go false q =
        let h : o < 32 = (let l = leb-false n o q in omega arith) in
        let e : has (held_from 0 hs) o ≡ is_held o hs = has_held o 0 hs h ∙ ap (λ (z : Bool). z || is_held o hs) (has-nothing o) in
        rw e

-- What a line comes to

-- bytes of no kind
pub judged-wrong : (before : Known) → Placeless wrong before before (Err Shape)
judged-wrong before a n k c s p = rw (fault-wrong k c) (refl, refl)

-- what the other rules find, and what is known with the line, whatever the chart that is known
abbrev pub Finds : Line → Known → ℕ → Type 0
Finds l before found = (k : Option Kind) (c : Chart) → Fitting c → before ≡ known k c → found ≡ rules c l

abbrev pub Kept : Line → Known → Known → Type 0
Kept l before after = (k : Option Kind) (c : Chart) → before ≡ known k c → after ≡ known (kind l) (extended c l)

module _ (l : Line) (x : Kind) (before : Known) (found : ℕ) (is : kind l ≡ Some x) (ruled : Finds l before found) where
  answered : (k : Option Kind) (c : Chart) → Fitting c → before ≡ known k c → lower (given 2 (not (follows before.last (Some x)))) found ≡ fault k c l
  unfolding fault
  answered k c s p = rw (ruled k c s p, p, is)

  pub entered-err : (after : Known) (e : Fault) → Entered x found before after (Err e) → Placeless l before after (Err e)
  entered-err after e o a n k c s p = let q = answered k c s p in (o.0 ∙ q, o.1)

  pub entered-ok : (mid after : Known) (u : Unit {0}) → Entered x found before mid (Ok u) → Kept l before after
      → (a n : ℕ) (r : Row) → r ≡ row_of a n l → Judged a n l before after (Ok r)
  entered-ok mid after u o w a n r t k c s p = (sym (answered k c s p) ∙ o.0, t, w k c p)

-- what the other rules find

module _ (before : Known) where
  pub found-initial : (x : Tally) (l : List ℕ) → x ≡ tally before.steps no_items l
      → Finds (initial' l) before (lower (given 3 (eqb x.low 0 || not x.rising)) (given 6 x.undeclared))
  unfolding rules
  found-initial x l t k c s p =
      let y : x ≡ tally c.head.steps no_items l = rw p at t in
      rw (told_empty c.head.steps x l y, told_rising c.head.steps x l y, told_undeclared c.head.steps x l y)

  pub found_move : (x y : Tally) (m : Move) → x ≡ tally before.steps no_items m.before → y ≡ tally before.steps no_items m.after
      → Finds (move' m) before
      (lower (full before.moves)
      (lower (given 3 (not (x.rising && y.rising) || (eqb x.low 0 && eqb y.low 0)))
      (lower (judged (declared_in before) false m.condition) (given 6 (x.undeclared || y.undeclared)))))
  unfolding rules
  found_move x y m t u k c s p =
      let v : x ≡ tally c.head.steps no_items m.before = rw p at t in
      let z : y ≡ tally c.head.steps no_items m.after = rw p at u in
      rw (
        p,
        told_empty c.head.steps x m.before v,
        told_rising c.head.steps x m.before v,
        told_undeclared c.head.steps x m.before v,
        told_empty c.head.steps y m.after z,
        told_rising c.head.steps y m.after z,
        told_undeclared c.head.steps y m.after z,
      )

  pub found-hold : (x : Hold) → Finds (hold' x) before
      (lower (full before.holds)
      (lower (judged (declared_in before) true x.condition) (given 6 (leb before.steps x.step || leb before.outputs x.output))))
  unfolding rules
  found-hold x k c s p = rw p

  pub found-latch : (x : Latch) → Finds (latch' x) before
      (lower (full before.latches)
      (lower (given 6 (leb before.steps x.step || leb before.outputs x.output)) (given 8 (has before.held x.output))))
  unfolding rules
  found-latch x k c s p = rw (p, far_or_held (leb c.head.steps x.step) c.head.outputs x.output c.body.holds s)

  pub found-number : (q : HeadNumber) (v : ℕ) → Finds (number' q v) before (given 3 (not (leb (number_line q).from v && leb v (number_line q).to)))
  unfolding rules
  found-number q v k c s p = refl

  pub found_end : (v : ℕ) → Finds (end' v) before (given 9 (not (eqb v (before.moves + before.holds + before.latches))))
  unfolding rules
  found_end v k c s p = rw p

-- what is known with the line

module _ (before : Known) where
  pub kept_move : (m : Move) → Kept (move' m) before (record before { moves = before.moves + 1; last = Some kinds.Move })
  unfolding extended
  kept_move m k c p = rw (p, length-append c.body.moves (m ∷ []))

  pub kept-hold : (x : Hold) → Kept (hold' x) before (record before { holds = before.holds + 1; last = Some kinds.Hold; held = bit_or before.held (bit_at x.output) })
  unfolding extended
  kept-hold x k c p = rw (p, length-append c.body.holds (x ∷ []), held_more 0 c.body.holds x)

  pub kept-latch : (x : Latch) → Kept (latch' x) before (record before { latches = before.latches + 1; last = Some kinds.Latch })
  unfolding extended
  kept-latch x k c p = rw (p, length-append c.body.latches (x ∷ []))

  pub kept_end : (v : ℕ) → Kept (end' v) before (record before { last = Some kinds.End })
  unfolding extended
  kept_end v k c p = rw p

  pub kept-initial : (l : List ℕ) (w : ℕ) → word_of l ≡ w → Kept (initial' l) before (record before { initial = w; last = Some kinds.Initial })
  unfolding extended
  kept-initial l w e k c p = rw (p, e)

-- with a number of the head
abbrev pub with : HeadNumber → ℕ → Known → Known
with version v h = record h { version = v }
with steps v h = record h { steps = v }
with inputs v h = record h { inputs = v }
with outputs v h = record h { outputs = v }
with limit v h = record h { limit = v }

pub kept-number : (q : HeadNumber) (v : ℕ) (before : Known) → Kept (number' q v) before (with q v (record before { last = Some (number_kind q) }))
unfolding extended with_number
kept-number version v before k c p = rw p
kept-number steps v before k c p = rw p
kept-number inputs v before k c p = rw p
kept-number outputs v before k c p = rw p
kept-number limit v before k c p = rw p

-- A number line of the head, whose number was read

module _ (q : HeadNumber) (w : List ℕ) (before : Known) where
  abbrev Read : Known → Result ℕ Fault → Option ℕ → Type 0
  Read after r x = NumberOf (number_kind q) (number_line q).from (number_line q).to x before after r

  pub number-err : (after : Known) (e : Fault) → Read after (Err e) (alone w (number 7 (byte_at w) (length (number_line q).key))) → Placeless (head_number q w) before after (Err e)
  unfolding head_number one_number
  number-err after e = go (alone w (number 7 (byte_at w) (length (number_line q).key)))
    where
      go : (x : Option ℕ) → Read after (Err e) x → Placeless (one_number (number' q) x) before after (Err e)
      go (Some v) o a n k c s p = entered-err (number' q v) (number_kind q) before _ refl (found-number before q v) after e o a n k c s p
      go None o a n k c s p = (o.0 ∙ sym (fault-wrong k c), o.1)

  pub number-ok : (mid : Known) (v : ℕ) → Read mid (Ok v) (alone w (number 7 (byte_at w) (length (number_line q).key))) → Placeless (head_number q w) before (with q v mid) (Ok rows.Nothing)
  unfolding head_number one_number
  number-ok mid v = go (alone w (number 7 (byte_at w) (length (number_line q).key)))
    where
      go : (x : Option ℕ) → Read mid (Ok v) x → Placeless (one_number (number' q) x) before (with q v mid) (Ok rows.Nothing)
      go (Some u) o a n =
          entered-ok (number' q u) (number_kind q) before _ refl (found-number before q u) mid (with q v mid) tt (o.0, refl, o.2)
          (rw (o.1, o.2) (kept-number q u before)) a n rows.Nothing refl
      go None o a n = absurd (omega arith)
