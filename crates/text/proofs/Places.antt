-- The lines of a text by their places: what a reader at a place takes, and that a reader that is asked until its end has handed out the text's lines.
use mathlib.Core.Bool.{Bool, true, false}
use mathlib.Core.List.{List}
use mathlib.Core.Path.{◌≡◌, refl, sym, ap, ◌∙◌}
use Prim.Native.Nat.{ℕ, zero, suc, ◌+◌, ◌-◌, ◌<◌, ◌≤◌}
use native.Mathlib.Omega.{arith}
use borrow.Author.Tests.{ltb-true, ltb-false}
use lib.Dec.{ltb}
use lib.ListN.{length, take, drop, length-drop, drop_of_length-le}
use lib.Seq.{drop-drop}
use Rattle.text.specs.Lines.{Lines, nothing, unended, line, split}
use Rattle.text.specs.declared.lines.Reader.{Reader}
use Rattle.text.specs.declared.lines.Taken.{Taken}
use Rattle.text.specs.declared.lines.Taken.TheVariants.{Line, Open, End}
use Rattle.text.specs.Chains.{Asking, no_more, no_end, line-more}
use Rattle.text.specs.Places.{EndsAt, taken, taken_at, place_after, Asked}
use Rattle.text.proofs.Places.Ends.{Ending, ending, ends_past}
use Rattle.text.proofs.Places.Firsts.{split-first}
pub use Rattle.text.proofs.Places.Firsts.{split_at, split-last, line-long}
pub mod Ends
pub mod Firsts

-- What is taken at a place

pub taken_end : (s : List ℕ) (a : ℕ) → length s ≤ a → End ≡ taken_at s a
unfolding split
taken_end s a l = rw (drop_of_length-le s l)

module _ (s : List ℕ) (a e : ℕ) (x : EndsAt s a e) where
  pub taken_open : a < length s → e ≡ length s → Open ≡ taken_at s a
  taken_open l q = rw (split-last s a e x q l)

  pub taken-line : e < length s → Line e ≡ taken_at s a
  taken-line l =
      let n = line-long s a e x l in
      let f = x.from in
      let z : a + length (take (e - a) (drop a s)) ≡ e = omega arith in
      rw (split_at s a e x l, z)

-- What was taken says where the line from there on ends

module _ (s : List ℕ) (a : ℕ) where
  abbrev pub end_of : Taken → ℕ
  end_of (Line e) = e
  end_of Open = length s
  end_of End = a

  pub taken-ends : (t : Taken) → t ≡ taken_at s a → EndsAt s a (end_of t)
  taken-ends t h = rw h (by (ltb a (length s)) refl)
    where
      to : (x : Ending s a) → a < length s → (u : Bool) → ltb x.place (length s) ≡ u → EndsAt s a (end_of (taken_at s a))
      to x l true q = rw (← (taken-line s a x.place x.ends (ltb-true _ _ q))) x.ends
      to x l false q =
          let w = x.ends.within in
          let m = ltb-false x.place (length s) q in
          let z : x.place ≡ length s = omega arith in
          let y = x.ends in
          rw (← (taken_open s a x.place x.ends l z)) (rw z at y)

      by : (u : Bool) → ltb a (length s) ≡ u → EndsAt s a (end_of (taken_at s a))
      by true q =
          let l : a < length s = ltb-true _ _ q in
          let x = ending s (length s - a) a (omega arith) in
          to x l (ltb x.place (length s)) refl
      by false q = let l = ltb-false _ _ q in rw (← (taken_end s a l)) (ends_past s a l)

-- The place after what is taken

module _ (t : List ℕ) (a : ℕ) where
  pub place-below : (m : ℕ) → length t < m → a < m → place_after (taken_at t a) a < m
  place-below m h l = go (split (drop a t)) refl
    where
      go : (y : Lines) → split (drop a t) ≡ y → place_after (taken a y) a < m
      go nothing p = l
      go unended p = l
      go (line w x) p = let i = (split-first (drop a t) w x p).ended in let n = length-drop a t in omega arith

  -- what was taken says how the lines from there on begin
  abbrev Begin : Taken → Lines → Type 0
  Begin End y = y ≡ nothing
  Begin Open y = y ≡ unended
  Begin (Line e) y = (y ≡ line (take (e - a) (drop a t)) (split (drop (e + 1) t))) × ((a < e + 1) × (e + 1 ≤ length t))

  begins-taken : (k : Taken) → k ≡ taken_at t a → Begin k (split (drop a t))
  begins-taken k h = rw h (go (split (drop a t)) refl)
    where
      go : (y : Lines) → split (drop a t) ≡ y → Begin (taken a y) y
      go nothing p = refl
      go unended p = refl
      go (line w x) p =
          let i = split-first (drop a t) w x p in
          let l = i.ended in
          let d = length-drop a t in
          let m : a + length w - a ≡ length w = omega arith in
          let n : a + suc (length w) ≡ a + length w + 1 = omega arith in
          (rw (m, i.bytes, i.others, drop-drop, n), (omega arith, omega arith))

-- A reader that is asked until its end

-- the lines from the reader's place on
abbrev lines_of : Reader → Lines
lines_of r = split (drop r.at r.text.now)

hands_on : (r : Reader) (x : Lines) → Asking r x → x ≡ lines_of r
hands_on r x (no_more s s' q) = sym (begins-taken s.text.now s.at End q.hands)
hands_on r x (no_end s s' q) = sym (begins-taken s.text.now s.at Open q.hands)
hands_on r x (line-more s s' e y q c) =
    let b = (begins-taken s.text.now s.at (Line e) q.hands).0 in
    let i = hands_on s' y c in
    ap (line (take (e - s.at) (drop s.at s.text.now))) (i ∙ rw (q.keeps, q.moves)) ∙ sym b

pub handed_out : (r : Reader) (x : Lines) → r.at ≡ 0 → Asking r x → x ≡ split r.text.now
handed_out r x e c = hands_on r x c ∙ rw e

-- such an asking comes to its end: each line moves the reader on, within its text
asks_on : (n : ℕ) (r : Reader) → length r.text.now < n + r.at → Asking r (lines_of r)
asks_on zero r h =
    let q = taken_end r.text.now r.at (omega arith) in
    rw (begins-taken r.text.now r.at End q) (no_more r r (record { hands = q; keeps = refl; moves = refl }))
asks_on (suc n) r h = go (taken_at r.text.now r.at) refl (begins-taken r.text.now r.at _ refl) (λ a l. asks_on n (record { text = r.text; at = a }) l)
  where
    after : Taken → Reader
    after t = record { text = r.text; at = place_after t r.at }

    asked : (t : Taken) → taken_at r.text.now r.at ≡ t → Asked r t (after t)
    asked t q = record { hands = sym q; keeps = refl; moves = refl }

    go : (t : Taken) → taken_at r.text.now r.at ≡ t → Begin r.text.now r.at t (lines_of r)
        → ((a : ℕ) → length r.text.now < n + a → Asking (record { text = r.text; at = a }) (split (drop a r.text.now))) → Asking r (lines_of r)
    go End q b f = rw b (no_more r (after End) (asked End q))
    go Open q b f = rw b (no_end r (after Open) (asked Open q))
    go (Line e) q b f = rw b.0 (line-more r (after (Line e)) e (split (drop (e + 1) r.text.now)) (asked (Line e) q) (f (e + 1) (let l = b.1.0 in omega arith)))

pub asks_through : (r : Reader) → Asking r (split (drop r.at r.text.now))
asks_through r = asks_on (length r.text.now + 1) r (omega arith)
