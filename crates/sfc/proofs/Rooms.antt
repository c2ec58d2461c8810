-- How many lines there may still be, and which outputs they may name: no limit is passed, and no output has both a hold and a latch.
use mathlib.Core.Bool.{Bool, true, false, cond, ◌||◌, false≢true}
use mathlib.Core.List.{List, [], ◌∷◌}
use mathlib.Core.Path.{◌≡◌, refl, sym, ◌∙◌}
use Prim.Native.Nat.{ℕ, ◌+◌, ◌<◌, ◌≤◌}
use native.Mathlib.Omega.{arith}
use borrow.Author.Tests.{eq-eqb, leb-false, lt-ltb, ltb-true}
use lib.Bits.{bit_or}
use lib.Dec.{leb, ltb}
use lib.ListN.{length}
use Rattle.text.specs.Words.{has, bit_at}
use Rattle.text.proofs.Items.{has_or}
use Rattle.line.specs.Chart.{Move, Hold, Latch}
use Rattle.chart.specs.WellFormed.{Every, every_nil, every_cons, Some, some-here, some-later}
use Rattle.text.proofs.Words.{has-bit}
use Rattle.outline.specs.declared.Made.{Made}
use Rattle.outline.specs.Reading.{up_to64, drives, drives_over}
use Rattle.sfc.proofs.Lists.{every_map, every_with}

-- at most 64 lines of each kind were made
pub record Few (k : Made) : Type 0 where
  pub moves : k.moves ≤ 64
  pub holds : k.holds ≤ 64
  pub latches : k.latches ≤ 64

-- after what was made, the lines that follow pass no limit and drive no output in two ways
pub record Room (k : Made) (ms : List Move) (hs : List Hold) (ls : List Latch) : Type 0 where
  pub few_moves : k.moves + length ms ≤ 64
  pub few_holds : k.holds + length hs ≤ 64
  pub few_latches : k.latches + length ls ≤ 64
  pub short : Every (λ (x : Move). length x.condition ≤ 64) ms
  pub not_latched : Every (λ (y : Hold). has k.latched y.output ≡ false) hs
  pub not_held : Every (λ (x : Latch). has k.held x.output ≡ false) ls
  pub apart : Every (λ (x : Latch). Some (λ (y : Hold). y.output ≡ x.output) hs → ⊥) ls

-- no line follows
pub room-none : (k : Made) → Few k → Room k [] [] []
room-none k f = record { few_moves = omega arith; few_holds = omega arith; few_latches = omega arith; short = every_nil; not_latched = every_nil; not_held = every_nil; apart = every_nil }

-- Lists

-- what holds of none that a list has
never-some : {A : Type 0} {P Q : A → Type 0} → ((x : A) → P x → Q x → ⊥) → (l : List A) → Every P l → Some Q l → ⊥
never-some f (x ∷ l) (every_cons p a) (some-here q) = f x p q
never-some f (x ∷ l) (every_cons p a) (some-later b) = never-some f l a b
never-some {A = A} {P = P} {Q = Q} f [] _ x3 = elim x3 [ ]

-- Words

or_first : (x y : Bool) → (x || y) ≡ false → x ≡ false
or_first true y e = e
or_first false y e = refl

or_second : (x y : Bool) → (x || y) ≡ false → y ≡ false
or_second true y e = absurd (false≢true (sym e))
or_second false y e = e

-- a word that gets an item: what it has not then, it had not
had_not : (w o j : ℕ) → has (bit_or w (bit_at o)) j ≡ false → has w j ≡ false
had_not w o j e = or_first (has w j) (has (bit_at o) j) (sym (has_or w (bit_at o) j) ∙ e)

-- and it has that item then
has_now : (w o j : ℕ) → o < 32 → o ≡ j → has (bit_or w (bit_at o)) j ≡ false → ⊥
has_now w o j h e f =
    let z : has (bit_at o) j ≡ false = or_second (has w j) (has (bit_at o) j) (sym (has_or w (bit_at o) j) ∙ f) in
    false≢true (sym z ∙ has-bit o j (omega arith) ∙ eq-eqb o j e)

-- a count that is not full grows
more-is : (n : ℕ) → leb 64 n ≡ false → up_to64 n ≡ n + 1
more-is n h = rw (lt-ltb n 64 (leb-false 64 n h))

-- and never passes 64
few_more : (n : ℕ) → n ≤ 64 → up_to64 n ≤ 64
few_more n h = go (ltb n 64) refl
  where
    go : (x : Bool) → ltb n 64 ≡ x → cond x (n + 1) n ≤ 64
    go true e = let z = ltb-true n 64 e in omega arith
    go false e = h

-- a move or an action keeps within 64
pub few_move : (k : Made) → Few k → Few (record { moves = up_to64 k.moves; holds = k.holds; latches = k.latches; held = k.held; latched = k.latched })
few_move k f = record { moves = few_more k.moves f.moves; holds = f.holds; latches = f.latches }

pub few_drives : (k : Made) (hold : Bool) (o : ℕ) → Few k → Few (drives k hold o)
few_drives k true o f = record { moves = f.moves; holds = few_more k.holds f.holds; latches = f.latches }
few_drives k false o f = record { moves = f.moves; holds = f.holds; latches = few_more k.latches f.latches }

-- Lines

module _ (k : Made) (ms : List Move) (hs : List Hold) (ls : List Latch) where
  -- a move in front
  pub room_move : (x : Move) → leb 64 k.moves ≡ false → length x.condition ≤ 64
      → Room (record { moves = up_to64 k.moves; holds = k.holds; latches = k.latches; held = k.held; latched = k.latched }) ms hs ls → Room k (x ∷ ms) hs ls
  room_move x h c g =
      let a = more-is k.moves h in
      let b = g.few_moves in
      record {
        few_moves = omega arith;
        few_holds = g.few_holds;
        few_latches = g.few_latches;
        short = every_cons c g.short;
        not_latched = g.not_latched;
        not_held = g.not_held;
        apart = g.apart;
      }

  -- a hold in front
  pub room-hold : (y : Hold) → drives_over k true y.output ≡ false → y.output < 32 → Room (drives k true y.output) ms hs ls → Room k ms (y ∷ hs) ls
  room-hold y h o g =
      let a = more-is k.holds (or_second (has k.latched y.output) (leb 64 k.holds) h) in
      let b = g.few_holds in
      record {
        few_moves = g.few_moves;
        few_holds = omega arith;
        few_latches = g.few_latches;
        short = g.short;
        not_latched = every_cons (or_first (has k.latched y.output) (leb 64 k.holds) h) g.not_latched;
        not_held = every_map (λ x e. had_not k.held y.output x.output e) g.not_held;
        apart = every_with (λ x e f. unlike x e f) g.not_held g.apart;
      }
    where
      unlike : (x : Latch) → has (bit_or k.held (bit_at y.output)) x.output ≡ false → (Some (λ (z : Hold). z.output ≡ x.output) hs → ⊥) → Some (λ (z : Hold). z.output ≡ x.output) (y ∷ hs) → ⊥
      unlike x e f (some-here p) = has_now k.held y.output x.output o p e
      unlike x e f (some-later q) = f q

  -- a latch in front
  pub room-latch : (x : Latch) → drives_over k false x.output ≡ false → x.output < 32 → Room (drives k false x.output) ms hs ls → Room k ms hs (x ∷ ls)
  room-latch x h o g =
      let a = more-is k.latches (or_second (has k.held x.output) (leb 64 k.latches) h) in
      let b = g.few_latches in
      record {
        few_moves = g.few_moves;
        few_holds = g.few_holds;
        few_latches = omega arith;
        short = g.short;
        not_latched = every_map (λ y e. had_not k.latched x.output y.output e) g.not_latched;
        not_held = every_cons (or_first (has k.held x.output) (leb 64 k.latches) h) g.not_held;
        apart = every_cons (never-some (λ y e p. has_now k.latched x.output y.output o (sym p) e) hs g.not_latched) g.apart;
      }
