-- A way of the code: what one look at lines finds, and what the parts of the search hand to each other. The contracts of `run`, `held` (src/lib.rt)
-- and `latchable` (src/latches.rt), which speak of Evolution.antt, Search.antt and Table.antt, fix what they yield together.
use Rattle.std.specs.Prelude.{ℕ, zero, suc, ◌+◌, ◌-◌, ◌≤◌, ◌<◌, ◌⊎◌, ◌≡◌, Bool, true, false, cond, not, ◌&&◌, List, Option, None, Some}
use Rattle.std.specs.Int.Bits.{bit_or}
use Rattle.text.specs.Words.{without}
use Rattle.cond.specs.declared.Moment.{Moment}
use Rattle.cond.specs.declared.View.{View}
use Rattle.line.specs.Chart.{Latch}
use Rattle.evolve.specs.Words.{bit, gather, some}
use Rattle.evolve.specs.Net.{NetMove, NetHold, Net}
use Rattle.evolve.specs.Evolution.{cleared, latch_acts, switched_on, switched_off, latch, at, showing, same}
use Rattle.evolve.specs.Demand.{rests_at}
use Rattle.evolve.specs.declared.Fired.{Fired}
use Rattle.evolve.specs.declared.Masks.{Masks}

-- what the n rows from row i on come to, the last first: J adds a row to what was found
unfoldable pub walked : {T : Type 0} → (ℕ → T → T) → T → ℕ → ℕ → T
walked J z i zero = z
walked J z i (suc n) = J i (walked J z (suc i) n)

-- one more hold is looked at
unfoldable pub held_also : View → NetHold → ℕ → ℕ
held_also v h w = bit_or (cond (showing v h) (bit h.output) 0) w

-- one more latch line is looked at, for the outputs that latch lines name
abbrev pub named_also : Latch → ℕ → ℕ
named_also l w = bit_or (bit l.output) w

-- what one look at the moves finds
unfoldable pub fired_of : List NetMove → View → Option Fired
fired_of ms v =
    cond (some (cleared v) ms) (Some (record { removed = gather (cleared v) (λ m. m.before) ms; added = gather (cleared v) (λ m. m.after) ms })) None

-- a move that is cleared, with those that were found
abbrev pub fired_with : NetMove → Option Fired → Fired
fired_with m (Some f) = record { removed = bit_or m.before f.removed; added = bit_or m.after f.added }
fired_with m None = record { removed = m.before; added = m.after }

-- one more move is looked at
unfoldable pub fired_also : View → NetMove → Option Fired → Option Fired
fired_also v m found = cond (cleared v m) (Some (fired_with m found)) found

-- what the latches of one firing switch
unfoldable pub masks_of : List Latch → ℕ → ℕ → Masks
masks_of ls now before = record { on = switched_on ls now before; off = switched_off ls now before }

-- one more latch is looked at
unfoldable pub switched_also : ℕ → ℕ → Latch → Masks → Masks
switched_also now before l m =
    record {
      on = bit_or (cond (latch_acts now before l && l.on) (bit l.output) 0) m.on;
      off = bit_or (cond (latch_acts now before l && not l.on) (bit l.output) 0) m.off;
    }

-- a view in another moment, with other old inputs
abbrev pub put : View → Moment → ℕ → View
put v m o = record { moment = m; inputs = v.inputs; old = o; ages = v.ages }

-- the situation, and the moment, that what was found leads to
abbrev pub led_to : Fired → ℕ → ℕ
led_to f s = bit_or (without s f.removed) f.added

unfoldable pub led : List Latch → Fired → Moment → Moment
led ls f m =
    record {
      situation = led_to f m.situation;
      previous = m.situation;
      latched = latch ls (led_to f m.situation) m.situation m.latched;
    }

-- whether two moments are equal in what is compared, whatever the chart
abbrev pub Compares : Moment → Moment → Bool → Type 0
Compares a b r = (c : Net) → r ≡ same c a b

-- what no firing changes
pub record Kin (u v : View) : Type 0 where
  pub inputs : u.inputs ≡ v.inputs
  pub ages : u.ages ≡ v.ages

-- no state before s_n is stable
abbrev pub Busy : Net → View → ℕ → Type 0
Busy c v n = (i : ℕ) → i < n → rests_at c v i ≡ false

-- r firings from v, as many as there are and at most so many, after which the view is u
pub record Fires (c : Net) (v : View) (most r : ℕ) (u : View) : Type 0 where
  pub within : r ≤ most
  pub busy : Busy c v r
  pub view : u ≡ at c v r
  pub stops : r < most → rests_at c v r ≡ true

-- the least number of firings below the limit after which the moment of p is back
pub record Back (c : Net) (p : View) (d : ℕ) : Type 0 where
  pub some : 0 < d
  pub within : d < c.limit
  pub back : same c p.moment (at c p d).moment ≡ true
  pub least : (t : ℕ) → 0 < t → t < d → same c p.moment (at c p t).moment ≡ false

-- or none, where it is not, or where some state from p on is stable
abbrev pub Period : Net → View → Option ℕ → Type 0
Period c p None = ((t : ℕ) × (rests_at c p t ≡ true)) ⊎ ((t : ℕ) → 0 < t → t < c.limit → same c p.moment (at c p t).moment ≡ false)
Period c p (Some d) = Back c p d

-- the least place from x on with the period d, as long as it and d are below the limit
pub record Entered (c : Net) (x : View) (d r : ℕ) : Type 0 where
  pub within : r ≤ c.limit - d
  pub before : (t : ℕ) → t < r → same c (at c x t).moment (at c x (t + d)).moment ≡ false
  pub here : r + d < c.limit → same c (at c x r).moment (at c x (r + d)).moment ≡ true
