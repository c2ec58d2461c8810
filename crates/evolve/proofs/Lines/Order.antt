-- The order of moves, of holds and of latches does not matter.
use Prim.Native.Nat.{ℕ, zero, suc, ◌+◌, ◌*◌, ◌/◌, ◌%◌, max}
use mathlib.Core.Path.{◌≡◌, refl, sym, ◌∙◌, ap, ap₂, fun_ext}
use mathlib.Core.Bool.{Bool, cond, ◌||◌, ◌&&◌, not}
use mathlib.Core.Bool as Bool
use mathlib.Core.List.{List, ◌∷◌, Permᴰ}
use native.Mathlib.Nat.{mod-lt, zero-lt-suc}
use native.Mathlib.Omega.{arith}
use lib.Arith.{bin_ind, digits_mod}
use lib.Bits.{bit_or, or_step, or_shr, or_comm}
use lib.Seq.{sets}
use Rattle.text.specs.Words.{without}
use Rattle.cond.specs.declared.Moment.{Moment}
use Rattle.cond.specs.declared.View.{View}
use Rattle.evolve.specs.Net.{NetHold, Net}
use Rattle.evolve.specs.Laws.{Shuffled}
use Rattle.evolve.specs.Words.{bit, gather, some}
use Rattle.evolve.specs.Evolution.{cleared, stable, fired, latch_acts, switched_on, switched_off, latch, moment_after, next_view, at}
use Rattle.evolve.specs.Evolution.{showing, held_outputs, compared, same, situations, traced}
use Rattle.evolve.specs.Demand.{rests_at, repeats}
use Rattle.evolve.specs.Search.{search, evolve}

-- Words together, in any order

or_low : (a b : ℕ) → bit_or a b % 2 ≡ max (a % 2) (b % 2)
or_low a b =
    ap (λ (x : ℕ). x % 2) (or_step a b) ∙ digits_mod (bit_or (a / 2) (b / 2)) (omega (arith, mod-lt a (zero-lt-suc 1), mod-lt b (zero-lt-suc 1)))

or_assoc : (a b c : ℕ) → bit_or (bit_or a b) c ≡ bit_or a (bit_or b c)
or_assoc a =
    bin_ind (λ (n : ℕ). (b c : ℕ) → bit_or (bit_or n b) c ≡ bit_or n (bit_or b c)) (λ b c. refl) (λ n ih b c.
    or_step (bit_or n b) c
    ∙ ap₂ (λ (x y : ℕ). x * 2 + y)
    (ap (λ (x : ℕ). bit_or x (c / 2)) (or_shr n b 1) ∙ ih (b / 2) (c / 2) ∙ ap (λ (x : ℕ). bit_or (n / 2) x) (sym (or_shr b c 1)))
    (ap (λ (x : ℕ). max x (c % 2)) (or_low n b) ∙ omega arith ∙ ap (λ (x : ℕ). max (n % 2) x) (sym (or_low b c)))
    ∙ sym (or_step n (bit_or b c))) a

or_swap : (a b c : ℕ) → bit_or a (bit_or b c) ≡ bit_or b (bit_or a c)
or_swap a b c = sym (or_assoc a b c) ∙ ap (λ (x : ℕ). bit_or x c) (or_comm a b) ∙ or_assoc b a c

either_swap : (a b c : Bool) → a || (b || c) ≡ b || (a || c)
either_swap a b c = sym (Bool.or_assoc a b c) ∙ ap (λ (x : Bool). x || c) (Bool.or_comm a b) ∙ Bool.or_assoc b a c

module _ {A : Type 0} where
  -- the words of lines, in any order
  pub gather_perm : (p : A → Bool) (w : A → ℕ) {k l : List A} → Permᴰ k l → gather p w k ≡ gather p w l
  unfolding gather
  gather_perm p w Permᴰ.nil = refl
  gather_perm p w (Permᴰ.cons e d) = ap₂ (λ (a : A) (n : ℕ). bit_or (cond (p a) (w a) 0) n) e (gather_perm p w d)
  gather_perm p w (Permᴰ.swap {a = a} {b = b} {l = l} e₁ e₂) =
      or_swap (cond (p a) (w a) 0) (cond (p b) (w b) 0) (gather p w l)
      ∙ ap₂ (λ (x y : A). bit_or (cond (p x) (w x) 0) (bit_or (cond (p y) (w y) 0) (gather p w l))) e₂ e₁
  gather_perm p w (Permᴰ.trans d₁ d₂) = gather_perm p w d₁ ∙ gather_perm p w d₂

  -- whether some line passes a test, in any order
  pub some_perm : (p : A → Bool) {k l : List A} → Permᴰ k l → some p k ≡ some p l
  unfolding some
  some_perm p Permᴰ.nil = refl
  some_perm p (Permᴰ.cons e d) = ap₂ (λ (a : A) (n : Bool). p a || n) e (some_perm p d)
  some_perm p (Permᴰ.swap {a = a} {b = b} {l = l} e₁ e₂) =
      either_swap (p a) (p b) (some p l) ∙ ap₂ (λ (x y : A). p x || (p y || some p l)) e₂ e₁
  some_perm p (Permᴰ.trans d₁ d₂) = some_perm p d₁ ∙ some_perm p d₂

module _ (c d : Net) (s : Shuffled c d) where
  -- One firing leads to the same

  stable-same : (v : View) → stable c v ≡ stable d v
  unfolding stable
  stable-same v = ap not (some_perm (cleared v) s.moves)

  fired-same : (v : View) → fired c v ≡ fired d v
  unfolding fired
  fired-same v =
      ap₂ (λ (x y : ℕ). bit_or (without v.moment.situation x) y) (gather_perm (cleared v) (λ m. m.before) s.moves)
      (gather_perm (cleared v) (λ m. m.after) s.moves)

  latch-same : (now before w : ℕ) → latch c.latches now before w ≡ latch d.latches now before w
  unfolding latch switched_on switched_off
  latch-same now before w =
      ap₂ (λ (x y : ℕ). without (bit_or w x) y) (gather_perm (λ l. latch_acts now before l && l.on) (λ l. bit l.output) s.latches)
      (gather_perm (λ l. latch_acts now before l && not l.on) (λ l. bit l.output) s.latches)

  moment-same : (v : View) → moment_after c v ≡ moment_after d v
  unfolding moment_after
  moment-same v =
      let f = fired-same v in
      let l = latch-same (fired c v) v.moment.situation v.moment.latched in
      λ t. record {
        situation = f t;
        previous = v.moment.situation;
        latched = (l ∙ ap (λ (x : ℕ). latch d.latches x v.moment.situation v.moment.latched) f) t;
      }

  next-same : (v : View) → next_view c v ≡ next_view d v
  unfolding next_view
  next-same v = ap (λ (m : Moment). record { moment = m; inputs = v.inputs; old = v.inputs; ages = v.ages }) (moment-same v)

  -- the same views come one after another
  pub at_same : (v : View) (k : ℕ) → at c v k ≡ at d v k
  unfolding at
  at_same v zero = refl
  at_same v (suc k) = next-same (at c v k) ∙ ap (next_view d) (at_same v k)

  rests-same : (v : View) (k : ℕ) → rests_at c v k ≡ rests_at d v k
  rests-same v k = stable-same (at c v k) ∙ ap (stable d) (at_same v k)

  repeats-same : (v : View) (i j : ℕ) → repeats c v i j ≡ repeats d v i j
  unfolding same compared
  repeats-same v i j = ap₂ (λ (x y : View). same d x.moment y.moment) (at_same v i) (at_same v j)

  -- the evolution ends in the same way
  pub evolve-same : (v : View) → evolve c v ≡ evolve d v
  unfolding evolve
  evolve-same v =
      let q = fun_ext (rests-same v) in
      let e = fun_ext (λ i. fun_ext (repeats-same v i)) in
      λ t. search (q t) (e t) (s.limit t) 0

  situations-same : (v : View) (k n : ℕ) → situations c v k n ≡ situations d v k n
  unfolding situations
  situations-same v k zero = refl
  situations-same v k (suc n) = ap₂ (λ (u : View) (r : List ℕ). u.moment.situation ∷ r) (at_same v (suc k)) (situations-same v (suc k) n)

  -- with the same trace
  pub traced-same : (v : View) (k place : ℕ) (t : List ℕ) → traced c v k place t ≡ traced d v k place t
  unfolding traced
  traced-same v k place t = ap (sets t place) (situations-same v 0 k)

-- the same outputs are held, whatever the order of holds
pub held_same : (hs gs : List NetHold) → Permᴰ hs gs → (v : View) → held_outputs hs v ≡ held_outputs gs v
unfolding held_outputs
held_same hs gs ph v = gather_perm (showing v) (λ h. bit h.output) ph
