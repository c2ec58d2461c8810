-- Demand 3, once for every sequence in which what is compared decides what follows and whose states are coded below a bound. Then the coding for an evolution:
-- situation and predecessor are words of the chart's steps.
use Prim.Native.Nat.{ℕ, zero, suc, ◌*◌, ◌^◌, ◌≤◌, ◌<◌}
use mathlib.Core.Path.{◌≡◌, refl, sym, ◌∙◌, subst, ap, ap₂}
use mathlib.Core.Bool.{Bool, true, false, cond, ◌&&◌}
use mathlib.Core.List.{List, [], ◌∷◌}
use native.Mathlib.Nat.{pow-suc, lt_of_le_of_lt, le_of_suc-le-suc, mul-mul-mul_comm}
use native.Mathlib.Omega.{arith}
use lib.Bits.{bit_and, bit_or, bit_xor, or_lt, xor_lt, and_le_l}
use lib.Pow.{pow_pos}
use Rattle.text.proofs.Items.{Among, among_none, among_or, among-without, or_left, or_right}
use Rattle.cond.specs.declared.View.{View}
use Rattle.evolve.specs.Net.{Net}
use Rattle.evolve.specs.Words.{bit, gather}
use Rattle.evolve.specs.Evolution.{cleared, fired, latch_acts, switched_on, switched_off, latch, latchable, moment_after, next_view, at, compared, same}
use Rattle.evolve.specs.Evolution.{end_number, end_count}
use Rattle.evolve.specs.Search.{search, evolve}
use Rattle.evolve.specs.Demand.{Least, Unstable, Neither, Demand, rests_at, repeats, bound, All, StepsDeclared}
use Rattle.evolve.specs.Orbit.{Orbit, Coded}
use Rattle.evolve.specs.declared.End.{End}
use Rattle.evolve.specs.declared.End.TheVariants.{Rest, Loops, Cut}
use Rattle.evolve.proofs.Ending.Says.{Says, whole, only, never_both, by_order}
use Rattle.evolve.proofs.Ending.Orbit.{never}
use Rattle.evolve.proofs.Ending.Coded.{number, both, so, to, few}
use Rattle.evolve.proofs.Ending.Compared.{is-alike, compared_orbit}

-- An end by its number

rest_of : (x : End) → end_number x ≡ 0 → x ≡ Rest (end_count x)
rest_of (Rest k) p = refl
rest_of (Loops j) p = absurd (omega arith)
rest_of (Cut l) p = absurd (omega arith)

loops_of : (x : End) → end_number x ≡ 12 → x ≡ Loops (end_count x)
loops_of (Rest k) p = absurd (omega arith)
loops_of (Loops j) p = refl
loops_of (Cut l) p = absurd (omega arith)

cut_of : (x : End) → end_number x ≡ 13 → x ≡ Cut (end_count x)
cut_of (Rest k) p = absurd (omega arith)
cut_of (Loops j) p = absurd (omega arith)
cut_of (Cut l) p = refl

-- Every sequence

module _ {K : Type 0} {q : ℕ → Bool} {e : ℕ → ℕ → Bool} {g : ℕ → K} (o : Orbit q e g) (limit : ℕ) where
  -- how its search ends
  abbrev end : End
  end = search q e limit 0

  -- what it says
  says_of : (x : End) → end ≡ x → Says q e limit x
  says_of x p = subst (Says q e limit) p (whole q e limit)

  -- "\"Unstable\" is said only if no number of firings reaches one."
  loops_unstable : (j : ℕ) → end ≡ Loops j → Unstable q e limit j
  loops_unstable j p =
      let s = says_of (Loops j) p in
      record {
        never = never o s.2.0 j s.2.1 s.2.2 s.2.3 s.1.busy;
        within = s.0;
        earlier = s.2.0;
        after-start = s.2.1;
        before = s.2.2;
        repeated = s.2.3;
        least = s.1.apart;
      }

  -- "\"Cut\" is said exactly if, within the chart's own limit, no stable situation and no repeated state appears"
  cut_neither : (k : ℕ) → end ≡ Cut k → Neither q e limit × (k ≡ limit)
  cut_neither k p =
      let s = says_of (Cut k) p in
      (record { busy = λ i h. s.1.busy i (omega arith); apart = λ i j a b h. s.1.apart i j a b (omega arith) }, s.0)

  neither_cut : Neither q e limit → end ≡ Cut limit
  neither_cut h =
      only q e limit end (Cut limit) (whole q e limit)
      (refl, record { busy = λ i l. h.busy i (le_of_suc-le-suc l); apart = λ i j a b l. h.apart i j a b (le_of_suc-le-suc l) })

  -- a stable state within the limit
  stable_of : (k : ℕ) → k ≤ limit → q k ≡ true → end_number end ≡ 0
  stable_of k h r = go end refl
    where
      go : (x : End) → end ≡ x → end_number x ≡ 0
      go (Rest j) p = refl
      go (Loops j) p = absurd (never_both r ((loops_unstable j p).never k))
      go (Cut l) p = absurd (never_both r ((cut_neither l p).0.busy k h))

  -- a repeat within the limit, and no stable state
  unstable_of : (i j : ℕ) → 0 < i → i < j → j ≤ limit → e i j ≡ true → ((k : ℕ) → k ≤ limit → q k ≡ false) → end_number end ≡ 12
  unstable_of i j a b h r f = go end refl
    where
      go : (x : End) → end ≡ x → end_number x ≡ 12
      go (Rest k) p = let s = says_of (Rest k) p in absurd (never_both s.1 (f k s.0))
      go (Loops k) p = refl
      go (Cut l) p = absurd (never_both r ((cut_neither l p).0.apart i j a b h))

  module _ (bound : ℕ) (coded : Coded (λ i j. e (suc i) (suc j) ≡ true) bound) where
    -- "the reported firings are the least number of simultaneous firings that reaches a stable situation, and never more than" the bound
    rest-least : (k : ℕ) → end ≡ Rest k → Least q e limit bound k
    rest-least k p =
        let s = says_of (Rest k) p in
        record { within = s.0; rests = s.1; least = s.2.busy; bounded = few e bound coded k s.2.apart }

    -- "so it is never said where the limit exceeds" the bound
    cut_bound : (k : ℕ) → end ≡ Cut k → limit ≤ bound
    cut_bound k p = few e bound coded limit (says_of (Cut k) p).1.apart

    -- what the number and the count of the end say
    pub end_demand : Demand q e limit bound (end_number end) (end_count end)
    end_demand =
        record {
          on-stable = λ z. rest-least (end_count end) (rest_of end z);
          stable_if = stable_of;
          on_unstable = λ z. loops_unstable (end_count end) (loops_of end z);
          unstable_if = unstable_of;
          on_cut = λ z. cut_neither (end_count end) (cut_of end z);
          cut_if = λ h. ap end_number (neither_cut h);
          never_cut = λ h z. let b = cut_bound (end_count end) (cut_of end z) in omega arith;
        }

  -- a number and a count that say it are those of the end
  pub end_only : (bound number count : ℕ) → Demand q e limit bound number count → (number ≡ end_number end) × (count ≡ end_count end)
  end_only bound number count d = go end refl
    where
      go : (x : End) → end ≡ x → (number ≡ end_number x) × (count ≡ end_count x)
      go (Rest k) p =
          let s = says_of (Rest k) p in
          let z = d.stable_if k s.0 s.1 in
          let l = d.on-stable z in
          (z, by_order count k (λ h. never_both l.rests (s.2.busy count h)) (λ h. never_both s.1 (l.least k h)))
      go (Loops j) p =
          let u = loops_unstable j p in
          let z = d.unstable_if u.earlier j u.after-start u.before u.within u.repeated (λ k h. u.never k) in
          let w = d.on_unstable z in (
            z,
            by_order count j (λ h. never_both w.repeated (u.least w.earlier count w.after-start w.before h))
                (λ h. never_both u.repeated (w.least u.earlier j u.after-start u.before h)),
          )
      go (Cut l) p =
          let c = cut_neither l p in
          let z = d.cut_if c.0 in
          (z, (d.on_cut z).1 ∙ sym c.1)

-- Words gathered from lines

module _ {A : Type 0} where
  -- words below 2 to the power n together are one
  pub gather_lt : (n : ℕ) (p : A → Bool) (w : A → ℕ) (l : List A) → All (λ a. w a < 2 ^ n) l → gather p w l < 2 ^ n
  unfolding gather
  gather_lt n p w [] h = pow_pos n
  gather_lt n p w (a ∷ l) h = or_lt n (cond (p a) (w a) 0) (gather p w l) (go (p a)) (gather_lt n p w l h.1)
    where
      go : (t : Bool) → cond t (w a) 0 < 2 ^ n
      go true = h.0
      go false = pow_pos n

  -- the lines that pass a test have items of all lines only
  pub gather-among : (p : A → Bool) (w : A → ℕ) (l : List A) → Among (gather p w l) (gather (λ a. true) w l)
  unfolding gather
  gather-among p w [] = among_none 0
  gather-among p w (a ∷ l) =
      among_or (cond (p a) (w a) 0) (gather p w l) (gather (λ a. true) w (a ∷ l)) (go (p a))
      (or_right (w a) (gather (λ a. true) w l) (gather p w l) (gather-among p w l))
    where
      go : (t : Bool) → Among (cond t (w a) 0) (gather (λ a. true) w (a ∷ l))
      go true = or_left (w a) (gather (λ a. true) w l) (w a) (λ i r. r)
      go false = among_none (gather (λ a. true) w (a ∷ l))

-- An evolution

-- an evolution that ends stable does so in a stable state
pub rest_stable : (c : Net) (v : View) (k : ℕ) → evolve c v ≡ Rest k → rests_at c v k ≡ true
unfolding evolve
rest_stable c v k p = (says_of (compared_orbit c v) c.limit (Rest k) p).1

-- latched outputs are named by latch lines, if those of s0 are
pub latched_in : (c : Net) (v : View) → Among v.moment.latched (latchable c.latches) → (k : ℕ) → Among (at c v k).moment.latched (latchable c.latches)
unfolding at next_view moment_after latch latchable switched_on
latched_in c v h zero = h
latched_in c v h (suc k) =
    let u : View = at c v k in
    let on : ℕ = switched_on c.latches (fired c u) u.moment.situation in
    let off : ℕ = switched_off c.latches (fired c u) u.moment.situation in
    among-without (bit_or u.moment.latched on) off (latchable c.latches)
    (among_or u.moment.latched on (latchable c.latches) (latched_in c v h k)
    (gather-among (λ l. latch_acts (fired c u) u.moment.situation l && l.on) (λ l. bit l.output) c.latches))

-- so many pairs of words of n items there are
four : (n : ℕ) → 2 ^ n * 2 ^ n ≡ 4 ^ n
four zero = refl
four (suc n) =
    ap₂ ◌*◌ (pow-suc 2 n) (pow-suc 2 n) ∙ mul-mul-mul_comm (2 ^ n) 2 (2 ^ n) 2 ∙ ap (λ (x : ℕ). x * 4) (four n) ∙ sym (pow-suc 4 n)

module _ (c : Net) (v : View) (b : StepsDeclared c v) where
  -- the steps of each situation are declared
  pub now_lt : (k : ℕ) → (at c v k).moment.situation < 2 ^ c.steps
  unfolding at next_view moment_after fired
  now_lt zero = b.situation
  now_lt (suc k) =
      let u : View = at c v k in
      let r : ℕ = gather (cleared u) (λ m. m.before) c.moves in
      or_lt c.steps (bit_xor u.moment.situation (bit_and u.moment.situation r)) (gather (cleared u) (λ m. m.after) c.moves)
      (xor_lt c.steps u.moment.situation (bit_and u.moment.situation r) (now_lt k) (lt_of_le_of_lt (and_le_l u.moment.situation r) (now_lt k)))
      (gather_lt c.steps (cleared u) (λ m. m.after) c.moves b.after)

  -- situations as numbers below 2 to the power n, and predecessors: s_(i+1)'s is the situation of s_i
  situations_coded : Coded (λ i j. (at c v (suc i)).moment.situation ≡ (at c v (suc j)).moment.situation) (2 ^ c.steps)
  situations_coded = number (λ i. (at c v (suc i)).moment.situation) (2 ^ c.steps) (λ i. now_lt (suc i))

  previous_coded : Coded (λ i j. (at c v (suc i)).moment.previous ≡ (at c v (suc j)).moment.previous) (2 ^ c.steps)
  unfolding at next_view moment_after
  previous_coded = number (λ i. (at c v i).moment.situation) (2 ^ c.steps) now_lt

  -- pairs of situation and predecessor as numbers below 4 to the power n
  pub pairs_coded : Coded (λ i j. repeats c v (suc i) (suc j) ≡ true) (bound c)
  unfolding same compared
  pairs_coded =
      to (four c.steps)
      (so (λ i j p. is-alike _ _ (λ t. record { situation = p.0 t; previous = p.1 t; latched = 0 })) (both situations_coded previous_coded))
