-- Laws of answers: what follows where there is none; and of places.
use mathlib.Core.Bool.{Bool, true, false, not, ◌&&◌, ◌||◌, and-eq-true_iff, false≢true}
use mathlib.Core.Path.{◌≡◌, refl, sym}
use Prim.Native.Nat.{ℕ, zero, suc, ◌+◌, ◌<◌, ◌≤◌}
use native.Mathlib.Omega.{arith}
use borrow.Author.Tests.{eqb-true, leb-true, lt-ltb, ltb-true, le-ltb, not-false}
use lib.Dec.{eqb, leb, ltb}
use Rattle.cond.specs.Lowest.{given, lower}
use Rattle.line.specs.Chart.{Chart}
use Rattle.std.specs.Prelude.{Option, Some}
use Rattle.line.specs.declared.Kind.{Kind}
use Rattle.line.specs.declared.Kind.TheVariants.{Unknown}
use Rattle.line.specs.Kinds.{rank, in_order, follows}
use Rattle.line.specs.Write.{Line, wrong, kind}
use Rattle.line.specs.Rules.{rules, fault}

-- none of several answers: none of each
pub lower_zero : (a b : ℕ) → lower a b ≡ 0 → (a ≡ 0) × (b ≡ 0)
lower_zero zero b h = (refl, h)
lower_zero (suc a) zero h = absurd (omega arith)
lower_zero (suc a) (suc b) h = absurd (omega arith)

pub given_zero : (n : ℕ) (t : Bool) → 0 < n → given n t ≡ 0 → t ≡ false
given_zero n true p h = absurd (omega arith)
given_zero n false p h = refl

pub not_given : (n : ℕ) (t : Bool) → 0 < n → given n (not t) ≡ 0 → t ≡ true
not_given n t p h = not-false t (given_zero n (not t) p h)

pub and_both : (x y : Bool) → (x && y) ≡ true → (x ≡ true) × (y ≡ true)
and_both x y = (and-eq-true_iff x y).0

pub or_neither : (x y : Bool) → (x || y) ≡ false → (x ≡ false) × (y ≡ false)
or_neither true y h = absurd (false≢true (sym h))
or_neither false y h = (refl, h)

-- Places

-- of three tests the second fails
second_fails : (x y : Bool) → (x && false && y) ≡ false
second_fails true y = refl
second_fails false y = refl

not_unknown : (k : Option Kind) → follows k (Some Unknown) ≡ false
not_unknown k = second_fails (leb 6 (rank k) && leb (rank k) 13) (ltb (rank k) 12)

-- bytes of no kind are 2, whatever the place
pub fault-wrong : (k : Option Kind) (c : Chart) → fault k c wrong ≡ 2
unfolding fault rules
fault-wrong k c = rw (not_unknown k)

module _ (k : Option Kind) (c : Chart) (l : Line) where
  pub in_place : fault k c l ≡ 0 → follows k (kind l) ≡ true
  unfolding fault
  in_place f = not_given 2 _ (omega arith) (lower_zero (given 2 (not (follows k (kind l)))) (rules c l) f).0

  pub rules_zero : fault k c l ≡ 0 → rules c l ≡ 0
  unfolding fault
  rules_zero f = (lower_zero (given 2 (not (follows k (kind l)))) (rules c l) f).1

  pub fault_zero : follows k (kind l) ≡ true → rules c l ≡ 0 → fault k c l ≡ 0
  unfolding fault
  fault_zero p q = rw (p, q)

-- a line of the head stands right after the one before it
pub after-head : (p k : ℕ) → k < 8 → in_order p k ≡ true → k ≡ p + 1
after-head p k l h = eqb-true k (p + 1) (let z : eqb k (p + 1) ≡ true = rw (lt-ltb k 8 l) at h in z)

-- the others after the head, in their order
pub record InBody (p k : ℕ) : Type 0 where
  pub after-limit : 6 ≤ p
  pub not_falling : p ≤ k
  pub known-kind : k ≤ 12
  pub before_end : p < 12

pub after-body : (p k : ℕ) → 8 ≤ k → in_order p k ≡ true → InBody p k
after-body p k l h =
    let z : (leb 6 p && leb p k && leb k 12 && ltb p 12) ≡ true = rw (le-ltb k 8 l) at h in
    let a = and_both _ _ z in
    let b = and_both _ _ a.0 in
    let d = and_both _ _ b.0 in
    record { after-limit = leb-true 6 p d.0; not_falling = leb-true p k d.1; known-kind = leb-true k 12 b.1; before_end = ltb-true p 12 a.1 }
