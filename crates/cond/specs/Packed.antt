-- A way of the code: what the words stand for that it hands on while it reads.
-- No promise of the product speaks of these: to be skipped at a first reading.
use Rattle.std.specs.Prelude.{Some, None, Bool, true, false, not, ◌&&◌, ◌||◌, List, ◌≡◌, ℕ, ◌+◌, ◌-◌, ◌*◌, ◌/◌, ◌<◌, ◌≤◌, eqb, leb}
use Prim.Native.Char.{code}
use Rattle.text.specs.Bytes.{Bytes, byte_at}
use Rattle.text.specs.Numbers.{Found}
use Rattle.text.specs.Words.{has, without}
use Rattle.cond.specs.declared.Declared.{Declared}
use Rattle.cond.specs.declared.sight.Sight.{Sight}
use Rattle.cond.specs.Bounds.{longest}
use Rattle.cond.specs.declared.View.{View}
use Rattle.cond.specs.Meaning.{Cond, true_in, undeclared, edged}
use Rattle.cond.specs.Reading.{Reading, got, none, factor_at, term_at, cond_at}

-- All that is to be known of a part that was read, and of one that was not.
pub record Marks : Type 0 where
  pub value : Bool
  pub undeclared : Bool
  pub edge : Bool

pub data Noted : Type 0 where
  good : ℕ → Marks → Noted
  unnoted : Noted

abbrev pub marks : View → Declared → Cond → Marks
marks v d c = record { value = true_in v c; undeclared = undeclared d c; edge = edged c }

abbrev pub noted : View → Declared → Reading → Noted
noted v d (got c e) = good e (marks v d c)
noted v d none = unnoted

-- The word: 16 times the place after the part, and a bit for each mark; 8 for none.
abbrev pub mark : Bool → ℕ
mark true = 1
mark false = 0

abbrev pub mark_word : Marks → ℕ
mark_word m = 4 * mark m.edge + (2 * mark m.undeclared + mark m.value)

abbrev pub pack : Noted → ℕ
pack (good e m) = 16 * e + mark_word m
pack unnoted = 8

-- The grammar's steps on what was noted.
abbrev pub not_m : Marks → Marks
not_m m = record { value = not m.value; undeclared = m.undeclared; edge = m.edge }

abbrev pub and_m : Marks → Marks → Marks
and_m m n = record { value = m.value && n.value; undeclared = m.undeclared || n.undeclared; edge = m.edge || n.edge }

abbrev pub or_m : Marks → Marks → Marks
or_m m n = record { value = m.value || n.value; undeclared = m.undeclared || n.undeclared; edge = m.edge || n.edge }

-- negated where a `!` is still to be counted
abbrev pub signed_m : Bool → Marks → Marks
signed_m true m = not_m m
signed_m false m = m

abbrev pub signed : Bool → Noted → Noted
signed negate (good e m) = good e (signed_m negate m)
signed negate unnoted = unnoted

abbrev pub only_s : Bool → Noted → Noted
only_s true x = x
only_s false x = unnoted

abbrev pub closed_s : Bytes → Noted → Noted
closed_s b (good e m) = only_s (eqb (b e) (code ")")) (good (e + 1) m)
closed_s b unnoted = unnoted

abbrev pub join_m : (Marks → Marks → Marks) → Marks → Noted → Noted
join_m j m (good e n) = good e (j m n)
join_m j m unnoted = unnoted

abbrev pub more_if_s : Bool → (Marks → Marks → Marks) → Marks → ℕ → Noted → Noted
more_if_s true j m e x = join_m j m x
more_if_s false j m e x = good e m

abbrev pub more_s : ℕ → (Marks → Marks → Marks) → Bytes → (ℕ → Noted) → Noted → Noted
more_s s j b f (good e m) = more_if_s (eqb (b e) s) j m e (f (e + 1))
more_s s j b f unnoted = unnoted

-- an item's number, noted among `count` declared ones, with the word that has the items for which its atom holds
abbrev pub item_s : ℕ → ℕ → Bool → Found → Noted
item_s w count edge (Some (k, e)) = good e (record { value = has w k; undeclared = leb count k; edge = edge })
item_s w count edge None = unnoted

-- the items that came, or those that went
abbrev pub changed_items : Bool → ℕ → ℕ → ℕ
changed_items true new old = without new old
changed_items false new old = without old new

-- The private contracts. Each holds for every reading with fuel enough, so that no fuel stands in the code;
-- the words r stand for are named by what they pack.

-- what is looked at: the text's bytes and then zeros, the view, and what is declared
pub record Sees (s : List ℕ) (v : View) (d : Declared) (x : Sight) : Type 0 where
  pub bytes : (a : ℕ) → byte_at x.bytes a ≡ byte_at s a
  pub view : x.view.now ≡ v
  pub declared : x.declared ≡ d

abbrev pub ClosedOf : Bytes → ℕ → ℕ → Type 0
ClosedOf b r w = (x : Noted) → r ≡ pack x → w ≡ pack (closed_s b x)

-- What was read of a condition before a factor: o are the marks of the terms before, joined, t those of this term's factors.
-- A false factor sets a bit, so that factors are joined by "or" as terms are.
abbrev pub acc_word : Marks → Marks → ℕ
acc_word o t = mark_word o + 16 * mark_word (not_m t)

-- where nothing was read: no term is true, no factor false
abbrev pub no_term : Marks
no_term = record { value = false; undeclared = false; edge = false }

abbrev pub no_factor : Marks
no_factor = record { value = true; undeclared = false; edge = false }

pub record Handed (acc taken : ℕ) : Type 0 where
  pub low : acc < 256
  pub one : taken ≤ 1

module _ (v : View) (d : Declared) (b : Bytes) where
  -- what follows a part x of a term, and of a condition
  abbrev pub AndMore : ℕ → Noted → Noted
  AndMore n x = more_s (code ".") and_m b (λ k. noted v d (term_at n b k)) x

  abbrev pub OrMore : ℕ → Noted → Noted
  OrMore n x = more_s (code "+") or_m b (λ k. noted v d (cond_at n b k)) x

  -- the whole condition, where x is the next factor
  abbrev pub After : Marks → Marks → Bool → ℕ → ℕ → Noted → Noted
  After o t negate n k x = join_m or_m o (OrMore k (join_m and_m t (AndMore n (signed negate x))))

  abbrev pub CondOf : ℕ → ℕ → ℕ → ℕ → Type 0
  CondOf a acc taken r =
      (o t : Marks) (negate : Bool) → acc ≡ acc_word o t → taken ≡ mark (not negate)
      → (m n k : ℕ) → 3 * (longest - a) < m → 3 * (longest - a) < n → 3 * (longest - a) < k → r ≡ pack (After o t negate n k (noted v d (factor_at m b a)))

  abbrev pub AfterOf : ℕ → ℕ → ℕ → ℕ → Type 0
  AfterOf q acc taken r =
      (o t : Marks) (negate : Bool) → acc ≡ acc_word o t → taken ≡ mark (not negate)
      → (x : Noted) → q ≡ pack x → (x ≡ unnoted → ⊥) → (n k : ℕ) → 3 * (longest - q / 16) < n → 3 * (longest - q / 16) < k → r ≡ pack (After o t negate n k x)
