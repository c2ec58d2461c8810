-- Move, hold or latch lines, reordered among their own kind: the text stays accepted, and the lines of its chart are reordered so.
-- Nothing is supposed of the reordered text.
use mathlib.Core.Bool.{Bool, true, false, cond, ◌||◌, or_comm, or_assoc}
use mathlib.Core.List.Permᴰ
use mathlib.Core.List.{List, [], ◌∷◌, ◌++◌, Permᴰ}
use mathlib.Core.Path.{◌≡◌, refl, sym, ap, ap₂, ◌∙◌, subst}
use Prim.Native.Nat.{ℕ, zero, suc, ◌+◌, ◌≤◌}
use native.Mathlib.Omega.{arith}
use borrow.Author.Tests.{le-ltb}
use lib.Dec.{eqb}
use lib.ListN.{length, length-append, drop}
use Rattle.text.specs.Bytes.{byte_at}
use Rattle.text.specs.Numbers.{number}
use Rattle.text.specs.Runs.{Found}
use Rattle.text.specs.Keys.{begins}
use Rattle.text.specs.Lines.{Lines, nothing, unended, line, split}
use Rattle.text.proofs.Beginning.{begins_sound}
use Rattle.line.specs.Chart.{Head, Move, Hold, Latch, Chart}
use Rattle.std.proofs.Common.{Option, Some, None}
use Rattle.line.specs.declared.Kind.{Kind}
use Rattle.line.specs.declared.Kind.TheVariants.{Move as move_kind, Hold as hold_kind}
use Rattle.line.specs.Kinds.{is_end}
use Rattle.line.specs.Write.{Line, number', initial', move', hold', latch', end', wrong, kind, k_move, k_hold, k_latch, colon, arrow}
use Rattle.line.specs.Shape.{Listed, got, none, list_at, only_line, move_to, move_line, hold_to, hold_line, value_shape, edge_shape, latch_to, latch_line, shape}
use Rattle.line.specs.Rules.{longest_text, blank, with_number, with_initial, with_lines, extended, is_held, declared_by, rules, fault}
use Rattle.line.proofs.Answers.{in_place, rules_zero, fault_zero}
use Rattle.chart.specs.WellFormed.{MoveRules, HoldRules}
use Rattle.chart.specs.Reading.{Read, accepted, refused, onward, read_from, read_chart}
use Rattle.chart.specs.Reordered.{OneKind, both-moves, both-holds, both-latches, Reordered, unchanged, exchanged, behind, again, Rearranged}
use Rattle.chart.proofs.Lines.Ruled.{move_rules, move_ruled, hold-rules, hold_ruled}
use Rattle.chart.proofs.Fold.Splits.{Splits, no_more, open_end, more, split_sound}
use Rattle.chart.proofs.Fold.Whole.{not_wrong, not_accepted, read_sound}
use Rattle.chart.proofs.Fold.Sections.{Section, latch_section}

-- Lists in another order

module _ {A : Type 0} where
  -- as many
  pub perm_length : {k l : List A} → Permᴰ k l → length k ≡ length l
  perm_length Permᴰ.nil = refl
  perm_length (Permᴰ.cons e d) = ap suc (perm_length d)
  perm_length (Permᴰ.swap e₁ e₂) = refl
  perm_length (Permᴰ.trans d₁ d₂) = perm_length d₁ ∙ perm_length d₂

  -- two at the end, in either order
  two_last : (l : List A) (x y : A) → Permᴰ ((l ++ (x ∷ [])) ++ (y ∷ [])) ((l ++ (y ∷ [])) ++ (x ∷ []))
  two_last [] x y = Permᴰ.swap refl refl
  two_last (z ∷ l) x y = Permᴰ.cons refl (two_last l x y)

-- the first two of three tests, in either order
or_swap : (x y z : Bool) → (x || (y || z)) ≡ (y || (x || z))
or_swap x y z = sym (or_assoc x y z) ∙ ap (λ (u : Bool). u || z) (or_comm x y) ∙ or_assoc y x z

-- the same outputs have a hold
pub perm_held : (o : ℕ) {k l : List Hold} → Permᴰ k l → is_held o k ≡ is_held o l
unfolding is_held
perm_held o Permᴰ.nil = refl
perm_held o (Permᴰ.cons e d) = ap₂ (λ (x : Hold) (t : Bool). eqb x.output o || t) e (perm_held o d)
perm_held o (Permᴰ.swap {a} {b} {l = l} e₁ e₂) =
    or_swap (eqb a.output o) (eqb b.output o) (is_held o l)
    ∙ ap₂ (λ (x y : Hold). eqb y.output o || (eqb x.output o || is_held o l)) e₁ e₂
perm_held o (Permᴰ.trans d₁ d₂) = perm_held o d₁ ∙ perm_held o d₂

-- Charts with their lines in another order

-- a chart is its own rearrangement, and a rearrangement of a rearrangement is one
rearranged_same : (c : Chart) → Rearranged c c
rearranged_same c = record { same_head = refl; moves = Permᴰ.refl _; holds = Permᴰ.refl _; latches = Permᴰ.refl _ }

rearranged_twice : {c d e : Chart} → Rearranged c d → Rearranged d e → Rearranged c e
rearranged_twice p q =
    record {
      same_head = q.same_head ∙ p.same_head;
      moves = Permᴰ.trans p.moves q.moves;
      holds = Permᴰ.trans p.holds q.holds;
      latches = Permᴰ.trans p.latches q.latches;
    }

module _ (c d : Chart) (r : Rearranged c d) where
  -- a line is judged alike against the one and the other
  same-rules : (l : Line) → rules d l ≡ rules c l
  unfolding rules
  same-rules (number' q v) = refl
  same-rules (initial' l) = rw r.same_head
  same-rules (move' m) = rw (r.same_head, perm_length r.moves)
  same-rules (hold' x) = rw (r.same_head, perm_length r.holds)
  same-rules (latch' x) = rw (r.same_head, perm_length r.latches, perm_held x.output r.holds)
  same-rules (end' v) = rw (perm_length r.moves, perm_length r.holds, perm_length r.latches)
  same-rules wrong = refl

  same-fault : (k : Option Kind) (l : Line) → fault k d l ≡ fault k c l
  unfolding fault
  same-fault k l = rw (same-rules l)

  -- the two with another head, or with other lines
  other-head : (f : Head → Head) → Rearranged (record { head = f c.head; body = c.body }) (record { head = f d.head; body = d.body })
  other-head f = record { same_head = ap f r.same_head; moves = r.moves; holds = r.holds; latches = r.latches }

  other-lines : {ms ns : List Move} {hs is : List Hold} {xs ys : List Latch} → Permᴰ ms ns → Permᴰ hs is → Permᴰ xs ys
      → Rearranged (with_lines c ms hs xs) (with_lines d ns is ys)
  other-lines p q s = record { same_head = r.same_head; moves = p; holds = q; latches = s }

  -- the two with a line more
  more_rearranged : (l : Line) → Rearranged (extended c l) (extended d l)
  unfolding extended
  more_rearranged (number' q v) = other-head (with_number q v)
  more_rearranged (initial' l) = other-head (with_initial l)
  more_rearranged (move' m) = other-lines (Permᴰ.append_right (m ∷ []) r.moves) r.holds r.latches
  more_rearranged (hold' x) = other-lines r.moves (Permᴰ.append_right (x ∷ []) r.holds) r.latches
  more_rearranged (latch' x) = other-lines r.moves r.holds (Permᴰ.append_right (x ∷ []) r.latches)
  more_rearranged (end' v) = r
  more_rearranged wrong = r

-- Bytes that begin with a key have a shape of its kind, or none

-- a line of a kind, or none
data Only {A : Type 0} (f : A → Line) : Line → Type 0 where
  only : (x : A) → Only f (f x)
  no_line : Only f wrong

only-line : {A : Type 0} {f : A → Line} {l : Line} (t : Bool) → Only f l → Only f (only_line t l)
unfolding only_line
only-line true o = o
only-line false o = no_line

module _ (w : List ℕ) where
  only_move_to : (x : List ℕ) (y : Listed) → Only move' (move_to w x y)
  unfolding move_to
  only_move_to x (got y e) = only-line (eqb (byte_at w e) colon) (only _)
  only_move_to x none = no_line

  only_move : (x : Listed) → Only move' (move_line w x)
  unfolding move_line
  only_move (got x e) = only-line (eqb (byte_at w e) arrow) (only_move_to x (list_at w (e + 1)))
  only_move none = no_line

  only-hold-to : (x : ℕ) (y : Found) → Only hold' (hold_to w x y)
  unfolding hold_to
  only-hold-to x (Some (y, e)) = only-line (eqb (byte_at w e) colon) (only _)
  only-hold-to x None = no_line

  only-hold : (x : Found) → Only hold' (hold_line w x)
  unfolding hold_line
  only-hold (Some (x, e)) = only-line (eqb (byte_at w e) colon) (only-hold-to x (number 7 (byte_at w) (e + 1)))
  only-hold None = no_line

  only-latch-to : (x : ℕ) (u : Bool) (y : Found) → Only latch' (latch_to w x u y)
  unfolding latch_to
  only-latch-to x u (Some (y, e)) = only-line (value_shape w e) (only _)
  only-latch-to x u None = no_line

  only-latch : (x : Found) → Only latch' (latch_line w x)
  unfolding latch_line
  only-latch (Some (x, e)) = only-line (edge_shape w e) (only-latch-to x _ (number 7 (byte_at w) (e + 3)))
  only-latch None = no_line

-- bytes that begin with a key are the key and what stands after it
keyed : {A : Type 0} {f : A → Line} (k w : List ℕ) → begins k w ≡ true → ((r : List ℕ) → Only f (shape (k ++ r))) → Only f (shape w)
keyed {f = f} k w h g = subst (λ (u : List ℕ). Only f (shape u)) (sym (begins_sound k w h)) (g (drop (length k) w))

module _ (w : List ℕ) where
  move_shape : begins k_move w ≡ true → Only move' (shape w)
  unfolding shape begins
  move_shape h = keyed k_move w h (λ r. only_move (k_move ++ r) (list_at (k_move ++ r) (length k_move)))

  hold-shape : begins k_hold w ≡ true → Only hold' (shape w)
  unfolding shape begins
  hold-shape h = keyed k_hold w h (λ r. only-hold (k_hold ++ r) (number 7 (byte_at (k_hold ++ r)) (length k_hold)))

  latch-shape : begins k_latch w ≡ true → Only latch' (shape w)
  unfolding shape begins
  latch-shape h = keyed k_latch w h (λ r. only-latch (k_latch ++ r) (number 7 (byte_at (k_latch ++ r)) (length k_latch)))

-- Two lines of one kind, exchanged

-- the second passes in the place of the first and then the first after it, and the chart with both is rearranged
record Exchanged (k : Option Kind) (c : Chart) (l m : Line) : Type 0 where
  first : fault k c m ≡ 0
  second : fault (kind m) (extended c m) l ≡ 0
  same_kind : kind l ≡ kind m
  rearranged : Rearranged (extended (extended c l) m) (extended (extended c m) l)

-- the lines of a section, whose chart is rearranged where they are reordered
module _ {A : Type 0} (s : Section A) (p : (xs ys : List A) → Permᴰ xs ys → Rearranged (s.chart xs) (s.chart ys)) (k : Option Kind) (xs : List A) where
  both_extend : (x y : A) → extended (extended (s.chart xs) (s.line x)) (s.line y) ≡ s.chart ((xs ++ (x ∷ [])) ++ (y ∷ []))
  both_extend x y = ap (λ (c : Chart). extended c (s.line y)) (s.extends xs x) ∙ s.extends (xs ++ (x ∷ [])) y

  -- a section's rules ask for room, and of each line alone what the line before it does not change
  both-exchanged : (x y : A) → fault k (s.chart xs) (s.line x) ≡ 0 → fault (kind (s.line x)) (extended (s.chart xs) (s.line x)) (s.line y) ≡ 0
      → Exchanged k (s.chart xs) (s.line x) (s.line y)
  both-exchanged x y f g =
      let i = s.is_of x in
      let j = s.is_of y in
      let a = s.out xs x (rules_zero k (s.chart xs) (s.line x) f) in
      let b = s.out (xs ++ (x ∷ [])) y (rw (s.extends xs x) at (rules_zero (kind (s.line x)) (extended (s.chart xs) (s.line x)) (s.line y) g)) in
      let m = b.0 in
      let u = length-append xs (x ∷ []) in
      let v = length-append xs (y ∷ []) in
      record {
        first = fault_zero k (s.chart xs) (s.line y) (rw (j, ← i) (in_place k (s.chart xs) (s.line x) f)) (s.in' xs y a.0 b.1);
        second = fault_zero (kind (s.line y)) (extended (s.chart xs) (s.line y)) (s.line x) (rw (i, j) s.again)
            (rw (s.extends xs y) (s.in' (xs ++ (y ∷ [])) x (omega arith) a.1));
        same_kind = i ∙ sym j;
        rearranged = rw (both_extend x y, both_extend y x) (p _ _ (two_last xs x y));
      }

  -- what has no fault has a shape
  lines-exchanged : {l m : Line} → Only s.line l → Only s.line m → fault k (s.chart xs) l ≡ 0 → fault (kind l) (extended (s.chart xs) l) m ≡ 0
      → Exchanged k (s.chart xs) l m
  lines-exchanged (only x) (only y) f g = both-exchanged x y f g
  lines-exchanged (only x) no_line f g = absurd (not_wrong (kind (s.line x)) (extended (s.chart xs) (s.line x)) wrong g refl)
  lines-exchanged no_line o f g = absurd (not_wrong k (s.chart xs) wrong f refl)

-- the moves and the holds of any chart, whatever its other lines
module _ (c : Chart) where
  move_extends : (ms : List Move) (m : Move)
      → extended (with_lines c ms c.body.holds c.body.latches) (move' m) ≡ with_lines c (ms ++ (m ∷ [])) c.body.holds c.body.latches
  unfolding extended
  move_extends ms m = refl

  abbrev moves_of : Section Move
  moves_of =
      record {
        line = move';
        of = Some move_kind;
        is_of = λ m. refl;
        again = refl;
        chart = λ ms. with_lines c ms c.body.holds c.body.latches;
        extends = move_extends;
        Ruled = MoveRules (declared_by c);
        out = λ ms m. move_rules (with_lines c ms c.body.holds c.body.latches) m;
        in' = λ ms m. move_ruled (with_lines c ms c.body.holds c.body.latches) m;
      }

  hold_extends : (hs : List Hold) (x : Hold)
      → extended (with_lines c c.body.moves hs c.body.latches) (hold' x) ≡ with_lines c c.body.moves (hs ++ (x ∷ [])) c.body.latches
  unfolding extended
  hold_extends hs x = refl

  abbrev holds_of : Section Hold
  holds_of =
      record {
        line = hold';
        of = Some hold_kind;
        is_of = λ x. refl;
        again = refl;
        chart = λ hs. with_lines c c.body.moves hs c.body.latches;
        extends = hold_extends;
        Ruled = HoldRules (declared_by c) c.head.outputs;
        out = λ hs x. hold-rules (with_lines c c.body.moves hs c.body.latches) x;
        in' = λ hs x. hold_ruled (with_lines c c.body.moves hs c.body.latches) x;
      }

  -- with its lines in another order
  other_section : {ms ns : List Move} {hs is : List Hold} {xs ys : List Latch} → Permᴰ ms ns → Permᴰ hs is → Permᴰ xs ys
      → Rearranged (with_lines c ms hs xs) (with_lines c ns is ys)
  other_section = other-lines c c (rearranged_same c)

  -- two lines that begin with one key
  one-kind : (k : Option Kind) (w v : List ℕ) → OneKind w v → fault k c (shape w) ≡ 0 → fault (kind (shape w)) (extended c (shape w)) (shape v) ≡ 0
      → Exchanged k c (shape w) (shape v)
  one-kind k w v (both-moves a b) f g =
      lines-exchanged moves_of (λ xs ys p. other_section p (Permᴰ.refl _) (Permᴰ.refl _)) k c.body.moves (move_shape w a) (move_shape v b) f g
  one-kind k w v (both-holds a b) f g =
      lines-exchanged holds_of (λ xs ys p. other_section (Permᴰ.refl _) p (Permᴰ.refl _)) k c.body.holds (hold-shape w a) (hold-shape v b) f g
  one-kind k w v (both-latches a b) f g =
      lines-exchanged (latch_section c) (λ xs ys p. other_section (Permᴰ.refl _) (Permᴰ.refl _) p) k c.body.latches (latch-shape w a) (latch-shape v b) f g

-- The fold

-- what is accepted is not refused, so its lines have no fault
onward-out : (f n : ℕ) (r : Read) (d : Chart) → onward f n r ≡ accepted d → (f ≡ 0) × (r ≡ accepted d)
unfolding onward
onward-out zero n r d h = (refl, h)
onward-out (suc f) n r d h = absurd (not_accepted (suc f) n d h)

-- a line passes, and then the others
module _ (n : ℕ) (k : Option Kind) (c : Chart) (w : List ℕ) (x : Lines) (d : Chart) where
  line-out : read_from n k c (line w x) ≡ accepted d → (fault k c (shape w) ≡ 0) × (read_from (n + 1) (kind (shape w)) (extended c (shape w)) x ≡ accepted d)
  unfolding read_from
  line-out h = onward-out (fault k c (shape w)) n _ d h

  line_in : fault k c (shape w) ≡ 0 → read_from (n + 1) (kind (shape w)) (extended c (shape w)) x ≡ accepted d → read_from n k c (line w x) ≡ accepted d
  unfolding read_from onward
  line_in f h = rw f h

-- accepted, with the lines of the chart d in another order
record Accepts (d : Chart) (r : Read) : Type 0 where
  chart : Chart
  reads : r ≡ accepted chart
  rearranged : Rearranged d chart

-- the same lines, read on from a chart and from a rearranged one
read_along : (x : Lines) (n : ℕ) (k : Option Kind) (c e d : Chart) → Rearranged c e → read_from n k c x ≡ accepted d → Accepts d (read_from n k e x)
unfolding read_from
read_along nothing n k c e d r h = go (is_end k) h
  where
    go : (t : Bool) → cond t (accepted c) (refused 2 n) ≡ accepted d → Accepts d (cond t (accepted e) (refused 2 n))
    go true z = let i : c ≡ d = cc in record { chart = e; reads = refl; rearranged = rw (← i) r }
    go false z = absurd (not_accepted 2 n d z)
read_along unended n k c e d r h = absurd (not_accepted 2 n d h)
read_along (line w x) n k c e d r h =
    let p = line-out n k c w x d h in
    let a = read_along x (n + 1) (kind (shape w)) (extended c (shape w)) (extended e (shape w)) d (more_rearranged c e r (shape w)) p.1 in
    record { chart = a.chart; reads = line_in n k e w x a.chart (same-fault c e r k (shape w) ∙ p.0) a.reads; rearranged = a.rearranged }

-- reordered lines, read on from one chart
read_reordered : {x y : Lines} → Reordered x y → (n : ℕ) (k : Option Kind) (c d : Chart) → read_from n k c x ≡ accepted d → Accepts d (read_from n k c y)
read_reordered (unchanged x) n k c d h = record { chart = d; reads = h; rearranged = rearranged_same d }
read_reordered (exchanged w v x o) n k c d h =
    let p = line-out n k c w (line v x) d h in
    let q = line-out (n + 1) (kind (shape w)) (extended c (shape w)) v x d p.1 in
    let s = one-kind c k w v o p.0 q.0 in
    let e = extended (extended c (shape v)) (shape w) in
    let a = read_along x (n + 1 + 1) (kind (shape v)) (extended (extended c (shape w)) (shape v)) e d s.rearranged q.1 in
    let j = ap (λ (k : Option Kind). read_from (n + 1 + 1) k e x) s.same_kind ∙ a.reads in
    let i = line_in (n + 1) (kind (shape v)) (extended c (shape v)) w x a.chart s.second j in
    record { chart = a.chart; reads = line_in n k c v (line w x) a.chart s.first i; rearranged = a.rearranged }
read_reordered (behind w {x} {y} o) n k c d h =
    let p = line-out n k c w x d h in
    let a = read_reordered o (n + 1) (kind (shape w)) (extended c (shape w)) d p.1 in
    record { chart = a.chart; reads = line_in n k c w y a.chart p.0 a.reads; rearranged = a.rearranged }
read_reordered (again o p) n k c d h =
    let a = read_reordered o n k c d h in
    let b = read_reordered p n k c a.chart a.reads in
    record { chart = b.chart; reads = b.reads; rearranged = rearranged_twice a.rearranged b.rearranged }

-- Lengths: the bytes of ended lines, with the byte that ends each

size : Lines → ℕ
size nothing = 0
size unended = 0
size (line w x) = length w + suc (size x)

-- reordered lines have as many bytes
size_reordered : {x y : Lines} → Reordered x y → size x ≡ size y
unfolding size
size_reordered (unchanged x) = refl
size_reordered (exchanged w v x o) = omega arith
size_reordered (behind w o) = ap (λ (n : ℕ). length w + suc n) (size_reordered o)
size_reordered (again o p) = size_reordered o ∙ size_reordered p

-- lines that are accepted are all ended
size_read : (n : ℕ) (k : Option Kind) (c d : Chart) {t : List ℕ} {x : Lines} → Splits t x → read_from n k c x ≡ accepted d → length t ≡ size x
unfolding size read_from
size_read n k c d no_more h = refl
size_read n k c d (open_end t) h = absurd (not_accepted 2 n d h)
size_read n k c d (more w t x p s) h =
    let q = line-out n k c w x d h in
    let i = size_read (n + 1) (kind (shape w)) (extended c (shape w)) d s q.1 in
    length-append w _ ∙ ap (λ (n : ℕ). length w + suc n) i

-- a text that is not too long is read line by line
short-read : (t : List ℕ) → length t ≤ longest_text → read_chart t ≡ read_from 1 None blank (split t)
unfolding read_chart
short-read t l = rw (le-ltb longest_text (length t) l)

-- The theorem

pub reordered_accepted : (s t : List ℕ) (c : Chart) → read_chart s ≡ accepted c → Reordered (split s) (split t)
    → (d : Chart) × (read_chart t ≡ accepted d) × Rearranged c d
reordered_accepted s t c h o =
    let short = (read_sound s c h).short in
    let read = sym (short-read s short) ∙ h in
    let a = read_reordered o 1 None blank c read in
    let i = size_read 1 None blank c (split_sound s) read in
    let j = size_read 1 None blank a.chart (split_sound t) a.reads in
    let e = size_reordered o in
    (a.chart, short-read t (omega arith) ∙ a.reads, a.rearranged)
