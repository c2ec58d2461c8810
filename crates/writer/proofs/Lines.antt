-- Laws of lines that are written one after another.
use mathlib.Core.Bool.{Bool, true, false, cond}
use mathlib.Core.List.{List, [], ◌∷◌, ◌++◌, append_assoc, append-nil}
use mathlib.Core.Path.{◌≡◌, refl, sym, ap, ◌∙◌}
use Prim.Native.Nat.{ℕ, ◌+◌, ◌*◌, ◌≤◌}
use native.Mathlib.Omega.{arith}
use lib.Dec.{eqb}
use lib.ListN.{length, length-append}
use Rattle.text.specs.Lines.{line_end}
use Rattle.line.specs.declared.Kind.{Kind}
use Rattle.line.specs.Kinds.{rank}
use Rattle.line.specs.Write.{Line, kind, write_line, write_lines}
use Rattle.tokens.specs.declared.Token.{Token}
use Rattle.tokens.specs.declared.Kind.TheVariants.{End}
use Rattle.tokens.specs.Tokens.{token_after, tokens, token_at, Lies}
use Rattle.tokens.proofs.Scans.{Scanning, scan_start, scan_end, scan_on}
use Rattle.std.specs.Prelude.{Some}
use Rattle.outline.specs.declared.Cause.TheVariants.{Settled}
use Rattle.outline.specs.declared.Reading.{Reading}
use Rattle.outline.specs.Reading.{fault_at, after_token, nothing_known, settled}
use Rattle.writer.specs.declared.Written.{Written}
use Rattle.writer.proofs.Settled.{lines-alike}
use Rattle.writer.specs.Lines.{made, lines_from, lines_made}
use Rattle.writer.specs.Writing.{LinesPut, of_kind}
use Rattle.text.proofs.Putting.{put_then, put-none}

pub of_append : (k : Kind) (a b : List Line) → of_kind k (a ++ b) ≡ of_kind k a ++ of_kind k b
unfolding of_kind
of_append k [] b = refl
of_append k (l ∷ a) b = go (eqb (rank (kind l)) (rank (Some k))) (of_append k a b)
  where
    go : (t : Bool) → of_kind k (a ++ b) ≡ of_kind k a ++ of_kind k b
        → cond t (l ∷ of_kind k (a ++ b)) (of_kind k (a ++ b)) ≡ cond t (l ∷ of_kind k a) (of_kind k a) ++ of_kind k b
    go true e = ap (λ (x : List Line). l ∷ x) e
    go false e = e

pub write_append : (a b : List Line) → write_lines (a ++ b) ≡ write_lines a ++ write_lines b
unfolding write_lines
write_append [] b = refl
write_append (l ∷ a) b =
    ap (λ (x : List ℕ). write_line l ++ line_end ∷ x) (write_append a b) ∙ sym (append_assoc (write_line l) (line_end ∷ write_lines a) (write_lines b))

pub lines_then : (w v r : Written) (xs ys : List Line) (l m n : List ℕ) → LinesPut w xs l m v → LinesPut v ys m n r → LinesPut w (xs ++ ys) l n r
lines_then w v r xs ys l m n p q =
    record {
      put = rw (write_append xs ys) (put_then w.at v.at r.at (write_lines xs) (write_lines ys) l m n p.put q.put);
      lines = let a = p.lines in let b = q.lines in let c = length-append xs ys in omega arith;
    }

-- the lines of kind k that were made before token t are written
pub record Writing (s : List ℕ) (k : Kind) (from w : Written) (l m : List ℕ) (r : Reading) (t : Token) : Type 0 where
  pub done : List Line
  pub put : LinesPut from done l m w
  pub scan : Scanning (λ us. done ++ of_kind k (lines_from s r us)) (of_kind k (lines_made s)) s t
  pub turns : ℕ
  pub low : turns ≤ t.place
  pub inside : turns ≤ length s
  pub near : w.at ≤ from.at + 300 * turns
  pub few : w.lines ≤ from.lines + turns

pub writing_start : (s : List ℕ) (k : Kind) (from : Written) (l : List ℕ) (r : Reading) (t : Token) → r ≡ settled → t ≡ token_at s 0 1 → Lies s 0 t → Writing s k from from l l r t
unfolding tokens write_lines
writing_start s k from l r t e q y =
    record {
      done = [];
      put = record { put = put-none from.at l; lines = omega arith };
      scan = scan_start (λ us. of_kind k (lines_from s r us)) (of_kind k (lines_made s)) s 0 t y (rw (e, q) (ap (of_kind k) (sym (lines-alike s (tokens s) nothing_known (Some (fault_at 0 Settled))))));
      turns = 0;
      low = omega arith;
      inside = omega arith;
      near = omega arith;
      few = omega arith;
    }

lines-one : (s : List ℕ) (k : Kind) (done : List Line) (r q : Reading) (t : Token) (us : List Token) → q ≡ after_token s r t
    → done ++ of_kind k (lines_from s r (t ∷ us)) ≡ (done ++ of_kind k (made q)) ++ of_kind k (lines_from s q us)
unfolding lines_from
lines-one s k done r q t us e =
    rw e (ap (λ (x : List Line). done ++ x) (of_append k (made (after_token s r t)) (lines_from s (after_token s r t) us))
    ∙ sym (append_assoc done (of_kind k (made (after_token s r t))) (of_kind k (lines_from s (after_token s r t) us))))

lines_none : (s : List ℕ) (k : Kind) (q : Reading) → of_kind k (lines_from s q []) ≡ []
unfolding lines_from of_kind
lines_none s k q = refl

module _ (s : List ℕ) (k : Kind) (from w v : Written) (l m n : List ℕ) (r q : Reading) (t : Token) (g : Writing s k from w l m r t)
    (e : q ≡ after_token s r t) (p : LinesPut w (of_kind k (made q)) m n v) where
  pub writing_end : t.kind ≡ End → LinesPut from (of_kind k (lines_made s)) l n v
  writing_end h =
      let z = scan_end (λ us. g.done ++ of_kind k (lines_from s r us)) (of_kind k (lines_made s)) s t g.scan h in
      let y = lines-one s k g.done r q t [] e in
      let x = ap (λ (x : List Line). (g.done ++ of_kind k (made q)) ++ x) (lines_none s k q) ∙ append-nil (g.done ++ of_kind k (made q)) in
      rw (z ∙ y ∙ x) (lines_then from w v g.done (of_kind k (made q)) l m n g.put p)

  pub writing_on : (t.kind ≡ End → ⊥) → (u : Token) → u ≡ token_after s t → Lies s (t.place + t.size) u → v.at ≤ w.at + 300 → v.lines ≤ w.lines + 1
      → Writing s k from v l n q u
  writing_on h u f y a b =
      let c = g.low in
      let d = g.near in
      let i = g.few in
      let j = g.scan.lies.within h in
      let o = g.scan.lies.some h in
      let z = y.from in
      record {
        done = g.done ++ of_kind k (made q);
        put = lines_then from w v g.done (of_kind k (made q)) l m n g.put p;
        scan = scan_on (λ us. g.done ++ of_kind k (lines_from s r us)) (of_kind k (lines_made s)) s t g.scan h u y
            (λ us. (g.done ++ of_kind k (made q)) ++ of_kind k (lines_from s q us)) f (λ us. lines-one s k g.done r q t us e);
        turns = g.turns + 1;
        low = omega arith;
        inside = omega arith;
        near = omega arith;
        few = omega arith;
      }
