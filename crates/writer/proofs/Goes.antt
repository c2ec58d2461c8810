-- A part of a text: what the reading is after it, and the lines that it makes.
use mathlib.Core.List.{List, ◌∷◌, ◌++◌, append_assoc}
use mathlib.Core.Path.{◌≡◌, sym, ap, ◌∙◌}
use Prim.Native.Nat.{ℕ}
use Rattle.std.specs.Prelude.{None}
use Rattle.line.specs.Write.{Line}
use Rattle.tokens.specs.declared.Token.{Token}
use Rattle.outline.specs.declared.Reading.{Reading}
use Rattle.outline.specs.Reading.{after_token, reading_from}
use Rattle.outline.proofs.Faultless.{run_none}
use Rattle.writer.specs.Lines.{made, lines_from}

-- from r the tokens us lead to q and the tokens vs, and make the lines ls
pub record Goes (s : List ℕ) (r : Reading) (us : List Token) (ls : List Line) (q : Reading) (vs : List Token) : Type 0 where
  pub runs : reading_from s r us ≡ reading_from s q vs
  pub lines : lines_from s r us ≡ ls ++ lines_from s q vs

module _ (s : List ℕ) where
  -- a part of one token
  pub goes_one : (r q : Reading) (t : Token) (us : List Token) (ls : List Line) → after_token s r t ≡ q → made q ≡ ls → Goes s r (t ∷ us) ls q us
  unfolding reading_from lines_from
  goes_one r q t us ls e f = record { runs = ap (λ (x : Reading). reading_from s x us) e; lines = rw (e, f) }

  -- a part, and then another
  pub goes_then : {r q o : Reading} {us vs ws : List Token} {ls ks : List Line} → Goes s r us ls q vs → Goes s q vs ks o ws → Goes s r us (ls ++ ks) o ws
  goes_then {o = o} {ws = ws} {ls = ls} {ks = ks} a b =
      record { runs = a.runs ∙ b.runs; lines = a.lines ∙ ap (λ (x : List Line). ls ++ x) b.lines ∙ sym (append_assoc ls ks (lines_from s o ws)) }

  -- the lines of a part, said in another way
  pub goes_making : {r q : Reading} {us vs : List Token} {ls ks : List Line} → Goes s r us ls q vs → ls ≡ ks → Goes s r us ks q vs
  goes_making {q = q} {vs = vs} a e = record { runs = a.runs; lines = a.lines ∙ ap (λ (x : List Line). x ++ lines_from s q vs) e }

  -- no fault is found after a part where none is found from its beginning on
  pub still : {r q : Reading} {us vs : List Token} {ls : List Line} → Goes s r us ls q vs → (reading_from s r us).fault ≡ None → (reading_from s q vs).fault ≡ None
  still a h = sym (ap (λ (x : Reading). x.fault) a.runs) ∙ h

  -- nor at its first token
  pub first_fine : (r : Reading) (t : Token) (us : List Token) → (reading_from s r (t ∷ us)).fault ≡ None → (after_token s r t).fault ≡ None
  unfolding reading_from
  first_fine r t us h = run_none s (after_token s r t) us h
