-- How deep the brackets of a condition are nested, by the grammar alone.
use Rattle.std.specs.Prelude.{ℕ, ◌+◌, max}
use Rattle.text.specs.Bytes.{Bytes}
use Rattle.cond.specs.Meaning.{Cond}
use Rattle.cond.specs.Grammar.{Part, Spans, negation, bracketed, atom, one-factor, more_factors, one-term, more_terms}

-- "`(` cond `)`" is one deeper than its cond; what is joined is as deep as the deeper part
unfoldable pub depth : {b : Bytes} {p : Part} {a e : ℕ} {c : Cond} → Spans b p a e c → ℕ
depth (negation a e c h x) = depth x
depth (bracketed a e c h x k) = depth x + 1
depth (atom a e c x) = 0
depth (one-factor a e c x) = depth x
depth (more_factors a m e c d x h y) = max (depth x) (depth y)
depth (one-term a e c x) = depth x
depth (more_terms a m e c d x h y) = max (depth x) (depth y)
