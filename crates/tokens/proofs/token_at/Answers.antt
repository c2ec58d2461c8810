use Rattle.tokens.proofs.Laws.{lies}
use Rattle.tokens.specs.Tokens.{token_at, token_on}
use Rattle.tokens.proofs.token_at.Goals as goal

pub kind_at-requires : goal.kind_at-requires
kind_at-requires c = c.size_at-size.ensures

pub returns : goal.returns
unfolding token_at token_on
returns c = let e = lies _ _ _ c.skip-p.ensures.further in rw (c.kind_at.ensures, c.size_at-size.ensures) record { value = rw (← c.skip-p.ensures.value); lies = e }
