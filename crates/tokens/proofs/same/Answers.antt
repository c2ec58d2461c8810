use Rattle.tokens.proofs.Laws.{same_by_case}
use Rattle.tokens.proofs.same.Goals as goal

pub returns : goal.returns
returns c = same_by_case _ _ _ c.eq_ignore_ascii_case.ensures.test
