use Rattle.cond.proofs.Words.Items.{number_ends}
use native.Mathlib.Omega.{arith}
use Rattle.cond.proofs.sight.Sight.number_at.Goals as goal

pub returns-clause-within : goal.returns-clause-within
returns-clause-within c = number_ends c.args.self.now.bytes c.args.at c.number_at.result (omega arith) c.number_at.ensures
