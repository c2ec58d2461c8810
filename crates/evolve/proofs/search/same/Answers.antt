use Rattle.evolve.proofs.Ending.Compared.{same-is}
use Rattle.evolve.proofs.search.same.Goals as goal

pub returns : goal.returns
returns c = λ n. same-is n c.args.a c.args.b
