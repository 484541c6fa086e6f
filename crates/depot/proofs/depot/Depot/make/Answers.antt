use Rattle.std.proofs.Common.{rules}
use Rattle.depot.proofs.Opens.{first-lent}
use Rattle.depot.proofs.Rolling.{last-lent}
use Rattle.depot.proofs.depot.Depot.make.Goals as goal

-- each element is lent, and nothing else
pub returns-clause-all : goal.returns-clause-all
returns-clause-all c = first-lent _ _ (search rules)

pub returns-clause-none : goal.returns-clause-none
returns-clause-none c = last-lent _ _ (search rules)
