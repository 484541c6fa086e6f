use Rattle.std.proofs.Common.{◌-◌}
use Rattle.commons.proofs.Opening.{nothing_held, nothing_in_hand}
use Rattle.commons.proofs.laws.nobody_has_anything.Goals as goal

pub returns-clause-hand : goal.returns-clause-hand
returns-clause-hand c = λ l w i. nothing_in_hand l.population w i

pub returns-clause-holds : goal.returns-clause-holds
returns-clause-holds c = λ l w i. nothing_held l.workers l.population (w - 1) i
