-- What a worker is given was in its cache or the common list, where each act leaves each element
-- in one place.
use Rattle.pool_model.proofs.Balance.{acts_give_fresh, gave_only}
use Rattle.pool_model.proofs.laws.no_element_is_given_while_it_is_held.Goals as goal

pub returns-clause-fresh : goal.returns-clause-fresh
returns-clause-fresh c = acts_give_fresh

pub returns-clause-own : goal.returns-clause-own
returns-clause-own c = gave_only
