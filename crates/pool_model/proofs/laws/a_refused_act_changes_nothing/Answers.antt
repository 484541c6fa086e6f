-- Each act asks before it writes; a clone gives back what it got.
use Rattle.pool_model.proofs.PoolActs.{acts_clone_given_up, refused_same}
use Rattle.pool_model.proofs.laws.a_refused_act_changes_nothing.Goals as goal

pub returns-clause-same : goal.returns-clause-same
returns-clause-same c = refused_same

pub returns-clause-clone : goal.returns-clause-clone
returns-clause-clone c = acts_clone_given_up
