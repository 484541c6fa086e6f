-- An act writes one worker, and at most the desk that it names.
use Rattle.pool_model.proofs.PoolActs.{as_many, as_many_changes, other_desk, other_member, same_limits}
use Rattle.pool_model.proofs.laws.others_keep_what_they_have.Goals as goal

pub returns-clause-members : goal.returns-clause-members
returns-clause-members c = other_member

pub returns-clause-desks : goal.returns-clause-desks
returns-clause-desks c = other_desk

pub returns-clause-limits : goal.returns-clause-limits
returns-clause-limits c = same_limits

pub returns-clause-workers : goal.returns-clause-workers
returns-clause-workers c = as_many

pub returns-clause-changes : goal.returns-clause-changes
returns-clause-changes c = as_many_changes
