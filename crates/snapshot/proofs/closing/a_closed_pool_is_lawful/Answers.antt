-- A new pool is balanced, numbered and has packets alone, and each act keeps it so.
use Rattle.snapshot.proofs.ClosedPools.{acts_have_slots, acts_lawful, acts_stated}
use Rattle.snapshot.proofs.closing.a_closed_pool_is_lawful.Goals as goal

pub returns-clause-lawful : goal.returns-clause-lawful
returns-clause-lawful c = acts_lawful

pub returns-clause-slots : goal.returns-clause-slots
returns-clause-slots c = acts_have_slots

pub returns-clause-statement : goal.returns-clause-statement
returns-clause-statement c = acts_stated
