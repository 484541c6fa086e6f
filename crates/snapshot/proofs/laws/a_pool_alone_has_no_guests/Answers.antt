-- Guests and foreign bases no longer stand in the definitions, once there are none.
use Rattle.snapshot.proofs.Alone.{alone_held, alone_once, alone_stated}
use Rattle.snapshot.proofs.laws.a_pool_alone_has_no_guests.Goals as goal

pub returns-clause-held : goal.returns-clause-held
returns-clause-held c = alone_held

pub returns-clause-statement : goal.returns-clause-statement
returns-clause-statement c = alone_stated

pub returns-clause-once : goal.returns-clause-once
returns-clause-once c = alone_once
