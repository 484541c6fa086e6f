use Rattle.depot.proofs.Logging.{cause-on}
use Rattle.depot.proofs.rack.Rack.flush.Goals as goal

-- it was refused at one of the tries
pub returns-in-Err-clause-cause : goal.returns-in-Err-clause-cause
returns-in-Err-clause-cause c = cause-on _ c.in-Err.cause _ _ _ c.loop.invariant.1 c.in-Err.ensures.cause
