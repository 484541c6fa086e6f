use Rattle.depot.proofs.Logging.{cause-on}
use Rattle.depot.proofs.rack.Rack.make_empty.Goals as goal

pub returns-in-Err-clause-cause : goal.returns-in-Err-clause-cause
returns-in-Err-clause-cause c =
    cause-on _ c.in-Err.cause _ _ _ c.find_empty.ensures.logs c.in-Err.ensures.cause
