use Rattle.depot.proofs.Logging.{cause-on}
use Rattle.depot.proofs.rack.Rack.give_full.Goals as goal

-- no more went
pub returns-in-Err-clause-cause : goal.returns-in-Err-clause-cause
returns-in-Err-clause-cause c =
    cause-on _ c.in-Err.cause _ _ _ c.loop-self.invariant.1 c.in-Err.ensures.cause
