use Rattle.depot.proofs.Logging.{logs-on, cause-on}
use Rattle.depot.proofs.rack.Rack.try_flush.Goals as goal

-- the rest didn't go
pub returns-in-Err-give_partial-clause-cause : goal.returns-in-Err-give_partial-clause-cause
returns-in-Err-give_partial-clause-cause c =
    cause-on _ c.in-Err-give_partial.cause _ _ _
    (logs-on _ _ _ (logs-on _ _ _ c.in-Ok.ensures.logs c.in-Ok-fetch_partial.ensures.logs) c.in-Ok-give_full.ensures.logs)
    c.in-Err-give_partial.ensures.cause

-- what the partial one filled didn't
pub returns-in-Err-give_full-clause-cause : goal.returns-in-Err-give_full-clause-cause
returns-in-Err-give_full-clause-cause c =
    cause-on _ c.in-Err-give_full.cause _ _ _ (logs-on _ _ _ c.in-Ok.ensures.logs c.in-Ok-fetch_partial.ensures.logs)
    c.in-Err-give_full.ensures.cause

-- the partial one didn't come
pub returns-in-Err-fetch_partial-clause-cause : goal.returns-in-Err-fetch_partial-clause-cause
returns-in-Err-fetch_partial-clause-cause c =
    cause-on _ c.in-Err-fetch_partial.cause _ _ _ c.in-Ok.ensures.logs c.in-Err-fetch_partial.ensures.cause
