use Rattle.depot.proofs.Logging.{cause-on, cause-then}
use Rattle.depot.proofs.rack.Rack.fetch_all.Goals as goal

-- what ended the second loop was read in the call
pub returns-clause-cause : goal.returns-clause-cause
returns-clause-cause c =
    let ended = c.fetch_bare-ended.result in
    let read = cause-on _ ended _ _ _ c.fetch_stocked-refused.ensures.logs c.fetch_bare-ended.ensures.cause in
    cause-then _ ended _ _ _ (cause-then _ ended _ _ _ read c.load-stock.ensures.logs) c.has_all.ensures.logs
