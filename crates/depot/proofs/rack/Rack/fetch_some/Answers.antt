use Rattle.depot.proofs.Reading.{after-full}
use Rattle.depot.proofs.rack.Rack.fetch_some.Goals as goal

-- both stacks were read
pub returns-in-Err-fetch-clause-cause : goal.returns-in-Err-fetch-clause-cause
returns-in-Err-fetch-clause-cause c =
    let first = rw c.in-NoEntries.is at c.in-Err.ensures.cause in
    after-full _ c.in-Err-fetch.cause _ _ _ first c.in-Err.ensures.logs c.in-Err-fetch.ensures.logs c.in-Err-fetch.ensures.cause
