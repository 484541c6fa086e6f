use Rattle.std.proofs.Common.{inr}
use Rattle.tasks.proofs.listing.of_both.Goals as goal

-- the first one's faults are known, and this is the failure of the second
pub returns-in-Err-listed-clause-cause : goal.returns-in-Err-listed-clause-cause
returns-in-Err-listed-clause-cause c = inr (inr (
  record { listed = c.in-Ok.listed; has = c.in-Ok.ensures.listed },
  record {
    alone = c.in-Err-listed.failure;
    cause = c.in-Err-listed.ensures.cause;
    told = c.of_two-in-Err-listed.ensures;
  },
))
