use Rattle.step_core.proofs.HeaderWalks.{opens_with_headers, keeps_headers, schedules_keep_headers}
use Rattle.step_core.proofs.laws.headers_are_kept.Goals as goal

-- of the opening, of a step, and of every schedule
pub returns : goal.returns
returns c = record
    { opening = opens_with_headers; step = keeps_headers; schedules = schedules_keep_headers }
