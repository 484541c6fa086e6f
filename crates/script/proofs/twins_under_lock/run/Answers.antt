-- The statements of both pools are of what acts made of new ones.
use Rattle.script.proofs.TwinEnds.{end_by_acts}
use Rattle.script.proofs.twins_under_lock.run.Goals as goal

pub returns-clause-reached : goal.returns-clause-reached
returns-clause-reached g c =
    let left = c.in_ok-closed in
    end_by_acts c.args.first.now c.args.second.now left.closed left.ensures.first_limits left.ensures.second_limits
    left.ensures.reached
