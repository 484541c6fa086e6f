-- What the run left is what is given as snapshots.
use Rattle.script.proofs.Ends.{left_by_run}
use Rattle.script.proofs.snapshots.left_by_run.Goals as goal

pub returns-clause-left : goal.returns-clause-left
returns-clause-left g c =
    left_by_run c.args.grounds c.args.script.now.pools c.in_ok-left.left c.snapshots.result c.in_ok-left.ensures.limits
    c.in_ok-left.ensures.reached c.in_ok-left.ensures.ended c.snapshots.ensures.same c.snapshots.ensures.lawful
