-- Whatever the act does, it keeps the worker's numbers and limits.
use Rattle.commons.specs.Calls.{calls_of}
use Rattle.mbuf.specs.Acts.{as_reply}
use Rattle.twin_acts.proofs.Kept.{twin_kept}
use Rattle.twin_acts.proofs.acts.perform_twin_in.Goals as goal

pub returns-clause-member : goal.returns-clause-member
returns-clause-member g c =
    let done = c.act_in.ensures.calls in
    twin_kept c.args.act c.args.twin.now (calls_of done.0) (calls_of done.2.0) (as_reply c.act_in.result)
    c.act_in.new.twin (rw c.first.ensures at c.has_slots.ensures) done.2.2
