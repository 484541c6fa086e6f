use Rattle.commons.specs.Calls.{calls_of}
use Rattle.mbuf.specs.Acts.{as_reply}
use Rattle.mbuf.proofs.MemberLemmas.{performs_keeps}
use Rattle.mbuf.proofs.acts.perform_in.Goals as goal

-- Whatever the act does, it keeps the worker's number, limits and number of slots.
pub returns-clause-member : goal.returns-clause-member
returns-clause-member g c =
    let done = c.act_in.ensures.calls in
    performs_keeps c.args.act c.args.packets.now (calls_of done.0) (as_reply c.act_in.result)
    c.act_in.new.packets done.2 c.has_slots.ensures
