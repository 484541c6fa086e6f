use Rattle.std.proofs.Common.{arith}
use Rattle.mbuf.proofs.EndLemmas.{none_ended, one_ended}
use Rattle.mbuf.proofs.steps.foreign.end_if.Goals as goal

-- No hold is to end, and nothing is asked.
pub returns-in-None : goal.returns-in-None
returns-in-None g c =
    rw c.in-None.is
    (none_ended g.C.Commons.did g.C.Commons.side c.args.worker.now c.args.c.now c.args.freed _ c.requires.hand
    (omega arith) c.requires.flushed)

-- The one hold ends by its rule.
pub returns-in-Some : goal.returns-in-Some
returns-in-Some g c = rw c.in-Some.is (one_ended c.end_hold.ensures)
