use Rattle.std.proofs.Common.{[], Ok, Err, ap, refl, sym, rules}
use Rattle.mbuf.proofs.FreshLemmas.{fresh_none}
use Rattle.mbuf.proofs.RefusedLemmas.{chained_none, chained_same}
use Rattle.mbuf.proofs.acts.chain.Goals as goal

-- The chain was refused and asked nothing, and the reply tells the cause; packets and side are as
-- they were.
pub returns-in-Err : goal.returns-in-Err
returns-in-Err g c =
    let done = c.in-Err.ensures in
    record {
      calls = ([], sym done.no_call, (Err c.in-Err.cause, done.chained, refl, refl));
      fresh = fresh_none _ _;
      own = search rules;
      guests = search rules;
      refused = chained_same _ _ _ _ _ _ _ done.chained (ap g.C.Commons.side done.no_call);
    }

-- The chain asked nothing, and the reply tells of the packet in the head's slot.
pub returns-in-Some : goal.returns-in-Some
returns-in-Some g c =
    let done = c.in_default.ensures in
    record {
      calls = (
        [],
        sym done.no_call,
        (
          Ok c.in_default.field-0,
          done.chained,
          refl,
          rw (c.in-Some.ensures, c.segs.ensures.segs, c.pkt_len.ensures) refl,
        ),
      );
      fresh = fresh_none _ _;
      own = search rules;
      guests = search rules;
      refused = search rules;
    }

-- A packet stands in the head's slot, once two are chained, so this is never replied.
pub returns-in-None : goal.returns-in-None
returns-in-None g c =
    let done = c.in_default.ensures in
    record {
      calls = ([], sym done.no_call, (Ok c.in_default.field-0, done.chained, refl, rw c.in-None.ensures refl));
      fresh = fresh_none _ _;
      own = search rules;
      guests = search rules;
      refused =
          chained_none _ _ _ _ _ _ done.chained (ap g.C.Commons.side done.no_call) c.in-None.ensures;
    }
