use Rattle.std.proofs.Common.{◌++◌, subst}
use Rattle.commons.specs.Calls.{calls_of}
use Rattle.commons.specs.declared.limits.Limits.{Limits}
use Rattle.commons.proofs.Leading.{calls_of-append, Leads-append}
use Rattle.commons.specs.Packets.{hold_of, own_of_packet}
use Rattle.commons.proofs.Bags.{bag-append}
use Rattle.mbuf.specs.PacketRules.{EndsHolds}
use Rattle.mbuf.proofs.EndLemmas.{both_lost}
use Rattle.mbuf.proofs.clones.foreign.give_up.Goals as goal

-- The clones' holds ended on both sides, and then that of the element that is left over, in the
-- second pool.
pub returns-clause-calls : goal.returns-clause-calls
returns-clause-calls g c =
    let first = c.end_segs-freed in
    let last = c.end_if-freed in
    let ends = first.ensures.calls in
    let over = last.ensures.calls in
    let did = g.D.Commons.did in
    let side = g.D.Commons.side in (
      ends.0,
      ends.1,
      (
        ends.2.0 ++ over.0,
        Leads-append did side ends.2.0 over.0 c.args.d.now first.new.d last.new.c ends.2.1 over.1,
        record {
          second_end = calls_of ends.2.0;
          over_end = calls_of over.0;
          called = calls_of-append ends.2.0 over.0;
          between = first.new.second.cache;
          freed = first.result;
          ended = ends.2.2;
          done = last.result;
          over_ended =
              subst (λ (l : Limits). EndsHolds l (hold_of c.args.over) first.new.second.cache first.result
              (calls_of over.0) last.new.worker.cache last.result) first.ensures.second.number.limits over.2;
        },
      ),
    )

-- The worker of the second pool lost the holds of the clones, and then that of the element that is
-- left over.
pub returns-clause-second : goal.returns-clause-second
returns-clause-second g c =
    both_lost (own_of_packet c.args.segs.now ++ hold_of c.args.over)
    (bag-append (own_of_packet c.args.segs.now) (hold_of c.args.over)) c.end_segs-freed.ensures.second
    c.end_if-freed.ensures.lost
