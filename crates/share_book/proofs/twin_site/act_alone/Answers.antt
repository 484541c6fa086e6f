-- The views name the worker and its sites, so what the calls do through them is done to these.
use Rattle.std.proofs.Common.{rules}
use Rattle.commons.specs.Calls.{calls_of}
use Rattle.commons.specs.Lists.{side_of}
use Rattle.mbuf.specs.Acts.{as_reply}
use Rattle.mbuf.specs.Twins.{OwnTwin}
use Rattle.commons.proofs.PlainCalls.{leaves_others, plainly}
use Rattle.share_book.specs.TwinSites.{ActsAlone}
use Rattle.share_book.proofs.twin_site.act_alone.Goals as goal

-- the calls through the views are calls on the lists
pub returns-clause-acts : goal.returns-clause-acts
returns-clause-acts g c =
    let e = c.perform_twin_in.ensures.calls in
    let after = c.perform_twin_in.new in
    let p = plainly c.new-c.result e.0 after.c e.1 in
    let q = plainly c.new-d.result e.2.0 after.d e.2.1 in
    let same = p.same in
    let others = q.same in
    let acts : ActsAlone c.args.worker c.args.act c.args.first.now c.args.second.now c.args.twin.now
    (as_reply c.perform_twin_in.result) after.c.site.now after.d.site.now after.twin = record {
      firsts = calls_of e.0;
      seconds = calls_of e.2.0;
      first = rw (c.new-c.ensures.now, c.new-c.ensures.worker) at p.led;
      second = rw (c.new-d.ensures.now, c.new-d.ensures.worker) at q.led;
      did = e.2.2;
      fresh =
          rw (c.new-c.ensures.now, c.new-c.ensures.worker, c.new-d.ensures.now, c.new-d.ensures.worker) at
          c.perform_twin_in.ensures.fresh;
      refused =
          rw (p.worker, q.worker, c.new-c.ensures.now, c.new-c.ensures.worker, c.new-d.ensures.now, c.new-d.ensures.worker) at
          c.perform_twin_in.ensures.refused;
    } in
    search (rules, same, others, acts, c.new-c.ensures.same, c.new-d.ensures.same)

-- the calls change neither the worker nor the pools' limits, and what it has is left its own
pub returns-clause-own : goal.returns-clause-own
returns-clause-own g c =
    let e = c.perform_twin_in.ensures.calls in
    let after = c.perform_twin_in.new in
    let p = plainly c.new-c.result e.0 after.c e.1 in
    let q = plainly c.new-d.result e.2.0 after.d e.2.1 in
    let same = p.same in
    let others = q.same in
    let owned : OwnTwin after.twin (side_of after.c.site.now c.args.worker) (side_of after.d.site.now c.args.worker) =
    rw (p.worker, q.worker, c.new-c.ensures.worker, c.new-d.ensures.worker) at c.perform_twin_in.ensures.own in
    search (rules, same, others, owned, c.new-c.ensures.same, c.new-d.ensures.same)

-- and they leave what the others have
pub returns-clause-first_sides : goal.returns-clause-first_sides
returns-clause-first_sides g c =
    let e = c.perform_twin_in.ensures.calls in
    let left = leaves_others c.new-c.result e.0 c.perform_twin_in.new.c e.1 in
    let same = left.site in
    let sides = left.sides in
    search (rules, same, sides, c.new-c.ensures.same, c.new-c.ensures.now, c.new-c.ensures.worker)

pub returns-clause-second_sides : goal.returns-clause-second_sides
returns-clause-second_sides g c =
    let e = c.perform_twin_in.ensures.calls in
    let left = leaves_others c.new-d.result e.2.0 c.perform_twin_in.new.d e.2.1 in
    let same = left.site in
    let sides = left.sides in
    search (rules, same, sides, c.new-d.ensures.same, c.new-d.ensures.now, c.new-d.ensures.worker)
