-- Each pair of seats that joins adds its worker's share, which is what the seats have.
use Rattle.std.proofs.Common.{◌++◌, ◌∷◌, [], length, List, ap, ◌∙◌, arith}
use Rattle.mbuf.specs.Twins.{TwinMember}
use Rattle.word_pool.proofs.TwinJoins.{last_is_of_both, last_twin_joined, next_twin_joined}
use Rattle.word_pool.proofs.twin_pool.joined.Goals as goal

-- the last worker's seats have what the worker has, and its share is the only one
pub loop-worker-init : goal.loop-worker-init
loop-worker-init c =
    let none = ap (λ (ms : List TwinMember). length ms) c.requires.empty in
    let parts = c.into_parts-seats.ensures.parts in
    let seats = c.into_parts-seats.result.0 in
    record {
      joined =
          last_twin_joined c.args.first.now c.args.second.now c.args.workers.items
          c.pop.new.self.items c.in-Some.last seats.first seats.second c.into_parts-seats.result.1
          c.add_share.new.shares.items c.requires.each c.in-Some.ensures.items c.into_parts-seats.ensures.idle
          parts.0 parts.1 parts.2
          (c.add_share.ensures.added
          ∙ ap (λ (ms : List TwinMember). ms ++ c.into_parts-seats.result.1 ∷ []) c.requires.empty);
      room =
          omega (
            arith,
            c.requires.room,
            c.in-Some.ensures.len,
            c.add_share.ensures.len,
            c.add_share.ensures.room,
            c.args.shares.ok,
            none,
          );
    }

-- the next worker is one of those who are left, and so of both grounds
pub both-seats-requires-clause-first_of : goal.both-seats-requires-clause-first_of
both-seats-requires-clause-first_of c =
    let parts = c.into_parts-others.ensures.parts in
    (last_is_of_both c.args.first.now c.args.second.now c.loop-worker.workers.items c.pop-in-loop-worker.new.self.items
    c.in-Some-pop.worker c.into_parts-others.result.0.first c.into_parts-others.result.0.second
    c.loop-worker.invariant.joined.each c.in-Some-pop.ensures.items parts.0 parts.1).0

pub both-seats-requires-clause-second_of : goal.both-seats-requires-clause-second_of
both-seats-requires-clause-second_of c =
    let parts = c.into_parts-others.ensures.parts in
    (last_is_of_both c.args.first.now c.args.second.now c.loop-worker.workers.items c.pop-in-loop-worker.new.self.items
    c.in-Some-pop.worker c.into_parts-others.result.0.first c.into_parts-others.result.0.second
    c.loop-worker.invariant.joined.each c.in-Some-pop.ensures.items parts.0 parts.1).1

-- so is what the joined seats have, with one share more
pub loop-worker-preserved : goal.loop-worker-preserved
loop-worker-preserved c =
    let parts = c.into_parts-others.ensures.parts in
    let others = c.into_parts-others.result.0 in
    record {
      joined =
          next_twin_joined c.args.first.now c.args.second.now c.args.workers.items c.loop-worker.workers.items
          c.pop-in-loop-worker.new.self.items c.in-Some-pop.worker c.loop-worker.seats.first c.loop-worker.seats.second
          others.first others.second c.both-seats.result.first c.both-seats.result.second c.into_parts-others.result.1
          c.loop-worker.shares.items c.add_share-in-Some-pop.new.shares.items c.loop-worker.invariant.joined
          c.in-Some-pop.ensures.items c.into_parts-others.ensures.idle parts.0 parts.1 parts.2
          c.both-seats.ensures.first c.both-seats.ensures.second c.add_share-in-Some-pop.ensures.added;
      room =
          omega (
            arith,
            c.loop-worker.invariant.room,
            c.in-Some-pop.ensures.len,
            c.add_share-in-Some-pop.ensures.len,
            c.add_share-in-Some-pop.ensures.room,
          );
    }

-- where no worker has acted, none of the seats that were joined has taken a step
pub returns-clause-unmoved : goal.returns-clause-unmoved
returns-clause-unmoved c = λ none.
    let rest = c.loop-worker.invariant.joined.unmoved none in
    (rest.1, rest.2)
