-- Each seat that joins adds its worker's share, which is what the seat has.
use Rattle.std.proofs.Common.{◌++◌, ◌∷◌, [], length, ap, ◌∙◌, arith}
use Rattle.mbuf.specs.Members.{Member}
use Rattle.std.proofs.Common.{List}
use Rattle.word_pool.proofs.Joins.{last_is_of, last_joined, next_joined}
use Rattle.word_pool.proofs.pool.joined.Goals as goal

-- the last worker's seat has what its packets have, and its share is the only one
pub loop-worker-init : goal.loop-worker-init
loop-worker-init c =
    let none = ap (λ (ms : List Member). length ms) c.requires.empty in
    record {
      joined =
          last_joined c.args.ground.now c.args.workers.items
          c.pop.new.self.items c.in-Some.last c.into_parts-seat.result.0 c.into_parts-seat.result.1
          c.add_share.new.shares.items c.requires.each c.in-Some.ensures.items c.into_parts-seat.ensures.idle
          c.into_parts-seat.ensures.parts.0 c.into_parts-seat.ensures.parts.1
          (c.add_share.ensures.added
          ∙ ap (λ (ms : List Member). ms ++ c.into_parts-seat.result.1 ∷ []) c.requires.empty);
      room =
          omega (
            arith,
            c.requires.room,
            c.in-Some.ensures.len,
            c.add_share.ensures.len,
            c.add_share.ensures.room,
            c.args.shares.ok,
            none,
          );
    }

-- the next worker is one of those who are left, and so of this ground
pub join-requires-clause-of : goal.join-requires-clause-of
join-requires-clause-of c =
    last_is_of c.args.ground.now c.loop-worker.workers.items c.pop-in-loop-worker.new.self.items
    c.in-Some-pop.worker c.into_parts-first.result.0 c.loop-worker.invariant.joined.each c.in-Some-pop.ensures.items
    c.into_parts-first.ensures.parts.0

-- so is what the joined seat has, with one share more
pub loop-worker-preserved : goal.loop-worker-preserved
loop-worker-preserved c = record {
  joined =
      next_joined c.args.ground.now c.args.workers.items c.loop-worker.workers.items
      c.pop-in-loop-worker.new.self.items c.in-Some-pop.worker c.loop-worker.seat c.into_parts-first.result.0
      c.join.new.seat c.into_parts-first.result.1 c.loop-worker.shares.items
      c.add_share-in-Some-pop.new.shares.items c.loop-worker.invariant.joined c.in-Some-pop.ensures.items
      c.into_parts-first.ensures.idle c.into_parts-first.ensures.parts.0 c.into_parts-first.ensures.parts.1
      c.join.ensures c.add_share-in-Some-pop.ensures.added;
  room =
      omega (
        arith,
        c.loop-worker.invariant.room,
        c.in-Some-pop.ensures.len,
        c.add_share-in-Some-pop.ensures.len,
        c.add_share-in-Some-pop.ensures.room,
      );
}

-- where no worker has acted, none of the seats that were joined has taken a step
pub returns-clause-unmoved : goal.returns-clause-unmoved
returns-clause-unmoved c = λ none. (c.loop-worker.invariant.joined.unmoved none).1
