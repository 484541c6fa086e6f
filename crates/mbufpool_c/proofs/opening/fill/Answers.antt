use Rattle.std.proofs.Common.{◌<◌, Box, Global, map, length, reverse, arith, length-set, ◌∙◌}
use Rattle.mbufpool_c.specs.Labelled.{Labelled}
use Rattle.mbufpool_c.specs.declared.workers.OwnWorker.{OwnWorker}
use Rattle.mbufpool_c.proofs.OpenLemmas.{at_place, next_left, one_more}
use Rattle.mbufpool_c.proofs.opening.fill.Goals as goal

-- the last of those who are left is the next worker, and comes into the next handle
pub loop-k-preserved : goal.loop-k-preserved
loop-k-preserved c =
    let worker_in : Box OwnWorker Global → Labelled = λ own. own.value in
    let all = reverse (map worker_in c.args.boxes.items) in
    let k = c.loop-k.k in
    let more : k < length c.loop-k.out =
    omega (arith, c.loop-k-test.true, c.loop-k.invariant.as_many, c.requires) in
    record {
      as_many = length-set c.loop-k.out k c.put.new.self ∙ c.loop-k.invariant.as_many;
      left =
          next_left worker_in all k c.loop-k.boxes.items c.pop.new.self.items c.in-Some.own
          c.loop-k.invariant.left c.in-Some.ensures.items;
      have =
          one_more c.loop-k.out k c.put.new.self all c.in-Some.own.value more c.put.ensures
          (at_place worker_in all k c.loop-k.boxes.items c.pop.new.self.items c.in-Some.own
          c.loop-k.invariant.left c.in-Some.ensures.items)
          c.loop-k.invariant.have;
    }
