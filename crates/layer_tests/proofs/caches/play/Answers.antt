use Rattle.std.proofs.Common.{◌≡◌, arith}
use Rattle.commons.specs.Bag.{bag}
use Rattle.commons.proofs.Bags.{bag-nil}
use Rattle.layer_tests.proofs.caches.play.Goals as goal

-- the worker's cache was empty, so what the get brought into the hand is there to be put
pub put_bulk-requires-clause-in_hand : goal.put_bulk-requires-clause-in_hand
put_bulk-requires-clause-in_hand g c i =
    let empty : bag c.in_ok-worker.worker.cache i ≡ 0 = rw c.in_ok-worker.ensures.ok (bag-nil i) in
    omega (arith, empty, c.in-Ok.ensures.hand i)

-- the cache is part of the hand, since it was empty and the get filled both
pub flush-first-requires-clause-in_hand : goal.flush-first-requires-clause-in_hand
flush-first-requires-clause-in_hand g c i =
    let empty : bag c.in_ok-worker.worker.cache i ≡ 0 = rw c.in_ok-worker.ensures.ok (bag-nil i) in
    omega (arith, empty, c.in-Ok.ensures.hand i)

-- the first flush took as much from the cache as from the hand
pub flush-second-requires-clause-in_hand : goal.flush-second-requires-clause-in_hand
flush-second-requires-clause-in_hand g c i =
    let empty : bag c.in_ok-worker.worker.cache i ≡ 0 = rw c.in_ok-worker.ensures.ok (bag-nil i) in
    omega (arith, empty, c.in-Ok.ensures.hand i, c.flush-first.ensures.hand i)
