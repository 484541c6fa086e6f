use Rattle.std.proofs.Common.{sym, ◌-◌, length, arith, refl, [], ◌∷◌}
use Rattle.commons.specs.Calls.{GetList, with_list}
use Rattle.commons.proofs.Bags.{bag-empty, bag-last}
use Rattle.mempool.specs.Caches.{Direct}
use Rattle.mempool.proofs.worker.Worker.get_bulk.Goals as goal

-- Nothing was asked for, and nothing moves.
pub returns-then-n-eq0-clause-hand : goal.returns-then-n-eq0-clause-hand
returns-then-n-eq0-clause-hand g c i = omega (arith, bag-empty c.args.out.now i (omega arith))

-- the stack is asked alone
pub returns-then-n-size-clause-calls : goal.returns-then-n-size-clause-calls
returns-then-n-size-clause-calls g c =
    let d = c.get_list.ensures.did in
    rw (sym c.self.view_is) (
      record {
        call = GetList (length c.args.out.now) (with_list c.get_list.result c.get_list.new.out);
        readings = d.readings;
      } ∷ [],
      (c.get_list.new.self, d.step, refl),
      Direct (omega arith) (omega arith) refl refl,
    )

-- the cache has enough
pub returns-then-n-len-clause-hand : goal.returns-then-n-len-clause-hand
returns-then-n-len-clause-hand g c i =
    rw (sym c.self.view_is, c.take_last.ensures.out, c.take_last.ensures.cache)
    (omega (arith, bag-last c.self.inside.cache.items (length c.self.inside.cache.items - length c.args.out.now) i))
