use Rattle.std.proofs.Common.{arith, sym}
use Rattle.mempool.proofs.Pushes.{put_passed, put_kept_none}
use Rattle.mempool.proofs.worker.Worker.put_bulk.Goals as goal

-- More than a cache ever keeps was pushed past it.
pub returns-then-count-clause-calls : goal.returns-then-count-clause-calls
returns-then-count-clause-calls g c =
    rw (sym c.self.view_is) (put_passed g.C.Commons.did g.C.Commons.side c.self.inside.limits
    c.self.inside.cache.items c.args.list.now
    c.args.c.now c.put_past.new.c c.put_past.result c.put_past.new.cache.items (omega arith) c.put_past.ensures.calls)

-- A cache that keeps nothing is empty, and the list was pushed past it.
pub returns-then-len-eq0-clause-calls : goal.returns-then-len-eq0-clause-calls
returns-then-len-eq0-clause-calls g c =
    let ok = c.self.inside.cache.ok in
    rw (sym c.self.view_is) (put_kept_none g.C.Commons.did g.C.Commons.side c.self.inside.limits
    c.self.inside.cache.items c.args.list.now
    c.args.c.now c.put_past-then-len-eq0.new.c c.put_past-then-len-eq0.result
    c.put_past-then-len-eq0.new.cache.items (omega arith) (omega (arith, ok)) (omega arith)
    (omega arith) c.put_past-then-len-eq0.ensures.calls)

-- The cache can't keep cache and list together.
pub overflow-requires-clause-over : goal.overflow-requires-clause-over
overflow-requires-clause-over g c =
    let ok = c.self.inside.cache.ok in
    let flush = c.self.invariant.flush in
    record {
      keep = λ rule. (omega (arith, ok, flush.threshold rule), omega (arith, ok, flush.more rule));
      whole = λ rule. omega (arith, ok, flush.whole rule);
    }

-- The list was put by the pool's rule.
pub returns-clause-calls : goal.returns-clause-calls
returns-clause-calls g c =
    let ok = c.self.inside.cache.ok in
    rw (sym c.self.view_is) (c.overflow.ensures.calls c.self.inside.cache.items c.args.list.now
    c.append-2.ensures.items (omega (arith, ok)))
