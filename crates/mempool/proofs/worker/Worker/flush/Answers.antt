use Rattle.std.proofs.Common.{◌<◌, length, arith, sym}
use Rattle.std.proofs.lemmas.Bool.Decides.{nat_tests}
use Rattle.mempool.proofs.Pushes.{flush_whole}
use Rattle.mempool.proofs.worker.Worker.flush.Goals as goal

-- The cache isn't empty, and all of it beyond a length of 0 is the whole of it.
pub returns-clause-calls : goal.returns-clause-calls
returns-clause-calls g c =
    let ok = c.self.inside.cache.ok in
    let some : 0 < length c.self.inside.cache.items =
    grind (arith, nat_tests, ok, c.if-is_empty.ensures, c.if-is_empty.false) in
    rw (sym c.self.view_is) (flush_whole g.C.Commons.did g.C.Commons.side c.self.inside.cache.items
    c.args.c.now c.flush_beyond.new.c c.flush_beyond.result c.flush_beyond.new.cache.items
    some c.flush_beyond.ensures.calls)
