use Rattle.std.proofs.Common.{arith}
use Rattle.depot.proofs.Logging.{cause-on}
use Rattle.depot.proofs.Racking.{few-stock}
use Rattle.depot.proofs.rack.Rack.fetch_stock.Goals as goal

-- none came any more
pub returns-in-Err-clause-cause : goal.returns-in-Err-clause-cause
returns-in-Err-clause-cause c =
    cause-on _ c.in-Err.cause _ _ _ c.loop-stock.invariant.1 c.in-Err.ensures.cause

-- there are few
pub overflow_add-stock : goal.overflow_add-stock
overflow_add-stock c =
    let few = few-stock _ _ c.loop-stock.invariant.0 in
    let same = c.loop-stock.invariant.3 in
    let most = c.len-stock.ensures.most in
    let rounds = c.len-stock.ensures.racked.small.most in
    omega arith
