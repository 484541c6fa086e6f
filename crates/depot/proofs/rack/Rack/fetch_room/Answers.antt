use Rattle.std.proofs.Common.{arith}
use Rattle.depot.proofs.Logging.{cause-on}
use Rattle.depot.proofs.Racking.{few-room}
use Rattle.depot.proofs.rack.Rack.fetch_room.Goals as goal

-- none came any more
pub returns-in-Err-clause-cause : goal.returns-in-Err-clause-cause
returns-in-Err-clause-cause c =
    cause-on _ c.in-Err.cause _ _ _ c.loop-room.invariant.1 c.in-Err.ensures.cause

-- there is room for few
pub overflow_add-room : goal.overflow_add-room
overflow_add-room c =
    let few = few-room _ _ c.loop-room.invariant.0 in
    let same = c.loop-room.invariant.3 in
    let most = c.in_default.ensures.racked.rounds in
    let rounds = c.in_default.ensures.racked.small.most in
    omega arith
