use Rattle.depot.proofs.Swapping.{front-inside, front-out}
use Rattle.depot.proofs.rack.Rack.end.Goals as goal

-- the last magazine is out with the seat
pub give-refused-requires-clause-inside : goal.give-refused-requires-clause-inside
give-refused-requires-clause-inside c = front-inside _ _ c.len.ensures.racked

pub give-refused-requires-clause-out : goal.give-refused-requires-clause-out
give-refused-requires-clause-out c = front-out _ _ c.len.ensures.racked
