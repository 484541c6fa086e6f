use Rattle.std.proofs.Common.{ap, arith}
use Rattle.depot.specs.Seats.{Site}
use Rattle.depot.proofs.Calls.{few_slots}
use Rattle.depot.proofs.Racking.{one-racked}
use Rattle.depot.proofs.rack.Rack.of.Goals as goal

-- the depot is small, and so are its magazines
pub returns-clause-racked : goal.returns-clause-racked
returns-clause-racked c =
    let r = c.requires in
    let keeps = c.depot.invariant in
    let same = ap (λ (z : Site). z.rounds) c.depot.view_is in
    let least = keeps.3 in
    let most = keeps.4 in
    one-racked _ _ r.of
    (record { slots = few_slots c.depot.invariant c.depot.view_is; least = omega arith; most = omega arith })
    same c.at_hand.ensures.most r.out r.magazines r.inside r.none r.room
