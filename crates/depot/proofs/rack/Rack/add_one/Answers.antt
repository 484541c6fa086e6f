use Rattle.std.proofs.Common.{arith}
use Rattle.depot.proofs.Racking.{added, added_lets}
use Rattle.depot.proofs.rack.Rack.add_one.Goals as goal

pub returns-clause-racked : goal.returns-clause-racked
returns-clause-racked c =
    let e = c.add_one_front.ensures in
    let room = c.requires.room in
    added _ _ _ c.requires.racked e.of e.view _ e.front c.requires.lent (omega arith)

pub returns-clause-lets : goal.returns-clause-lets
returns-clause-lets c =
    let e = c.add_one_front.ensures in
    let room = c.requires.room in
    added_lets _ _ c.add_one_front.new.seat c.requires.racked e.of e.view _ e.front c.requires.lent (omega arith)
