use Rattle.depot.proofs.Racking.{added, added_lets}
use Rattle.depot.proofs.rack.Rack.add.Goals as goal

pub returns-clause-racked : goal.returns-clause-racked
returns-clause-racked c =
    let e = c.add_front.ensures in
    added _ _ _ c.requires.racked e.of e.view _ e.front c.requires.lent c.requires.room

pub returns-clause-lets : goal.returns-clause-lets
returns-clause-lets c =
    let e = c.add_front.ensures in
    added_lets _ _ c.add_front.new.seat c.requires.racked e.of e.view _ e.front c.requires.lent c.requires.room
