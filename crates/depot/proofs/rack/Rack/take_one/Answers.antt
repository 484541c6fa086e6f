use Rattle.depot.proofs.Racking.{took, took_lets}
use Rattle.depot.proofs.rack.Rack.take_one.Goals as goal

pub returns-clause-racked : goal.returns-clause-racked
returns-clause-racked c =
    let e = c.take_one_front.ensures in took _ _ _ c.requires.racked e.of e.view _ e.front e.out

pub returns-clause-lets : goal.returns-clause-lets
returns-clause-lets c =
    let e = c.take_one_front.ensures in
    took_lets _ _ c.take_one_front.new.seat c.requires.racked e.of e.view _ e.front e.out
