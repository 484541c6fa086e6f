use Rattle.depot.proofs.Sites.{back-racked, back-won, back-lost}
use Rattle.depot.proofs.rack.Rack.take_back.Goals as goal

pub returns-clause-racked : goal.returns-clause-racked
returns-clause-racked c =
    let e = c.take_back.ensures in back-racked _ _ _ c.requires.racked e.of _ _ e.me

pub returns-clause-won : goal.returns-clause-won
returns-clause-won c =
    let e = c.take_back.ensures in back-won _ _ _ c.requires.racked e.of _ _ e.me

pub returns-clause-lost : goal.returns-clause-lost
returns-clause-lost c =
    let e = c.take_back.ensures in back-lost _ _ _ c.requires.racked e.of _ _ e.me
