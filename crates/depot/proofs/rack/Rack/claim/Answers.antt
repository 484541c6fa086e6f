use Rattle.depot.proofs.Sites.{claim-racked, claim-won, claim-lost}
use Rattle.depot.proofs.rack.Rack.claim.Goals as goal

pub returns-clause-racked : goal.returns-clause-racked
returns-clause-racked c =
    let e = c.claim.ensures in claim-racked _ _ _ c.requires.racked e.of _ _ e.me

pub returns-clause-won : goal.returns-clause-won
returns-clause-won c =
    let e = c.claim.ensures in claim-won _ _ _ c.requires.racked e.of _ _ e.me

pub returns-clause-lost : goal.returns-clause-lost
returns-clause-lost c =
    let e = c.claim.ensures in claim-lost _ _ _ c.requires.racked e.of _ _ e.me
