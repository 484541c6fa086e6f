use Rattle.std.proofs.Common.{refl}
use Rattle.depot.proofs.Sites.{left-hand, left-lent}
use Rattle.depot.proofs.rack.Rack.rest_in.Goals as goal

pub returns-clause-racked : goal.returns-clause-racked
returns-clause-racked c =
    let e = c.rest_in.ensures in left-hand _ _ _ c.requires.racked e.of _ e.me refl _ refl c.requires.some

pub returns-clause-lent : goal.returns-clause-lent
returns-clause-lent c =
    let e = c.rest_in.ensures in left-lent _ _ _ c.requires.racked e.of _ e.me refl _ refl c.requires.some
