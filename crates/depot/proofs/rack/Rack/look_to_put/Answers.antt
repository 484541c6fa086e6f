use Rattle.std.proofs.Common.{refl}
use Rattle.depot.proofs.Sites.{same-hand, same-lent}
use Rattle.depot.proofs.rack.Rack.look_to_put.Goals as goal

pub returns-clause-racked : goal.returns-clause-racked
returns-clause-racked c =
    let e = c.look_to_put.ensures in same-hand _ _ _ c.requires.racked e.of _ e.me refl refl

pub returns-clause-lent : goal.returns-clause-lent
returns-clause-lent c =
    let e = c.look_to_put.ensures in same-lent _ _ _ c.requires.racked e.of _ e.me refl refl
