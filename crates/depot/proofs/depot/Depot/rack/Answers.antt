use Rattle.std.proofs.Common.{rules, ◌≡◌, ◌∙◌, [], ◌∷◌, ap}
use Rattle.depot.specs.Rule.{Sat}
use Rattle.depot.proofs.Vacant.{cached-none}
use Rattle.depot.proofs.depot.Depot.rack.Goals as goal

-- both magazines are empty
pub returns-in-Ok-fetch_empty-clause-empty : goal.returns-in-Ok-fetch_empty-clause-empty
returns-in-Ok-fetch_empty-clause-empty c =
    let rows : c.take.new.seat.me.1 ≡ (c.in-Ok.front, []) ∷ [] = search rules in
    let e = c.in-Ok-fetch_empty.ensures in
    cached-none _ c.in-Ok.front _ _ (ap (λ (m : Sat). m.1) c.of-rack.ensures.seat ∙ rows) e.gains e.empty
