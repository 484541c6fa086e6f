use Rattle.tasks.proofs.Tellings.{puts_then}
use Rattle.tasks.proofs.telling.misread.put_doubled.Goals as goal

-- the element, and its places
pub returns : goal.returns
returns g c =
    let elem = rw c.from.ensures at c.put_numbered.ensures in
    puts_then _ _ _ _ _ elem c.put_places.ensures
