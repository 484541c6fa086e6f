use Rattle.tasks.proofs.Tellings.{puts_then}
use Rattle.tasks.proofs.telling.misread.put_places.Goals as goal

-- the pieces stand one behind the other
pub returns : goal.returns
returns g c =
    puts_then _ _ _ _ _ (puts_then _ _ _ _ _ (puts_then _ _ _ _ _ c.put_numbered.ensures c.put.ensures) c.put_number.ensures) c.put-2.ensures
