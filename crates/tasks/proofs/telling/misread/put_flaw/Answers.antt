use Rattle.tasks.proofs.Tellings.{puts_then}
use Rattle.tasks.proofs.telling.misread.put_flaw.Goals as goal

-- the pieces stand one behind the other
pub returns : goal.returns
returns g c =
    let place = rw c.steps.ensures at c.put_place_of.ensures in
    puts_then _ _ _ _ _ (puts_then _ _ _ _ _ (puts_then _ _ _ _ _ (puts_then _ _ _ _ _ (puts_then _ _ _ _ _ c.put.ensures place) c.put-2.ensures) c.put_what.ensures) c.put-3.ensures) c.put_number.ensures
