use Rattle.tasks.proofs.Tellings.{puts_then}
use Rattle.tasks.proofs.telling.put_difference.Goals as goal

-- the pieces stand one behind the other
pub returns : goal.returns
returns g c =
    puts_then _ _ _ _ _ (puts_then _ _ _ _ _ (puts_then _ _ _ _ _ (puts_then _ _ _ _ _ (puts_then _ _ _ _ _ c.put.ensures c.put_limit.ensures) c.put-2.ensures) c.put_number.ensures) c.put-3.ensures) c.put_number-2.ensures
