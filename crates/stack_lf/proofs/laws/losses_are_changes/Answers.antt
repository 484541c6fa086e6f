use Rattle.stack_lf.proofs.Losing.{changes}
use Rattle.stack_lf.proofs.laws.losses_are_changes.Goals as goal

pub returns : goal.returns
returns c = changes
