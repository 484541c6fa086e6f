use Rattle.stack_lf.proofs.Taking.{push_once}
use Rattle.stack_lf.proofs.laws.one_push.Goals as goal

pub returns : goal.returns
returns c = push_once
