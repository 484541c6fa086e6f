use Rattle.stack_lf.proofs.Taking.{cut_once}
use Rattle.stack_lf.proofs.laws.one_cut.Goals as goal

pub returns : goal.returns
returns c = cut_once
