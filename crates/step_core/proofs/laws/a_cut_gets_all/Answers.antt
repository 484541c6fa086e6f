use Rattle.step_core.proofs.Telling.{cut_gets_all}
use Rattle.step_core.proofs.laws.a_cut_gets_all.Goals as goal

pub returns : goal.returns
returns c = cut_gets_all
