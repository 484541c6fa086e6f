use Rattle.step_core.proofs.OtherWorkers.{others_do_the_same}
use Rattle.step_core.proofs.hand_laws.others_do_the_same.Goals as goal

-- of a step of a worker that neither gives nor gets
pub returns : goal.returns
returns c = others_do_the_same
