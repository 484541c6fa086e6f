use Rattle.commons.proofs.PlainCalls.{leaves_others}
use Rattle.commons.proofs.laws.a_worker_leaves_the_others.Goals as goal

pub returns : goal.returns
returns c = leaves_others
