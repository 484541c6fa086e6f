use Rattle.ground.proofs.Operations.{operations_are_steps}
use Rattle.ground.proofs.laws.an_operation_is_a_step.Goals as goal

pub returns : goal.returns
returns c = operations_are_steps
