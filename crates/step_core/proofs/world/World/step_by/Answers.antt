use Rattle.step_core.proofs.Keeping.{answers_keep}
use Rattle.step_core.proofs.world.World.step_by.Goals as goal

-- whatever was answered, the laws are kept
pub invariant_of-self : goal.invariant_of-self
invariant_of-self c = answers_keep _ _ c.args.worker c.args.step.now c.step_of.result c.self.invariant c.step_of.ensures

-- a step that is played keeps the law, and a refused one changes nothing
pub returns-clause-world : goal.returns-clause-world
returns-clause-world c =
    answers_keep _ _ c.args.worker c.args.step.now c.step_of.result c.self.invariant
    c.step_of.ensures
