use Rattle.std.proofs.Common.{arith}
use Rattle.step_core.proofs.Facts.{read_credit}
use Rattle.step_core.proofs.stack.add.Goals as goal

-- the credit that is given back is part of the population
pub overflow_add-words : goal.overflow_add-words
overflow_add-words c =
    let room =
    read_credit _ c.requires.world c.args.index (omega (arith, c.args.words.now.views.ok))
    c.index.result.now c.index.ensures in
    omega arith
