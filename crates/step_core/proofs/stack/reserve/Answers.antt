use Rattle.std.proofs.Common.{arith}
use Rattle.step_core.proofs.Facts.{read_credit}
use Rattle.step_core.proofs.stack.reserve.Goals as goal

-- the credit and the length word are part of the population
pub overflow_add-index_mut : goal.overflow_add-index_mut
overflow_add-index_mut c =
    let room =
    read_credit _ c.requires.world c.args.index (omega (arith, c.args.words.now.views.ok))
    c.index_mut.result.now c.index_mut.ensures.value in
    omega arith
