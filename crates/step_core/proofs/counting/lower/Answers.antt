use Rattle.std.proofs.Common.{arith}
use Rattle.step_core.proofs.Facts.{read_count}
use Rattle.step_core.proofs.counting.lower.Goals as goal

-- an element that is held has a count of at least 1
pub overflow_sub-count : goal.overflow_sub-count
overflow_sub-count c =
    let counts = c.requires.world.law.ranges.counts in
    read_count _ c.requires.world c.args.index (omega (arith, c.args.words.now.views.ok))
    c.index_mut-view.result.now c.index_mut-view.ensures.value
    c.args.element c.index-count.result.now c.in-Some.ensures.1 (omega arith) c.index-count.ensures
