use Rattle.std.proofs.Common.{arith}
use Rattle.step_core.proofs.Facts.{read_chain, read_room}
use Rattle.step_core.proofs.stack.push.Goals as goal

-- a chain's elements are of the pool
pub push_expected-requires : goal.push_expected-requires
push_expected-requires c = record {
  items =
      read_chain _ c.requires.world c.args.index (omega (arith, c.args.words.now.views.ok))
      c.index_mut-view.result.now c.index_mut-view.ensures.value;
}

-- the number of a chain's elements, with the credit, is within the population
pub win_push-requires : goal.win_push-requires
win_push-requires c = record {
  credit =
      read_room _ c.requires.world c.args.index (omega (arith, c.args.words.now.views.ok))
      c.index_mut-view.result.now c.index_mut-view.ensures.value;
}
