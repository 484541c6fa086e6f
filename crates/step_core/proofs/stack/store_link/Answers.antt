use Rattle.std.proofs.Common.{arith}
use Rattle.step_core.proofs.Facts.{read_chain}
use Rattle.step_core.proofs.stack.store_link.Goals as goal

-- a chain's elements are of the pool
pub link-requires : goal.link-requires
link-requires c = record {
  items =
      read_chain _ c.requires.world c.args.index (omega (arith, c.args.words.now.views.ok))
      c.index_mut-view.result.now c.index_mut-view.ensures.value;
}
