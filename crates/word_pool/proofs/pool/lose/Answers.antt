-- A worker is there to be lost.
use Rattle.std.proofs.Common.{arith}
use Rattle.word_pool.proofs.pool.lose.Goals as goal

pub remove-lost-requires : goal.remove-lost-requires
remove-lost-requires c =
    let ms = c.args.workers.now in
    omega (arith, c.requires.first, c.requires.last, ms.ok)
