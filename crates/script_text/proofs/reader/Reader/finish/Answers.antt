use Rattle.std.proofs.Common.{sym, subst}
use Rattle.script_text.specs.Scripts.{AreOfPool}
use Rattle.script_text.proofs.KeptLemmas.{of_pool}
use Rattle.script_text.proofs.PoolLemmas.{pools_of_limits}
use Rattle.script_text.proofs.reader.Reader.finish.Goals as goal

-- pools that were told are a pool's, and each line's worker is of it
pub invariant_of-result : goal.invariant_of-result
invariant_of-result g c =
    let pools = c.in_ok-pools.pools in
    record {
      made = pools_of_limits pools (rw c.in_ok-pools.was at c.requires.ready);
      workers =
          subst (AreOfPool pools.first.workers) (sym c.new.ensures) (of_pool pools.first.workers
          c.args.self.lines.items (rw c.in_ok-pools.was at c.requires.workers));
    }
