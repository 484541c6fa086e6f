use Rattle.std.proofs.Common.{◌+◌, ◌≤◌, vec_len, vec_capacity}
use Rattle.word_pool.specs.inside.Joins.{AreJoined}
use Rattle.word_pool.proofs.pool.joined.Given as goal

-- the seats of the workers that were taken out are one, and there is room for a share of each that
-- is left
abbrev pub invariant-loop-worker : goal.invariant-loop-worker
invariant-loop-worker l = record {
  joined : AreJoined l.ground l.fn.workers.items l.workers.items l.seat l.shares.items;
  room : vec_len l.workers + vec_len l.shares ≤ vec_capacity l.shares;
}

abbrev pub decreases-loop-worker : goal.decreases-loop-worker
decreases-loop-worker l = vec_len l.workers
