use Rattle.std.proofs.Common.{◌+◌, ◌≤◌, vec_len, vec_capacity}
use Rattle.word_pool.specs.inside.TwinCrews.{AreTwinsJoined}
use Rattle.word_pool.proofs.twin_pool.joined.Given as goal

-- the seats of the workers that were taken out are one at either ground, and there is room for a
-- share of each that is left
abbrev pub invariant-loop-worker : goal.invariant-loop-worker
invariant-loop-worker l = record {
  joined : AreTwinsJoined l.first l.second l.fn.workers.items l.workers.items l.seats.first l.seats.second l.shares.items;
  room : vec_len l.workers + vec_len l.shares ≤ vec_capacity l.shares;
}

abbrev pub decreases-loop-worker : goal.decreases-loop-worker
decreases-loop-worker l = vec_len l.workers
