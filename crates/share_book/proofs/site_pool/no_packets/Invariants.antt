use Rattle.std.proofs.Common.{◌≡◌, ◌+◌, ◌-◌, ◌++◌}
use Rattle.pool_model.specs.Pool.{new_members}
use Rattle.share_book.proofs.site_pool.no_packets.Given as goal

-- the workers so far, and those that are left, are all
abbrev pub invariant-loop-number : goal.invariant-loop-number
invariant-loop-number l = l.members.items ++ new_members l.limits l.number (l.limits.workers + 1 - l.number) ≡ new_members l.limits 1 l.limits.workers
