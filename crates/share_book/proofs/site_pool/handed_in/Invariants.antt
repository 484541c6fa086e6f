use Rattle.std.proofs.Common.{◌≡◌, ◌+◌, ◌≤◌, ◌++◌, reverse, vec_len, vec_capacity}
use Rattle.share_book.proofs.site_pool.handed_in.Given as goal

-- the workers that are left, and the shares in reverse, are all; and there is room for a share of
-- each that is left
abbrev pub invariant-loop-packets : goal.invariant-loop-packets
invariant-loop-packets l = record {
  all : l.members.items ++ reverse l.shares.items ≡ l.fn.members.items;
  room : vec_len l.members + vec_len l.shares ≤ vec_capacity l.shares;
}

abbrev pub decreases-loop-packets : goal.decreases-loop-packets
decreases-loop-packets l = vec_len l.members
