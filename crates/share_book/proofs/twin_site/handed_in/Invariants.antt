use Rattle.std.proofs.Common.{◌≡◌, ◌+◌, ◌≤◌, ◌++◌, reverse, vec_len, vec_capacity}
use Rattle.share_book.proofs.twin_site.handed_in.Given as goal

-- the workers that are left, and the shares in reverse, are all; and there is room for a share of
-- each that is left
abbrev pub invariant-loop-twin : goal.invariant-loop-twin
invariant-loop-twin l = record {
  all : l.members.items ++ reverse l.shares.items ≡ l.fn.members.items;
  room : vec_len l.members + vec_len l.shares ≤ vec_capacity l.shares;
}

abbrev pub decreases-loop-twin : goal.decreases-loop-twin
decreases-loop-twin l = vec_len l.members
