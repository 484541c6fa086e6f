use Rattle.std.proofs.Common.{vec_len}
use Rattle.book.proofs.Filed.{AreFiled}
use Rattle.book.proofs.deposits.deposit_unlisted.Given as goal

-- the last shares are filed
abbrev pub invariant-loop-share : goal.invariant-loop-share
invariant-loop-share l = AreFiled l.listed l.fn.book.limits l.fn.shares.items l.shares.items l.book

abbrev pub decreases-loop-share : goal.decreases-loop-share
decreases-loop-share l = vec_len l.shares
