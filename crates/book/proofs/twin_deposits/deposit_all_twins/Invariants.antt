use Rattle.std.proofs.Common.{vec_len}
use Rattle.book.proofs.TwinShares.{AreFiled}
use Rattle.book.proofs.twin_deposits.deposit_all_twins.Given as goal

-- the shares that aren't left are in the book
abbrev pub invariant-loop-share : goal.invariant-loop-share
invariant-loop-share l = AreFiled l.fn.book l.fn.shares.items l.shares.items l.book

abbrev pub decreases-loop-share : goal.decreases-loop-share
decreases-loop-share l = vec_len l.shares
