use Rattle.std.proofs.Common.{◌≡◌, ◌++◌, length, map, replicate, List, Some, None, vec_len}
use Rattle.mbuf.specs.Members.{Member}
use Rattle.book.proofs.deposits.deposit_all.Given as goal

-- the shares that were put in the book stand in its last places
abbrev pub invariant-loop-share : goal.invariant-loop-share
invariant-loop-share l =
    (done : List Member)
    × (l.fn.shares.items ≡ l.shares.items ++ done)
    × (l.book ≡ record l.fn.book { places = replicate (length l.shares.items) None ++ map (λ m. Some m) done })

abbrev pub decreases-loop-share : goal.decreases-loop-share
decreases-loop-share l = vec_len l.shares
