use Rattle.std.proofs.Common.{arith}
use Rattle.share_book.proofs.NewPools.{one_member_more}
use Rattle.share_book.proofs.site_pool.no_packets.Goals as goal

-- the worker just made is the next in the row, with its number, no cache and no packets
pub loop-number-preserved : goal.loop-number-preserved
loop-number-preserved c =
    rw (c.in_default.ensures.items, c.in-Ok.ensures.ok)
    (one_member_more c.args.limits.now c.loop-number.members.items c.loop-number.number c.args.limits.now.workers (omega arith) c.loop-number.invariant)
