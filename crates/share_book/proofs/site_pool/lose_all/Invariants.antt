use Rattle.std.proofs.Common.{vec_len}
use Rattle.share_book.proofs.site_pool.lose_all.Given as goal

abbrev pub decreases-loop-packets : goal.decreases-loop-packets
decreases-loop-packets l = vec_len l.members
