use Rattle.std.proofs.Common.{vec_len}
use Rattle.book.proofs.twin_share.lose_all_twins.Given as goal

abbrev pub decreases-loop-share : goal.decreases-loop-share
decreases-loop-share l = vec_len l.shares
