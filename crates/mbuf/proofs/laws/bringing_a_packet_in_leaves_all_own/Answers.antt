-- A packet that was brought in has come to a free slot as one off a desk does.
use Rattle.mbuf.proofs.ParcelLemmas.{own_brought_in}
use Rattle.mbuf.proofs.laws.bringing_a_packet_in_leaves_all_own.Goals as goal

pub returns : goal.returns
returns c = own_brought_in
