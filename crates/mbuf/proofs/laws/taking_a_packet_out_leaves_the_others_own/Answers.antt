-- A packet that was taken out has left its slot as an offered one does.
use Rattle.mbuf.proofs.ParcelLemmas.{own_taken_out}
use Rattle.mbuf.proofs.laws.taking_a_packet_out_leaves_the_others_own.Goals as goal

pub returns : goal.returns
returns c = own_taken_out
