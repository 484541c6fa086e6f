-- The packets hold no more than their worker does, and each of their own elements is a header of it.
use Rattle.mbuf.proofs.ParcelLemmas.{standing_had}
use Rattle.mbuf.proofs.laws.a_standing_packet_is_its_workers.Goals as goal

pub returns : goal.returns
returns c = standing_had
