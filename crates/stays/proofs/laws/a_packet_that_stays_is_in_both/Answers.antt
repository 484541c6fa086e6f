use Rattle.stays.proofs.InBoth.{stays_in_both}
use Rattle.stays.proofs.laws.a_packet_that_stays_is_in_both.Goals as goal

pub returns : goal.returns
returns c = stays_in_both
