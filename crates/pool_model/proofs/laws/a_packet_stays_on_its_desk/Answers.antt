-- Offers and takes alone write on desks: an offer on an empty one, a take on its own.
use Rattle.pool_model.proofs.DeskStays.{stays_in_pool}
use Rattle.pool_model.proofs.DeskWaits.{offer_is_refused, taken_off}
use Rattle.pool_model.proofs.laws.a_packet_stays_on_its_desk.Goals as goal

pub returns-clause-stays : goal.returns-clause-stays
returns-clause-stays c = stays_in_pool

pub returns-clause-refused : goal.returns-clause-refused
returns-clause-refused c = offer_is_refused

pub returns-clause-taken : goal.returns-clause-taken
returns-clause-taken c = taken_off
