-- An offer that succeeds leaves the packet on the desk, where only a take off it writes.
use Rattle.mbuf.specs.declared.acts.Act.TheVariants.{Offer}
use Rattle.pool_model.specs.PacketModel.{after_acts, perform}
use Rattle.pool_model.proofs.DeskWaits.{given_back, left_by_offer, offer_is_met, offered_waits, take_is_refused, taken_off}
use Rattle.pool_model.proofs.laws.a_desk_gives_what_was_left_on_it.Goals as goal

pub returns-clause-met : goal.returns-clause-met
returns-clause-met c = offer_is_met

pub returns-clause-left : goal.returns-clause-left
returns-clause-left c = left_by_offer

pub returns-clause-waits : goal.returns-clause-waits
returns-clause-waits c = offered_waits

-- the packet still lies there after acts that don't take it, so a take with a free slot gives it
pub returns-clause-taken : goal.returns-clause-taken
returns-clause-taken c = λ pool worker slot desk taker free packet acts stands met none is empty.
    taken_off (after_acts acts (perform pool worker (Offer slot desk)).1) taker desk free packet
    (offered_waits pool worker slot desk packet acts stands met none) is empty

pub returns-clause-back : goal.returns-clause-back
returns-clause-back c = given_back

-- the packet still lies there after such acts, but the taker has no slot for it
pub returns-clause-full : goal.returns-clause-full
returns-clause-full c = λ pool worker slot desk taker packet acts stands met none is full.
    take_is_refused (after_acts acts (perform pool worker (Offer slot desk)).1) taker desk packet
    (offered_waits pool worker slot desk packet acts stands met none) is full
