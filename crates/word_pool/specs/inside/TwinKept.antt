-- How a `WordTwin` is kept. No public clause cites this module.
use Rattle.ground.specs.Seats.{Seated}
use Rattle.mbuf.specs.Twins.{TwinMember}
use Rattle.word_pool.specs.TwinWorkers.{TwinState, IsTwinIdle}
use Rattle.word_pool.specs.declared.twin_worker.WordTwin.TheInside.{Inside}

abbrev pub twin_at : Seated → Seated → TwinMember → TwinState
twin_at first second twin = record { first = first; second = second; member = twin }

abbrev pub twin_state_of : Inside → TwinState
twin_state_of w = twin_at w.seats.first w.seats.second w.twin

-- between its acts the worker is idle
abbrev pub IsTwinKept : Inside → Type 0
IsTwinKept w = IsTwinIdle (twin_state_of w)
