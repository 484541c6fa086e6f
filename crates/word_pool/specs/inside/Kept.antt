-- How a `WordWorker` is kept. No public clause cites this module.
use Rattle.std.specs.Prelude.{◌≡◌}
use Rattle.ground.specs.Seats.{Seated}
use Rattle.mbuf.specs.Members.{Member}
use Rattle.word_pool.specs.Workers.{WorkerState, IsIdle}
use Rattle.word_pool.specs.declared.worker.WordWorker.TheInside.{Inside}

abbrev pub worker_at : Seated → Member → WorkerState
worker_at seat packets = record { seat = seat; member = packets }

abbrev pub state_of : Inside → WorkerState
state_of w = worker_at w.seat w.packets

-- between its acts the worker is idle, and the number that it keeps is its part
pub record IsKept (w : Inside) : Type 0 where
  pub idle : IsIdle (state_of w)
  pub part : w.part ≡ w.seat.known.view.part
