-- How an `OwnWorker` is kept. No public clause cites this module.
use Rattle.std.specs.Prelude.{◌≡◌}
use Rattle.word_pool.specs.Workers.{IsAt}
use Rattle.mbufpool_c.specs.Labelled.{Labelled}
use Rattle.mbufpool_c.specs.declared.workers.OwnWorker.TheInside.{Inside}

abbrev pub labelled_of : Inside → Labelled
labelled_of w = record { worker = w.worker; labels = w.labels }

-- the worker is of the ground that it shares, and has its number
abbrev pub IsKept : Inside → Type 0
IsKept w = IsAt w.shared.value w.worker × (w.number ≡ w.worker.member.number)
