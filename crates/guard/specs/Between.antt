-- What holds of a guarded worker within a call. No public clause cites this module.
use Rattle.std.specs.Prelude.{◌≡◌, ℕ, ◌<◌, ◌≤◌, false, length, get_or}
use Rattle.commons.specs.Bag.{bag, one}
use Rattle.depot.specs.Racks.{Racked}
use Rattle.depot.specs.Resting.{IsNumber, is_marked}
use Rattle.depot.specs.Seats.{Site, lent}
use Rattle.guard.specs.Guards.{IsGuard, IsGuarded, Counted, resting_of}
use Rattle.guard.specs.Keeping.{Keep, Takes}
use Rattle.guard.specs.declared.worker.GuardWorker.{GuardWorker}

-- all that holds of a worker between calls, but that nothing is in its hand outside of its magazines
pub record Body (g : Site) (w : GuardWorker) : Type 0 where
  pub guarded : IsGuarded g
  pub racked : Racked g w.rack
  pub number : IsNumber (resting_of w) w.number
  pub some : 0 < w.number
  pub listed : (i : ℕ) → bag w.kept.items i ≡ bag (resting_of w).listed i
  pub within : (i : ℕ) → g.population ≤ i → bag w.kept.items i ≡ 0
  pub size : length w.marks ≡ g.population
  pub marks : (i : ℕ) → i < g.population → get_or w.marks i false ≡ is_marked (resting_of w) i
  pub counted : Counted w.count (resting_of w)

-- an entry has left its list, which its seat has there still
pub record Lacks (g : Site) (e : ℕ) (w : GuardWorker) : Type 0 where
  pub keep : Keep
  pub takes : Takes e keep w.kept
  pub was : IsGuard g (record w { kept = keep })

-- an element is in its hand, outside of its magazines
pub record Holds (g : Site) (e : ℕ) (w : GuardWorker) : Type 0 where
  pub body : Body g w
  pub inside : e < g.population
  pub held : (i : ℕ) → lent w.rack.seat.me i ≡ one e i
