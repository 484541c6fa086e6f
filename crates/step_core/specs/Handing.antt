-- What is put into a desk's slot, and what comes out.
use Rattle.std.specs.Prelude.{◌≡◌, ℕ, ◌==◌, if◌then◌else◌, List, [], ◌∷◌, Option, Some}
use Rattle.step_core.specs.World.{World, Packet, desk_at}
use Rattle.step_core.specs.Steps.{Step, PutIn, TakeOut, Outcome, Found, play}
use Rattle.step_core.specs.Kept.{IsWorld}
use Rattle.step_core.specs.Schedules.{Schedule}
use Rattle.step_core.specs.Runs.{Reaches}

-- the packet that was put into desk d last, after this step, where it was p before
abbrev pub put_by : ℕ → Step → Option Packet → Option Packet
put_by d (PutIn e q) p = if e == d then Some q else p
put_by d _ p = p

-- the same after these steps
abbrev pub put_last : ℕ → Schedule → Option Packet → Option Packet
put_last d [] p = p
put_last d (x ∷ rest) p = put_last d rest (put_by d x.1 p)

-- Over every schedule, a TakeOut gives the packet that the last PutIn brought to its desk, by any
-- worker; where the schedule has none, the one that was in the desk's slot before.
abbrev pub GivesWhatWasPutIn : Type 0
GivesWhatWasPutIn =
    (w : World) (schedule : Schedule) (os : List Outcome) (u : World) (taker d : ℕ) (q : Packet)
    (v : World) → IsWorld w → Reaches w schedule os u →
    play u taker (TakeOut d) ≡ Some (Found q, v) →
    put_last d schedule (desk_at w.desks d).slot ≡ Some q
