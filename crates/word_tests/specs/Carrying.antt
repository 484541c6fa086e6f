-- What holds of a worker who carries a packet.
use Rattle.std.specs.Prelude.{◌≤◌, ℕ, List, Option}
use Rattle.commons.specs.Bag.{bag}
use Rattle.commons.specs.Packets.{holds_in_slot, own_in_slot}
use Rattle.commons.specs.declared.packet.Seg.{Seg}
use Rattle.ground.specs.Seats.{Seated}

-- the worker of this seat holds what the packet holds, if there is one, and its own elements are
-- headers of the worker
pub record Carries (packet : Option (List Seg)) (s : Seated) : Type 0 where
  pub held : (i : ℕ) → bag (holds_in_slot packet) i ≤ bag s.known.view.holds i
  pub own : (i : ℕ) → bag (own_in_slot packet) i ≤ bag s.known.view.headers i
