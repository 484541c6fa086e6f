use Rattle.std.proofs.Common.{◌≡◌, ◌+◌, ◌*◌, ◌≤◌, ◌++◌, length, take}
use Rattle.std.specs.Prelude.{flat_map}
use Rattle.commons.specs.Packets.{max_segs}
use Rattle.pool_model.specs.Guests.{guests_in_slot}
use Rattle.book.proofs.guests.add_guests.Given as goal

-- the guests for the slots so far are added, for each no more than a packet may have bases
abbrev pub invariant-loop-number : goal.invariant-loop-number
invariant-loop-number l = record {
  more : l.guests.items ≡ l.fn.guests.items ++ flat_map (guests_in_slot l.worker) (take l.number l.packets.table);
  few : length l.guests.items ≤ length l.fn.guests.items + l.number * max_segs;
}
