-- What a look at each slot of a worker shows. No public clause cites this module.
use Rattle.std.specs.Prelude.{◌≡◌, length}
use Rattle.mbuf.specs.Members.{Member, slots}
use Rattle.snapshot.specs.inside.Checked.{HasPackets}

-- the table has all its slots, and what stands in them is packets
pub record HasPacketsInSlots (m : Member) : Type 0 where
  pub places : length m.table ≡ slots
  pub packets : HasPackets m.table
