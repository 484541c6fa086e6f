-- What pools left that were closed, with the shares of all their workers, and what is known of it.
use Rattle.std.specs.Prelude.{◌≡◌, ◌≤◌, ◌*◌, All, true, flat_map, length, map, List}
use Rattle.std.specs.List.{range_with_len}
use Rattle.commons.specs.Bounds.{IsPool}
use Rattle.commons.specs.Packets.{IsPacket}
use Rattle.commons.specs.declared.closed.Closed.{Closed}
use Rattle.commons.specs.declared.limits.Limits.{Limits}
use Rattle.commons.specs.declared.packet.Seg.{Seg}
use Rattle.mbuf.specs.Members.{Member}
use Rattle.mbuf.specs.Twins.{TwinMember}
use Rattle.pool_model.specs.Guests.{guests_by}
use Rattle.snapshot.specs.Closing.{snapshot_of}
use Rattle.snapshot.specs.Snapshots.{HasPacket, IsLawful, most_guests, most_places}
use Rattle.snapshot.specs.declared.snapshot.Snapshot.{Snapshot}
use Rattle.book.specs.declared.closed_twin.ClosedTwin.{ClosedTwin}
use Rattle.book.specs.TwinBooks.{AreTwins}

-- what the first of two pools leaves, with the shares of its workers: its guests are the bases of
-- the second one's packets
abbrev pub first_of : Limits → Closed → List TwinMember → Snapshot
first_of l closed members = record (snapshot_of l closed (map (λ m. m.first) members)) {
  guests = flat_map guests_by (map (λ m. m.second) members);
}

-- and what the second leaves: the bases of its packets are foreign
abbrev pub second_of : Limits → Closed → List TwinMember → Snapshot
second_of l closed members = record (snapshot_of l closed (map (λ m. m.second) members)) { foreign = true }

-- What stands in a slot of a share or lies on a desk is a packet, each place of a share has a
-- number, and the guests are no more than the packets of all workers may have bases. The types of
-- shares and desks keep this.
pub record AreOfPackets (s : Snapshot) : Type 0 where
  pub packets : (segs : List Seg) → HasPacket s segs → IsPacket segs
  pub places : All (λ share. length share.slots ≤ most_places) s.shares
  pub few : length s.guests ≤ s.limits.workers * most_guests

-- lawful, given what the types of shares and desks keep
abbrev pub IsLawfulByTypes : Snapshot → Type 0
IsLawfulByTypes s = AreOfPackets s → IsLawful s

-- What a whole pool of these limits left at rest, with the shares of all its workers, from the first
-- to the last.
pub record IsLeftWhole (l : Limits) (c : Closed) (members : List Member) : Type 0 where
  pub range : IsPool l
  pub numbers : map (λ m. m.number) members ≡ range_with_len 1 l.workers
  pub lawful : IsLawfulByTypes (snapshot_of l c members)

-- What two whole pools left at rest, with the shares of all their workers.
pub record AreLeftWhole (c : ClosedTwin) : Type 0 where
  pub pools : AreTwins c.first_limits c.second_limits
  pub first_numbers : map (λ m. m.number) (map (λ m. m.first) c.shares.items) ≡ range_with_len 1 c.first_limits.workers
  pub second_numbers : map (λ m. m.number) (map (λ m. m.second) c.shares.items) ≡ range_with_len 1 c.second_limits.workers
  pub first_lawful : IsLawfulByTypes (first_of c.first_limits c.first c.shares.items)
  pub second_lawful : IsLawfulByTypes (second_of c.second_limits c.second c.shares.items)
