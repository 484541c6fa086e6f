-- What two pools leave is packets, once each slot and each desk was looked at.
use Rattle.std.proofs.Common.{ℕ, ◌≡◌, ◌*◌, ◌≤◌, List, [], length, map, Option, Some, None, ◌∙◌, arith}
use Rattle.std.specs.Prelude.{All, flat_map}
use Rattle.std.proofs.lemmas.List.{length-map}
use Rattle.std.proofs.lemmas.List.Concat.{length-flat_map}
use Rattle.std.proofs.lemmas.List.Elements.{All-map, All-nil, All-same, All-weaker}
use Rattle.std.proofs.lemmas.List.Sums.{sum_by-le}
use Rattle.commons.specs.declared.packet.Seg.{Seg}
use Rattle.commons.specs.Packets.{hold_of, max_segs}
use Rattle.mbuf.specs.Members.{Member, slots}
use Rattle.mbuf.specs.Twins.{TwinMember}
use Rattle.pool_model.specs.Guests.{guest_of, guests_by, guests_for, guests_in_slot}
use Rattle.snapshot.specs.Closing.{share_of}
use Rattle.snapshot.specs.declared.snapshot.ShareData.{ShareData}
use Rattle.snapshot.specs.inside.Checked.{HasPackets, HavePackets, IsPacketIn}
use Rattle.snapshot.specs.Snapshots.{most_guests}
use Rattle.book.specs.Left.{AreOfPackets}
use Rattle.book.proofs.Typed.{numbered_places, packets_there}
use Rattle.share_book.specs.TwinSites.{TwinLists, first_snapshot, second_snapshot}
use Rattle.share_book.specs.inside.Looks.{HasPacketsInSlots}
use Rattle.share_book.specs.inside.TwinSite.{AreTables}
use Rattle.share_book.proofs.TwinPools.{firsts, no_desks, seconds}

-- ---- a worker has no more guests than the packets of a table have segments

-- lists end to end, each with no more than n, are no longer than n for each
few_in_all : {X Y : Type 0} (f : X → List Y) (n : ℕ) (xs : List X) →
    All (λ x. length (f x) ≤ n) xs → length (flat_map f xs) ≤ length xs * n
few_in_all f n xs few = rw (length-flat_map f xs) (sum_by-le (λ x. length (f x)) n xs few)

-- a segment has one base at most
one_base : (worker : ℕ) (base : Option ℕ) → length (map (guest_of worker) (hold_of base)) ≤ 1
one_base worker None = omega arith
one_base worker (Some e) = omega arith

-- so a packet has as many as it has segments, at most
few_for : (worker : ℕ) (segs : List Seg) → length (guests_for worker segs) ≤ length segs
few_for worker segs =
    let bases : length (guests_for worker segs) ≤ length segs * 1 =
    few_in_all (λ (seg : Seg). map (guest_of worker) (hold_of seg.base)) 1 segs
    (λ k d l. one_base worker _) in
    omega (arith, bases)

-- and what stands in a slot as many as a packet has segments, at most
few_in_slot : (worker : ℕ) (place : Option (List Seg)) → IsPacketIn place →
    length (guests_in_slot worker place) ≤ max_segs
few_in_slot worker None packet = omega arith
few_in_slot worker (Some segs) packet = omega (arith, few_for worker segs, packet.few)

few_by : (m : Member) → HasPacketsInSlots m → length (guests_by m) ≤ most_guests
few_by m seen =
    let guests : length (guests_by m) ≤ length m.table * 32 =
    few_in_all (guests_in_slot m.number) 32 m.table
    (All-weaker IsPacketIn (λ place. length (guests_in_slot m.number place) ≤ 32) (few_in_slot m.number)
    m.table seen.packets) in
    omega (arith, guests, seen.places)

-- ---- workers whose slots were looked at

module _ (members : List Member) (seen : All HasPacketsInSlots members) where
  -- their shares have packets alone in their slots
  shares_typed : HavePackets (map share_of members)
  shares_typed =
      All-map (λ (share : ShareData). HasPackets share.slots) share_of members
      (All-weaker HasPacketsInSlots (λ m. HasPackets m.table) (λ m one. one.packets) members seen)

  -- and all slots of a table
  shares_full : All (λ (share : ShareData). length share.slots ≡ slots) (map share_of members)
  shares_full =
      All-map (λ (share : ShareData). length share.slots ≡ slots) share_of members
      (All-weaker HasPacketsInSlots (λ m. length m.table ≡ slots) (λ m one. one.places) members
      seen)

  -- they have no more guests than the packets of as many tables have segments
  few_guests : length (flat_map guests_by members) ≤ length members * most_guests
  few_guests =
      few_in_all guests_by most_guests members
      (All-weaker HasPacketsInSlots (λ m. length (guests_by m) ≤ most_guests) few_by members seen)

-- ---- the two pools

module _ (s : TwinLists) (t : AreTables s) where
  -- the first leaves packets, and guests for those of the second
  pub first_typed : HasPackets s.first.desks → All (λ m. HasPacketsInSlots m.first) s.members →
      All (λ m. HasPacketsInSlots m.second) s.members → AreOfPackets (first_snapshot s)
  first_typed desks first second =
      let left = first_snapshot s in
      let members = All-map HasPacketsInSlots (λ (m : TwinMember). m.first) s.members first in
      let others = All-map HasPacketsInSlots (λ (m : TwinMember). m.second) s.members second in
      let guests = few_guests (seconds s.members) others in
      let workers : length (seconds s.members) ≡ s.first.limits.workers =
      length-map s.members (λ (m : TwinMember). m.second) ∙ t.workers in record {
        packets = packets_there left desks (shares_typed (firsts s.members) members);
        places = numbered_places left.shares (shares_full (firsts s.members) members);
        few = omega (arith, guests, workers);
      }

  -- and so does the second, which has no desks and no guests
  pub second_typed : All (λ m. HasPacketsInSlots m.second) s.members →
      AreOfPackets (second_snapshot s)
  second_typed second =
      let left = second_snapshot s in
      let members = All-map HasPacketsInSlots (λ (m : TwinMember). m.second) s.members second in
      let desks : HasPackets s.second.desks =
      All-same IsPacketIn s.second.desks [] (no_desks s t) (All-nil IsPacketIn) in record {
        packets = packets_there left desks (shares_typed (seconds s.members) members);
        places = numbered_places left.shares (shares_full (seconds s.members) members);
        few = omega arith;
      }
