-- Two closed pools with the shares in their book, and why they aren't settled.
use Rattle.std.specs.Prelude.{true, flat_map}
use Rattle.commons.specs.declared.closed.Closed.{Closed}
use Rattle.pool_model.specs.Guests.{guests_by}
use Rattle.snapshot.specs.Faults.{IsFirstFault}
use Rattle.snapshot.specs.Snapshots.{IsLawful}
use Rattle.snapshot.specs.declared.snapshot.Snapshot.{Snapshot}
use Rattle.book.specs.declared.twin_settling.TwinUnsettled.{TwinUnsettled}
use Rattle.book.specs.declared.twin_settling.TwinUnsettled.TheVariants.{MissingShare, OutOfMemory, First, Second}
use Rattle.book.specs.Books.{IsFull, IsLeastMissing, shares_in}
use Rattle.book.specs.Left.{AreOfPackets}
use Rattle.book.specs.Settling.{snapshot_with}
use Rattle.book.specs.TwinPlaces.{TwinPlaces}

-- what the first pool leaves, with the shares in the book: its guests are the bases of the second
-- one's packets
abbrev pub first_with : TwinPlaces → Closed → Snapshot
first_with b closed = record (snapshot_with b.first closed) { guests = flat_map guests_by (shares_in b.second.places) }

-- and what the second leaves: the bases of its packets are foreign
abbrev pub second_with : TwinPlaces → Closed → Snapshot
second_with b closed = record (snapshot_with b.second closed) { foreign = true }

-- The worker that is named is the least one whose share isn't in the book. Only where no share is
-- missing, memory was refused, or the first pool has the fault that is named, and none before it;
-- or the first has none, and the second has the fault that is named, and none before it. Then what
-- stands as a packet there is one, and the guests are no more than packets may have bases.
abbrev pub IsTwinUnsettled : TwinPlaces → Closed → Closed → TwinUnsettled → Type 0
IsTwinUnsettled b one two (MissingShare w) = IsLeastMissing b.first w
IsTwinUnsettled b one two OutOfMemory = IsFull b.first
IsTwinUnsettled b one two (First f) =
    IsFull b.first × IsFirstFault (first_with b one) f × AreOfPackets (first_with b one)
IsTwinUnsettled b one two (Second f) =
    IsFull b.first × IsLawful (first_with b one) × IsFirstFault (second_with b two) f × AreOfPackets (second_with b two)
