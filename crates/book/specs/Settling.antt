-- A closed pool with the shares in its book, and why it isn't settled.
use Rattle.commons.specs.declared.closed.Closed.{Closed}
use Rattle.snapshot.specs.Closing.{snapshot_of}
use Rattle.snapshot.specs.Faults.{IsFirstFault}
use Rattle.snapshot.specs.declared.snapshot.Snapshot.{Snapshot}
use Rattle.book.specs.declared.settling.Unsettled.{Unsettled}
use Rattle.book.specs.declared.settling.Unsettled.TheVariants.{MissingShare, OutOfMemory, Fault}
use Rattle.book.specs.Books.{IsFull, IsLeastMissing, shares_in}
use Rattle.book.specs.Left.{AreOfPackets}
use Rattle.book.specs.Places.{Places}

-- what a pool leaves, with the shares in its book
abbrev pub snapshot_with : Places → Closed → Snapshot
snapshot_with b closed = snapshot_of b.limits closed (shares_in b.places)

-- The worker that is named is the least one whose share isn't in the book. Only where no share is
-- missing, memory was refused, or the pool has the fault that is named, and none before it. Then what
-- stands as a packet there is one.
abbrev pub IsUnsettled : Places → Closed → Unsettled → Type 0
IsUnsettled b closed (MissingShare w) = IsLeastMissing b w
IsUnsettled b closed OutOfMemory = IsFull b
IsUnsettled b closed (Fault f) =
    IsFull b × IsFirstFault (snapshot_with b closed) f × AreOfPackets (snapshot_with b closed)
