-- What the types of shares and desks keep of a snapshot.
use Rattle.std.proofs.Common.{◌≡◌, ◌≤◌, ◌⊎◌, inl, inr, List, length, Some, Result, Ok, Err, arith}
use Rattle.std.specs.Prelude.{All, IfErr}
use Rattle.std.proofs.lemmas.List.Elements.{All-contains, All-weaker}
use Rattle.commons.specs.Packets.{IsPacket}
use Rattle.commons.specs.declared.packet.Seg.{Seg}
use Rattle.mbuf.specs.Members.{slots}
use Rattle.pool_statement.specs.declared.statement.Statement.{Statement}
use Rattle.snapshot.specs.declared.fault.Fault.{Fault}
use Rattle.snapshot.specs.declared.fault.Fault.TheVariants.{OutOfMemory}
use Rattle.snapshot.specs.declared.snapshot.ShareData.{ShareData}
use Rattle.snapshot.specs.declared.snapshot.Snapshot.{Snapshot}
use Rattle.snapshot.specs.Faults.{IsFirstFault}
use Rattle.snapshot.specs.Snapshots.{HasPacket, most_places}
use Rattle.snapshot.specs.inside.Checked.{HasPackets, HavePackets, IsPacketIn}
use Rattle.book.specs.Left.{AreOfPackets}

-- what stands in slots and lies on desks
pub packets_there : (s : Snapshot) → HasPackets s.desks → HavePackets s.shares → (segs : List Seg) → HasPacket s segs →
    IsPacket segs
packets_there s desks tables segs (inl lies) = All-contains IsPacketIn s.desks (Some segs) desks lies
packets_there s desks tables segs (inr stands) =
    All-contains IsPacketIn stands.0.slots (Some segs)
    (All-contains (λ (share : ShareData). HasPackets share.slots) s.shares stands.0 tables stands.1) stands.2

-- places that are the slots of a worker's table have numbers
pub numbered_places : (shares : List ShareData) → All (λ (share : ShareData). length share.slots ≡ slots) shares →
    All (λ (share : ShareData). length share.slots ≤ most_places) shares
numbered_places shares full =
    All-weaker (λ (share : ShareData). length share.slots ≡ slots) (λ share. length share.slots ≤ most_places)
    (λ share is. omega (arith, is)) shares full

-- beside the first fault that is named
pub also_typed : (r : Result Statement Fault) (s : Snapshot) → AreOfPackets s →
    IfErr r (λ f. (f ≡ OutOfMemory) ⊎ IsFirstFault s f) →
    IfErr r (λ f. (f ≡ OutOfMemory) ⊎ (IsFirstFault s f × AreOfPackets s))
also_typed (Ok s) snapshot typed h = tt
also_typed (Err f) snapshot typed (inl none) = inl none
also_typed (Err f) snapshot typed (inr first) = inr (first, typed)
