-- What a pass over packets finds.
use Rattle.std.specs.Prelude.{List, Option, None, Some, All, Contains}
use Rattle.commons.specs.Packets.{IsPacket}
use Rattle.commons.specs.declared.packet.Seg.{Seg}
use Rattle.snapshot.specs.declared.snapshot.ShareData.{ShareData}

-- what stands at a place, where something does, is a packet
abbrev pub IsPacketIn : Option (List Seg) → Type 0
IsPacketIn None = Unit {0}
IsPacketIn (Some segs) = IsPacket segs

-- something stands there, and isn't a packet
abbrev pub IsOtherIn : Option (List Seg) → Type 0
IsOtherIn None = ⊥
IsOtherIn (Some segs) = ¬ (IsPacket segs)

-- what stands in a table, of slots or of desks, is packets
abbrev pub HasPackets : List (Option (List Seg)) → Type 0
HasPackets table = All IsPacketIn table

-- something in the table isn't a packet
abbrev pub HasOther : List (Option (List Seg)) → Type 0
HasOther table = (place : Option (List Seg)) × Contains table place × IsOtherIn place

-- the same of the slots of shares
abbrev pub HavePackets : List ShareData → Type 0
HavePackets shares = All (λ share. HasPackets share.slots) shares

abbrev pub HaveOther : List ShareData → Type 0
HaveOther shares = (share : ShareData) × Contains shares share × HasOther share.slots
