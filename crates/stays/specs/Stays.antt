-- Which packets stay.
use Rattle.std.specs.Prelude.{Bool, ◌&&◌, ◌==◌, nat_eq, ◌≡◌, List, ◌++◌, Contains, map, filter}
use Rattle.std.specs.Cmp.Lexicographic.{pointwise}
use Rattle.std.specs.List.{list_any}
use Rattle.std.specs.Option.{option_eq}
use Rattle.commons.specs.declared.packet.Seg.{Seg}
use Rattle.pool_statement.specs.declared.statement.DeskPacket.{DeskPacket}
use Rattle.pool_statement.specs.declared.statement.PlacedPacket.{PlacedPacket}
use Rattle.pool_statement.specs.declared.statement.Statement.{Statement}
use Rattle.stays.specs.declared.used.Part.{Part}
use Rattle.stays.specs.declared.used.Place.TheVariants.{Slot, Desk}
use Rattle.stays.specs.declared.used.Used.{Used}

-- a segment as its elements: its own, and its base
abbrev pub part_of : Seg → Part
part_of seg = record { elem = seg.elem; base = seg.base }

-- a worker's packet, and one on a desk
abbrev pub slot_use : PlacedPacket → Used
slot_use p = record { place = Slot p.worker p.slot; parts = map part_of p.segs }

abbrev pub desk_use : DeskPacket → Used
desk_use p = record { place = Desk p.desk; parts = map part_of p.segs }

-- the packets in use: those of workers, and then those on desks
abbrev pub used_in : Statement → List Used
used_in s = map slot_use s.packets ++ map desk_use s.desks

-- whether two segments have the same elements
abbrev pub same_part : Part → Part → Bool
same_part one other = one.elem == other.elem && option_eq nat_eq one.base other.base

-- whether one of these packets has these segments
abbrev pub has_parts : List Used → List Part → Bool
has_parts used parts = list_any (λ one. pointwise same_part parts one.parts) used

-- the packets of the newer statement whose segments a packet of the older one has
abbrev pub stays_between : Statement → Statement → List Used
stays_between newer older = filter (λ one. has_parts (used_in older) one.parts) (used_in newer)

-- a packet of a statement has these segments
abbrev pub IsUsedIn : Statement → List Part → Type 0
IsUsedIn s parts = (packet : Used) × Contains (used_in s) packet × (packet.parts ≡ parts)
