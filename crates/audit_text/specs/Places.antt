-- Where an element stands in a snapshot, in order.
use Rattle.std.specs.Prelude.{ℕ, ◌+◌, ◌==◌, Bool, true, false, if◌then◌else◌, nat_le, not, List, [], ◌∷◌, ◌++◌, Option, None, Some, flat_map, length}
use Rattle.commons.specs.Packets.{max_segs}
use Rattle.commons.specs.declared.packet.Seg.{Seg}
use Rattle.audit_text.specs.declared.place.FreeList.{FreeList}
use Rattle.audit_text.specs.declared.place.FreeList.TheVariants.{Stack, Cache}
use Rattle.audit_text.specs.declared.place.Place.{Place}
use Rattle.audit_text.specs.declared.place.Place.TheVariants.{Free, Packet, Own, Base, Hosted}
use Rattle.audit_text.specs.declared.place.Table.{Table}
use Rattle.audit_text.specs.declared.place.Table.TheVariants.{Slots, Desks}
use Rattle.pool_statement.specs.declared.guest.Guest.{Guest}
use Rattle.snapshot.specs.declared.snapshot.ShareData.{ShareData}
use Rattle.snapshot.specs.declared.snapshot.Snapshot.{Snapshot}

-- the place, where it is one of those that are looked for
abbrev pub found : Bool → Place → List Place
found true place = place ∷ []
found false place = []

-- the places of an element in a free list, the first of which has this number
abbrev pub free_from : FreeList → ℕ → ℕ → List ℕ → List Place
free_from list e k [] = []
free_from list e k (x ∷ xs) = found (x == e) (Free list k) ++ free_from list e (k + 1) xs

-- that of a base which is the element, where bases are looked at
abbrev pub base_places : Bool → ℕ → Place → Option ℕ → List Place
base_places bases e place None = []
base_places false e place (Some base) = []
base_places true e place (Some base) = found (base == e) place

-- the places of an element in a segment
abbrev pub seg_places : Bool → ℕ → Table → ℕ → ℕ → Seg → List Place
seg_places bases e table i k seg =
    found (seg.elem == e) (Own table i k) ++ base_places bases e (Base table i k) seg.base

-- in the segments of a packet, the first of which has this number
abbrev pub segs_from : Bool → ℕ → Table → ℕ → ℕ → List Seg → List Place
segs_from bases e table i k [] = []
segs_from bases e table i k (seg ∷ segs) =
    seg_places bases e table i k seg ++ segs_from bases e table i (k + 1) segs

-- in what stands at a place of a table
abbrev pub packet_places : Bool → ℕ → Table → ℕ → Option (List Seg) → List Place
packet_places bases e table i None = []
packet_places bases e table i (Some segs) = segs_from bases e table i 0 segs

-- in a table, whose first place has this number
abbrev pub table_from : Bool → ℕ → Table → ℕ → List (Option (List Seg)) → List Place
table_from bases e table i [] = []
table_from bases e table i (packet ∷ packets) =
    packet_places bases e table i packet ++ table_from bases e table (i + 1) packets

-- in caches, in slots, and among guests
abbrev pub cached : ℕ → List ShareData → List Place
cached e shares = flat_map (λ share. free_from (Cache share.worker) e 0 share.cache) shares

abbrev pub slotted : Bool → ℕ → List ShareData → List Place
slotted bases e shares = flat_map (λ share. table_from bases e (Slots share.worker) 0 share.slots) shares

abbrev pub hosted : ℕ → List Guest → List Place
hosted e guests = flat_map (λ guest. found (guest.elem == e) (Hosted guest.worker)) guests

-- where an element is the own one of a segment: in slots by worker, and on desks
abbrev pub owners_of : Snapshot → ℕ → List Place
owners_of s e = slotted false e s.shares ++ table_from false e Desks 0 s.desks

-- Where an element stands: on this stack, in caches by worker, in packets in slots by worker and on
-- desks, as element or as base of this pool, and among guests.
abbrev pub places_on : List ℕ → Snapshot → ℕ → List Place
places_on stack s e =
    free_from Stack e 0 stack ++ cached e s.shares ++ slotted (not s.foreign) e s.shares
    ++ table_from (not s.foreign) e Desks 0 s.desks ++ hosted e s.guests

-- the data of a segment is within its buffer; that of all these is
abbrev pub fits : Seg → Bool
fits seg = nat_le (seg.data_off + seg.data_len) seg.buf_len

abbrev pub all_fit : List Seg → Bool
all_fit [] = true
all_fit (seg ∷ segs) = if fits seg then all_fit segs else false

-- segments make a packet
abbrev pub is_packet : List Seg → Bool
is_packet segs = if nat_le 1 (length segs) then (if nat_le (length segs) max_segs then all_fit segs else false) else false

-- the place of what stands there, where that is no packet
abbrev pub other_at : Table → ℕ → Option (List Seg) → List Place
other_at table i None = []
other_at table i (Some segs) = found (not (is_packet segs)) (Packet table i)

abbrev pub others_from : Table → ℕ → List (Option (List Seg)) → List Place
others_from table i [] = []
others_from table i (packet ∷ packets) = other_at table i packet ++ others_from table (i + 1) packets

-- the places of what is no packet, in slots by worker, and on desks
abbrev pub others_of : Snapshot → List Place
others_of s = flat_map (λ share. others_from (Slots share.worker) 0 share.slots) s.shares ++ others_from Desks 0 s.desks
