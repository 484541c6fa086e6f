-- The reference model of a worker's packets.
use Rattle.std.specs.Prelude.{ℕ, ◌-◌, ◌&&◌, nat_lt, nat_le, if◌then◌else◌, List, [], ◌∷◌, length, take, slice_index_or, slice_set, Option, Some, None, Result, Ok, Err}
use Rattle.commons.specs.declared.packet.Seg.{Seg}
use Rattle.commons.specs.declared.refusal.Refusal.{Refusal}
use Rattle.commons.specs.declared.refusal.Refusal.TheVariants.{DeskEmpty, DeskTaken, NoEntries, NoRoom, NoSuchDesk, NoSuchPacket, PacketsFull, StrangerShare, TooShort}
use Rattle.mempool.specs.declared.put.Put.{Put}
use Rattle.mbuf.specs.declared.acts.Act.{Act}
use Rattle.mbuf.specs.declared.acts.Act.TheVariants.{Alloc, AllocBulk, Free, Append, Prepend, Adj, Trim, Chain, Attach, Detach, ClonePacket, Offer, Take, CountOf, PktLen, NbSegs, Flush}
use Rattle.mbuf.specs.Acts.{chained, Reply}
use Rattle.mbuf.specs.declared.acts.Answer.TheVariants as reply
use Rattle.mbuf.specs.Acts.{chained, allocated_bulk, told_len, told_segs}
use Rattle.mbuf.specs.Lengths.{appended, prepended, adjusted, trimmed}
use Rattle.commons.specs.Packets.{holds_in_slot, pkt_len}
use Rattle.mbuf.specs.Members.{Member}
use Rattle.mbuf.specs.PacketRules.{chain, resize, fresh_seg, free_slot, free_slots, stood, freed_nothing, of_packet}
use Rattle.pool_model.specs.Pool.{Shared, Pool, held_of, member_at, with_member}
use Rattle.pool_model.specs.CacheModel.{get, flush}
use Rattle.pool_model.specs.HoldModel.{end_holds}
use Rattle.pool_model.specs.SharingModel.{attach, clone, count, detach}

-- A get of one element fills the slot. (A get that succeeds gives as many elements as were asked
-- for, so its list isn't empty.)
abbrev pub fill_slot : ℕ → Member → Result (List ℕ) Refusal × List ℕ × Shared → Reply × Member × Shared
fill_slot slot m (Ok [], cache, s) = (reply.Refused NoEntries, m, s)
fill_slot slot m (Ok (e ∷ _), cache, s) =
    (reply.Allocated slot e, record m { cache = cache; table = slice_set m.table slot (Some (fresh_seg m.limits e ∷ [])) }, s)
fill_slot slot m (Err cause, cache, s) = (reply.Refused cause, record m { cache = cache }, s)

abbrev pub alloc_in : Option ℕ → Member → Shared → Reply × Member × Shared
alloc_in None m s = (reply.Refused PacketsFull, m, s)
alloc_in (Some slot) m s = fill_slot slot m (get m.limits 1 m.cache s)

abbrev pub alloc : Member → Shared → Reply × Member × Shared
alloc m s = alloc_in (free_slot m.table) m s

-- a get of several elements fills this many slots
abbrev pub fill_slots : List ℕ → Member → Result (List ℕ) Refusal × List ℕ × Shared → Reply × Member × Shared
fill_slots slots m (Ok es, cache, s) =
    (allocated_bulk (Ok slots) (stood m.limits es slots m.table), record m { cache = cache; table = stood m.limits es slots m.table }, s)
fill_slots slots m (Err cause, cache, s) = (reply.Refused cause, record m { cache = cache }, s)

-- the lowest free slots are filled in the order of the get, where there are that many
abbrev pub alloc_bulk : ℕ → Member → Shared → Reply × Member × Shared
alloc_bulk n m s =
    if nat_lt (length (free_slots m.table)) n then (reply.Refused PacketsFull, m, s)
    else fill_slots (take n (free_slots m.table)) m (get m.limits n m.cache s)

abbrev pub free_in : Option (List Seg) → (ℕ → ℕ) → ℕ → Member → Shared → Reply × Member × Shared
free_in None others slot m s = (reply.Refused NoSuchPacket, m, s)
free_in (Some segs) others slot m s =
    let done = end_holds m.limits others (holds_in_slot (Some segs)) (freed_nothing, m.cache, s) in
    (reply.Freed done.0, record m { cache = done.1; table = slice_set m.table slot None }, done.2)

-- others is how often other packets hold each element
abbrev pub free : (ℕ → ℕ) → ℕ → Member → Shared → Reply × Member × Shared
free others slot m s = free_in (slice_index_or m.table slot None) others slot m s

-- what changes a member alone leaves what is shared
abbrev pub beside : Shared → Reply × Member → Reply × Member × Shared
beside s done = (done.0, done.1, s)

-- so does a change of lengths, which tells the packet's new length
abbrev pub told_beside : Shared → Result ℕ Refusal × Member → Reply × Member × Shared
told_beside s done = beside s (told_len done.0, done.1)

-- and a chain, which tells of the head's packet as it is then
abbrev pub chained_beside : ℕ → Shared → Result (Unit {0}) Refusal × Member → Reply × Member × Shared
chained_beside head s done = beside s (chained done.0 (slice_index_or done.1.table head None), done.1)

-- a packet goes onto a desk that is empty, and leaves its slot
abbrev pub offer_onto : Option (List Seg) → List Seg → ℕ → ℕ → Member → Shared → Reply × Member × Shared
offer_onto (Some other) segs slot desk m s = (reply.Refused DeskTaken, m, s)
offer_onto None segs slot desk m s = (reply.Offered, record m { table = slice_set m.table slot None }, record s { desks = slice_set s.desks desk (Some segs) })

abbrev pub offer_in : Option (List Seg) → ℕ → ℕ → Member → Shared → Reply × Member × Shared
offer_in None slot desk m s = (reply.Refused NoSuchPacket, m, s)
offer_in (Some segs) slot desk m s =
    if nat_le (length s.desks) desk then (reply.Refused NoSuchDesk, m, s)
    else offer_onto (slice_index_or s.desks desk None) segs slot desk m s

abbrev pub offer : ℕ → ℕ → Member → Shared → Reply × Member × Shared
offer slot desk m s = offer_in (slice_index_or m.table slot None) slot desk m s

-- the packet of a desk goes into the slot
abbrev pub take_from : Option (List Seg) → ℕ → ℕ → Member → Shared → Reply × Member × Shared
take_from None slot desk m s = (reply.Refused DeskEmpty, m, s)
take_from (Some segs) slot desk m s =
    (reply.Taken slot (length segs) (pkt_len segs), record m { table = slice_set m.table slot (Some segs) }, record s { desks = slice_set s.desks desk None })

abbrev pub take_into : Option ℕ → ℕ → Member → Shared → Reply × Member × Shared
take_into None desk m s = (reply.Refused PacketsFull, m, s)
take_into (Some slot) desk m s = take_from (slice_index_or s.desks desk None) slot desk m s

abbrev pub take_off : ℕ → Member → Shared → Reply × Member × Shared
take_off desk m s =
    if nat_le (length s.desks) desk then (reply.Refused NoSuchDesk, m, s)
    else take_into (free_slot m.table) desk m s

-- a flush changes the worker's cache, and none of its packets
abbrev pub after_flush : Member → Put × List ℕ × Shared → Reply × Member × Shared
after_flush m done = (reply.Put done.0, record m { cache = done.1 }, done.2)

abbrev pub flush_member : Member → Shared → Reply × Member × Shared
flush_member m s = after_flush m (flush m.cache s)

-- the worker without the packet in this slot
abbrev pub without_packet : ℕ → Member → Member
without_packet slot m = record m { table = slice_set m.table slot None }

-- how often all packets but the one in a worker's slot hold each element, those on desks among them
abbrev pub held_elsewhere : Pool → ℕ → ℕ → ℕ → ℕ
held_elsewhere pool n slot i = held_of (slice_set pool.members n (without_packet slot (member_at pool n))) pool.shared.desks i

-- What a worker does. Of all packets of the pool, held is how often they hold each element, and
-- others slot how often those hold it that stay where the one in this slot is freed; most acts ask
-- for neither.
abbrev pub member_act : Act → (ℕ → ℕ) → (ℕ → ℕ → ℕ) → Member → Shared → Reply × Member × Shared
member_act Alloc held others m s = alloc m s
member_act (AllocBulk n) held others m s = alloc_bulk n m s
member_act (Free slot) held others m s = free (others slot) slot m s
member_act (Append slot n) held others m s = told_beside s (resize (appended n) NoRoom slot m)
member_act (Prepend slot n) held others m s = told_beside s (resize (prepended n) NoRoom slot m)
member_act (Adj slot n) held others m s = told_beside s (resize (adjusted n) TooShort slot m)
member_act (Trim slot n) held others m s = told_beside s (resize (trimmed n) TooShort slot m)
member_act (Chain head tail) held others m s = chained_beside head s (chain head tail m)
member_act (Attach mi target) held others m s = beside s (attach held mi target m)
member_act (Detach slot) held others m s = detach held slot m s
member_act (ClonePacket source) held others m s = clone held source m s
member_act (Offer slot desk) held others m s = offer slot desk m s
member_act (Take desk) held others m s = take_off desk m s
member_act (CountOf slot) held others m s = (count held slot m, m, s)
member_act (PktLen slot) held others m s = (told_len (of_packet pkt_len (slice_index_or m.table slot None)), m, s)
member_act (NbSegs slot) held others m s = (told_segs (of_packet length (slice_index_or m.table slot None)), m, s)
member_act Flush held others m s = flush_member m s

abbrev pub act_on : Pool → ℕ → Act → Reply × Member × Shared
act_on pool n act = member_act act (held_of pool.members pool.shared.desks) (held_elsewhere pool n) (member_at pool n) pool.shared

-- the reply to what a worker is asked to do, and the pool afterwards; a worker outside the pool
-- does nothing
abbrev pub perform : Pool → ℕ → Act → Reply × Pool
perform pool w act =
    if nat_le 1 w && nat_le w (length pool.members)
    then (let done = act_on pool (w - 1) act in (done.0, with_member pool (w - 1) done.1 done.2))
    else (reply.Refused StrangerShare, pool)

-- the pool once workers of these numbers have done these acts, one after another
abbrev pub after_acts : List (ℕ × Act) → Pool → Pool
after_acts [] pool = pool
after_acts (done ∷ more) pool = after_acts more (perform pool done.0 done.1).1
