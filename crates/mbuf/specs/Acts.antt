-- What each act does with a worker's packets, and what is replied.
use Rattle.std.specs.Prelude.{ℕ, ◌≡◌, ◌≤◌, length, map, List, [], slice_index_or, Option, Some, None, Result, Ok, Err}
use Rattle.commons.specs.declared.packet.Seg.{Seg}
use Rattle.commons.specs.declared.refusal.Refusal.{Refusal}
use Rattle.commons.specs.declared.refusal.Refusal.TheVariants.{NoSuchPacket, NoRoom, TooShort}
use Rattle.commons.specs.Calls.{Call}
use Rattle.mempool.specs.Caches.{Flushes}
use Rattle.mempool.specs.declared.put.Put.{Put}
use Rattle.mbuf.specs.Lengths.{appended, prepended, adjusted, trimmed}
use Rattle.commons.specs.Packets.{no_seg, own_in_slot, pkt_len}
use Rattle.mbuf.specs.Members.{Member, slots}
use Rattle.mbuf.specs.PacketRules.{Allocs, AllocsBulk, Frees, Resizes, Chains, of_packet}
use Rattle.mbuf.specs.Desks.{Offers, Takes}
use Rattle.mbuf.specs.Sharing.{Attaches, Clones, CountsOf, Detaches}
use Rattle.mbuf.specs.declared.acts.Act.{Act}
use Rattle.mbuf.specs.declared.acts.Act.TheVariants as act
use Rattle.mbuf.specs.declared.acts.NewPacket.{NewPacket}
use Rattle.mbuf.specs.declared.acts.Answer.{Answer}
use Rattle.mbuf.specs.declared.acts.Answer.TheVariants as reply
use Rattle.mbuf.specs.declared.freed.Freed.{Freed}

-- an answer with room for any bulk
abbrev pub Reply : Type 0
Reply = Answer slots

-- an answer as one with room for any bulk
abbrev pub as_reply : {room : ℕ} → Answer room → Reply
as_reply (reply.Allocated slot elem) = reply.Allocated slot elem
as_reply (reply.Bulk packets) = reply.Bulk packets
as_reply (reply.Freed done) = reply.Freed done
as_reply reply.Attached = reply.Attached
as_reply (reply.Cloned slot elems) = reply.Cloned slot elems
as_reply reply.Offered = reply.Offered
as_reply (reply.Taken slot segs len) = reply.Taken slot segs len
as_reply (reply.Count count) = reply.Count count
as_reply (reply.Len len) = reply.Len len
as_reply (reply.Segs segs) = reply.Segs segs
as_reply (reply.Chained segs len) = reply.Chained segs len
as_reply (reply.Put put) = reply.Put put
as_reply (reply.Refused cause) = reply.Refused cause

-- an answer with this room can tell of the act: where it is a bulk that may succeed, of all its
-- packets
abbrev pub HasRoom : ℕ → Act → Type 0
HasRoom room (act.AllocBulk n) = n ≤ slots → n ≤ room
HasRoom room _ = Unit {0}

-- the own element of the first segment of what is in a slot
abbrev pub first_elem : Option (List Seg) → ℕ
first_elem None = 0
first_elem (Some segs) = (slice_index_or segs 0 no_seg).elem

-- the slot of a new packet and its element
abbrev pub new_packet : List (Option (List Seg)) → ℕ → NewPacket
new_packet table slot = record { slot = slot; elem = first_elem (slice_index_or table slot None) }

-- the reply to an alloc, by its answer and the table afterwards
abbrev pub allocated : Result ℕ Refusal → List (Option (List Seg)) → Reply
allocated (Ok slot) table = reply.Allocated slot (first_elem (slice_index_or table slot None))
allocated (Err cause) table = reply.Refused cause

abbrev pub allocated_bulk : Result (List ℕ) Refusal → List (Option (List Seg)) → Reply
allocated_bulk (Ok slots) table = reply.Bulk (record { items = map (new_packet table) slots })
allocated_bulk (Err cause) table = reply.Refused cause

abbrev pub freed : Result Freed Refusal → Reply
freed (Ok done) = reply.Freed done
freed (Err cause) = reply.Refused cause

-- a length in bytes, a number of segments
abbrev pub told_len : Result ℕ Refusal → Reply
told_len (Ok len) = reply.Len len
told_len (Err cause) = reply.Refused cause

abbrev pub told_segs : Result ℕ Refusal → Reply
told_segs (Ok segs) = reply.Segs segs
told_segs (Err cause) = reply.Refused cause

-- how many segments what is in a slot has, and how long it is
abbrev pub told_both : Option (List Seg) → Reply
told_both None = reply.Refused NoSuchPacket
told_both (Some segs) = reply.Chained (length segs) (pkt_len segs)

-- the reply to a chain, by its answer and what is in the head's slot afterwards
abbrev pub chained : Result (Unit {0}) Refusal → Option (List Seg) → Reply
chained (Ok _) slot = told_both slot
chained (Err cause) slot = reply.Refused cause

abbrev pub attached : Result (Unit {0}) Refusal → Reply
attached (Ok _) = reply.Attached
attached (Err cause) = reply.Refused cause

-- the reply to a clone, by its answer and the table afterwards
abbrev pub cloned : Result ℕ Refusal → List (Option (List Seg)) → Reply
cloned (Ok slot) table =
    reply.Cloned slot (record { items = own_in_slot (slice_index_or table slot None) })
cloned (Err cause) table = reply.Refused cause

abbrev pub offered : Result (Unit {0}) Refusal → Reply
offered (Ok _) = reply.Offered
offered (Err cause) = reply.Refused cause

-- how many segments the packet in a slot has, and how long it is
abbrev pub told_taken : ℕ → Option (List Seg) → Reply
told_taken slot None = reply.Refused NoSuchPacket
told_taken slot (Some segs) = reply.Taken slot (length segs) (pkt_len segs)

-- the reply to a take, by its answer and the table afterwards
abbrev pub taken : Result ℕ Refusal → List (Option (List Seg)) → Reply
taken (Ok slot) table = told_taken slot (slice_index_or table slot None)
taken (Err cause) table = reply.Refused cause

abbrev pub told_count : Result ℕ Refusal → Reply
told_count (Ok count) = reply.Count count
told_count (Err cause) = reply.Refused cause

-- what an act does: the calls that are made on the shared pool with their answers, the reply, and
-- what the worker has afterwards
abbrev pub Performs : Act → Member → List Call → Reply → Member → Type 0
Performs act.Alloc m calls r after =
    (answer : Result ℕ Refusal) × Allocs m calls answer after × (r ≡ allocated answer after.table)
Performs (act.AllocBulk n) m calls r after =
    (answer : Result (List ℕ) Refusal) × AllocsBulk m n calls answer after
    × (r ≡ allocated_bulk answer after.table)
Performs (act.Free p) m calls r after =
    (answer : Result Freed Refusal) × Frees m p calls answer after × (r ≡ freed answer)
Performs (act.Append p n) m calls r after =
    (answer : Result ℕ Refusal) × Resizes (appended n) NoRoom m p answer after × (calls ≡ [])
    × (r ≡ told_len answer)
Performs (act.Prepend p n) m calls r after =
    (answer : Result ℕ Refusal) × Resizes (prepended n) NoRoom m p answer after × (calls ≡ [])
    × (r ≡ told_len answer)
Performs (act.Adj p n) m calls r after =
    (answer : Result ℕ Refusal) × Resizes (adjusted n) TooShort m p answer after × (calls ≡ [])
    × (r ≡ told_len answer)
Performs (act.Trim p n) m calls r after =
    (answer : Result ℕ Refusal) × Resizes (trimmed n) TooShort m p answer after × (calls ≡ [])
    × (r ≡ told_len answer)
Performs (act.Chain head tail) m calls r after =
    (answer : Result (Unit {0}) Refusal) × Chains m head tail answer after × (calls ≡ [])
    × (r ≡ chained answer (slice_index_or after.table head None))
Performs (act.Attach mi target) m calls r after =
    (answer : Result (Unit {0}) Refusal) × Attaches m mi target calls answer after
    × (r ≡ attached answer)
Performs (act.Detach p) m calls r after =
    (answer : Result Freed Refusal) × Detaches m p calls answer after × (r ≡ freed answer)
Performs (act.ClonePacket p) m calls r after =
    (answer : Result ℕ Refusal) × Clones m p calls answer after × (r ≡ cloned answer after.table)
Performs (act.Offer p desk) m calls r after =
    (answer : Result (Unit {0}) Refusal) × Offers m p desk calls answer after × (r ≡ offered answer)
Performs (act.Take desk) m calls r after =
    (answer : Result ℕ Refusal) × Takes m desk calls answer after × (r ≡ taken answer after.table)
Performs (act.CountOf p) m calls r after =
    (answer : Result ℕ Refusal) × CountsOf (slice_index_or m.table p None) calls answer
    × (after ≡ m) × (r ≡ told_count answer)
Performs (act.PktLen p) m calls r after =
    (after ≡ m) × (calls ≡ []) × (r ≡ told_len (of_packet pkt_len (slice_index_or m.table p None)))
Performs (act.NbSegs p) m calls r after =
    (after ≡ m) × (calls ≡ []) × (r ≡ told_segs (of_packet length (slice_index_or m.table p None)))
Performs act.Flush m calls r after =
    (put : Put) × Flushes m.cache calls put after.cache × (after ≡ record m { cache = after.cache })
    × (r ≡ reply.Put put)
