-- What a worker's calls do with its packets: for each case the calls that are made on the shared
-- pool with their answers, the answer, and what the worker has afterwards.
use Rattle.std.specs.Prelude.{ℕ, ◌≡◌, ◌+◌, ◌<◌, ◌≤◌, ◌==◌, nat_lt, if◌then◌else◌, min, length, is_none, map, position, take, List, [], ◌∷◌, ◌++◌, slice_index_or, slice_set, Option, Some, None, Result, Ok, Err}
use Rattle.commons.specs.declared.limits.Limits.{Limits}
use Rattle.commons.specs.declared.packet.Seg.{Seg}
use Rattle.commons.specs.declared.refusal.Lowered.TheVariants.{Last, Still}
use Rattle.commons.specs.declared.refusal.Refusal.{Refusal}
use Rattle.commons.specs.declared.refusal.Refusal.TheVariants.{PacketsFull, NoSuchPacket, SamePacket, TooManySegs}
use Rattle.commons.specs.Calls.{Call, Claim, Lower}
use Rattle.mempool.specs.Caches.{Gets, Puts}
use Rattle.mempool.specs.declared.put.Put.{Put}
use Rattle.mempool.specs.declared.put.Put.TheVariants.{Kept, Flushed, PutOff}
use Rattle.commons.specs.Packets.{holds_of_packet, max_segs, pkt_len}
use Rattle.mbuf.specs.Members.{Member}
use Rattle.mbuf.specs.declared.freed.Freed.{Freed}

-- the segment of a fresh packet
abbrev pub fresh_seg : Limits → ℕ → Seg
fresh_seg l e = record { elem = e; base = None; data_off = min 128 l.buf; data_len = 0; buf_len = l.buf }

-- the lowest free slot
abbrev pub free_slot : List (Option (List Seg)) → Option ℕ
free_slot table = position is_none table

-- the free slots ascending, the first slot of the table having this number
abbrev pub free_from : ℕ → List (Option (List Seg)) → List ℕ
free_from slot [] = []
free_from slot (None ∷ table) = slot ∷ free_from (slot + 1) table
free_from slot (Some segs ∷ table) = free_from (slot + 1) table

abbrev pub free_slots : List (Option (List Seg)) → List ℕ
free_slots table = free_from 0 table

-- the table once the fresh packets of these elements stand in these slots, one in each
abbrev pub stood : Limits → List ℕ → List ℕ → List (Option (List Seg)) → List (Option (List Seg))
stood l [] slots table = table
stood l (e ∷ es) [] table = table
stood l (e ∷ es) (slot ∷ slots) table =
    stood l es slots (slice_set table slot (Some (fresh_seg l e ∷ [])))

-- what an alloc does
pub data Allocs (m : Member) (calls : List Call) (answer : Result ℕ Refusal) (after : Member)
    : Type 0 where
  -- no slot is free: nothing is asked for
  Full :
      free_slot m.table ≡ None →
      calls ≡ [] →
      answer ≡ Err PacketsFull →
      after ≡ m →
      Allocs m calls answer after
  -- the cache's get of one element is refused
  NotGot :
      (slot : ℕ) →
      free_slot m.table ≡ Some slot →
      (cause : Refusal) →
      Gets m.limits m.cache 1 calls (Err cause) m.cache →
      answer ≡ Err cause →
      after ≡ m →
      Allocs m calls answer after
  -- the element that was got is claimed, and its packet stands in the lowest free slot
  Fresh :
      (slot e : ℕ) →
      free_slot m.table ≡ Some slot →
      (got : List Call) (left : List ℕ) →
      Gets m.limits m.cache 1 got (Ok (e ∷ [])) left →
      calls ≡ got ++ Claim e ∷ [] →
      answer ≡ Ok slot →
      after ≡ record m {
        cache = left;
        table = slice_set m.table slot (Some (fresh_seg m.limits e ∷ []));
      } →
      Allocs m calls answer after

-- what an alloc of n packets at once does
pub data AllocsBulk (m : Member) (n : ℕ) (calls : List Call) (answer : Result (List ℕ) Refusal)
    (after : Member) : Type 0 where
  -- fewer slots are free: nothing is asked for
  TooFull :
      length (free_slots m.table) < n →
      calls ≡ [] →
      answer ≡ Err PacketsFull →
      after ≡ m →
      AllocsBulk m n calls answer after
  -- the cache's get of n elements is refused
  BulkNotGot :
      n ≤ length (free_slots m.table) →
      (cause : Refusal) →
      Gets m.limits m.cache n calls (Err cause) m.cache →
      answer ≡ Err cause →
      after ≡ m →
      AllocsBulk m n calls answer after
  -- the elements are claimed in the order in which they were got, and their packets stand, in that
  -- order, in the lowest free slots
  FreshBulk :
      (es : List ℕ) →
      length es ≡ n →
      n ≤ length (free_slots m.table) →
      (got : List Call) (left : List ℕ) →
      Gets m.limits m.cache n got (Ok es) left →
      calls ≡ got ++ map Claim es →
      answer ≡ Ok (take n (free_slots m.table)) →
      after ≡ record m {
        cache = left;
        table = stood m.limits es (take n (free_slots m.table)) m.table;
      } →
      AllocsBulk m n calls answer after

-- nothing was freed yet
abbrev pub freed_nothing : Freed
freed_nothing = record { back = 0; flushed = 0; put_off = None }

-- what freeing has done once one element more was put back
abbrev pub counted : Freed → Put → Freed
counted freed Kept = record freed { back = freed.back + 1 }
counted freed (Flushed k) = record freed { back = freed.back + 1; flushed = freed.flushed + k }
counted freed (PutOff k e) = record freed { back = freed.back + 1; put_off = Some (k, e) }

-- what the end of one hold of an element does, by the cache and what was freed before and
-- afterwards
pub data EndsHold (l : Limits) (e : ℕ) (cache : List ℕ) (freed : Freed) (calls : List Call)
    (left : List ℕ) (done : Freed) : Type 0 where
  -- another hold is left
  Stays :
      calls ≡ Lower e Still ∷ [] →
      left ≡ cache →
      done ≡ freed →
      EndsHold l e cache freed calls left done
  -- the last hold ends: the element is put back through the cache
  GoesBack :
      (puts : List Call) (put : Put) →
      Puts l cache (e ∷ []) puts put left →
      calls ≡ Lower e Last ∷ puts →
      done ≡ counted freed put →
      EndsHold l e cache freed calls left done

-- one hold after another ends
abbrev pub EndsHolds : Limits → List ℕ → List ℕ → Freed → List Call → List ℕ → Freed → Type 0
EndsHolds l [] cache freed calls left done = (calls ≡ []) × (left ≡ cache) × (done ≡ freed)
EndsHolds l (e ∷ es) cache freed calls left done =
    (first : List Call) × (others : List Call) × (between : List ℕ) × (so_far : Freed)
    × (calls ≡ first ++ others) × EndsHold l e cache freed first between so_far
    × EndsHolds l es between so_far others left done

-- what a free of the packet in a slot does
pub data Frees (m : Member) (slot : ℕ) (calls : List Call) (answer : Result Freed Refusal)
    (after : Member) : Type 0 where
  -- the slot is empty, or there is none of this number
  NoPacket :
      slice_index_or m.table slot None ≡ None →
      calls ≡ [] →
      answer ≡ Err NoSuchPacket →
      after ≡ m →
      Frees m slot calls answer after
  -- the packet's holds end in order, and its slot is free
  WasFreed :
      (segs : List Seg) (left : List ℕ) (done : Freed) →
      slice_index_or m.table slot None ≡ Some segs →
      EndsHolds m.limits (holds_of_packet segs) m.cache freed_nothing calls left done →
      answer ≡ Ok done →
      after ≡ record m { cache = left; table = slice_set m.table slot None } →
      Frees m slot calls answer after

-- what is answered of the packet in a slot
abbrev pub of_packet : (List Seg → ℕ) → Option (List Seg) → Result ℕ Refusal
of_packet tell None = Err NoSuchPacket
of_packet tell (Some segs) = Ok (tell segs)

-- ---- what asks nothing of the shared pool: an answer, and what the worker has afterwards

-- a packet takes the place of the one in the slot, if it could be made, and its length is the
-- answer
abbrev pub resize_to : Option (List Seg) → Refusal → ℕ → Member → Result ℕ Refusal × Member
resize_to None cause slot m = (Err cause, m)
resize_to (Some segs) cause slot m =
    (Ok (pkt_len segs), record m { table = slice_set m.table slot (Some segs) })

abbrev pub resize_in : Option (List Seg) → (List Seg → Option (List Seg)) → Refusal → ℕ → Member →
    Result ℕ Refusal × Member
resize_in None change cause slot m = (Err NoSuchPacket, m)
resize_in (Some segs) change cause slot m = resize_to (change segs) cause slot m

-- a change of the lengths of the packet in a slot, which is refused for this cause where the
-- packet doesn't have the room or the data
abbrev pub resize : (List Seg → Option (List Seg)) → Refusal → ℕ → Member → Result ℕ Refusal × Member
resize change cause slot m = resize_in (slice_index_or m.table slot None) change cause slot m

abbrev pub Resizes : (List Seg → Option (List Seg)) → Refusal → Member → ℕ → Result ℕ Refusal →
    Member → Type 0
Resizes change cause m slot answer after =
    ◌≡◌ {A = Result ℕ Refusal × Member} (answer, after) (resize change cause slot m)

-- Two packets become one, in the first one's slot, by what is in the two slots: the tail's
-- segments stand after the head's, and its slot is free.
abbrev pub chain_in : Option (List Seg) → Option (List Seg) → ℕ → ℕ → Member →
    Result (Unit {0}) Refusal × Member
chain_in None second head tail m = (Err NoSuchPacket, m)
chain_in (Some first) None head tail m = (Err NoSuchPacket, m)
chain_in (Some first) (Some second) head tail m =
    if head == tail then (Err SamePacket, m)
    else if nat_lt max_segs (length first + length second) then (Err TooManySegs, m)
    else (
      Ok tt,
      record m { table = slice_set (slice_set m.table head (Some (first ++ second))) tail None },
    )

-- a chain of two packets
abbrev pub chain : ℕ → ℕ → Member → Result (Unit {0}) Refusal × Member
chain head tail m =
    chain_in (slice_index_or m.table head None) (slice_index_or m.table tail None) head tail m

abbrev pub Chains : Member → ℕ → ℕ → Result (Unit {0}) Refusal → Member → Type 0
Chains m head tail answer after =
    ◌≡◌ {A = Result (Unit {0}) Refusal × Member} (answer, after) (chain head tail m)
